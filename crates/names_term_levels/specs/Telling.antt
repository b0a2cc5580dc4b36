-- For the prover: what notes tell of the bodies of definitions while these are read again.
use Rattle.std.specs.Prelude.{◌≡◌, ◌↔◌, ◌+◌, ◌||◌, ℕ, zero, suc, Bool, true, false, if◌then◌else◌, List, [], ◌∷◌, ◌++◌, length, map, IsTrue, Option, Some, None}
use Rattle.names_terms.specs.declared.operator.Operator.{Operator}
use Rattle.names_terms.specs.Terms.{Term, Placed, Meaning, Slot, Use, place_of}
use Rattle.names_term_parts.specs.declared.fault.LevelFault.{LevelFault}
use Rattle.names_term_parts.specs.declared.fault.LevelFault.TheVariants.{TooHigh, PrimedArgument}
use Rattle.names_term_parts.specs.FaultOrder.{is_before}
use Rattle.names_term_parts.specs.Limits.{Limit, limits}
use Rattle.names_term_parts.specs.Marks.{Lacks, has}
use Rattle.names_term_parts.specs.Parts.{part, parts, listed}
use Rattle.names_term_parts.specs.Slots.{IsPrimed, Occurs}
use Rattle.names_term_parts.specs.Weights.{weight}
use Rattle.names_term_levels.specs.declared.note.Note.{Note}
use Rattle.names_term_levels.specs.Faults.{IsFault}
use Rattle.names_term_levels.specs.Findings.{Adds, Covers, Finding, Finds, IsTold, Says, Standing, Under, Wrong}
use Rattle.names_term_levels.specs.Shape.{IsFair}
use Rattle.names_term_levels.specs.Told.{IsFairBy, IsNoted}

pub record IsUntold (n : Note) : Type 0 where
  pub occurs : n.occurs ≡ []
  pub primed : n.primed ≡ []
  pub fault : n.fault ≡ None
  pub fair : n.fair ≡ false

-- what a text tells where notes tell of the definitions
pub record IsToldBy (ops : List Operator) (ns : List Note) (e : Term) (n : Note) : Type 0 where
  pub told : IsTold ops ns e n
  pub fair : IsTrue n.fair ↔ IsFairBy ns e

-- what is true of a text
abbrev pub Has : List Operator → Term → Finding → Type 0
Has ops e (Standing i) = Occurs ops e i
Has ops e (Under i) = IsPrimed ops e i
Has ops e (Wrong f) = IsFault ops e f

-- what the note says of a text is true
pub record IsSound (ops : List Operator) (e : Term) (n : Note) : Type 0 where
  pub says : (x : Finding) → Says n x → Has ops e x
  pub fair : IsTrue n.fair → IsFair ops e

abbrev pub AreSound : List Operator → List Note → Type 0
AreSound ops ns = (k : ℕ) (o : Operator) (n : Note) → IsNoted ops ns k o n → IsSound ops o.body n

-- the note tells all that the text tells where notes tell of the definitions
pub record IsClosed (ops : List Operator) (ns : List Note) (e : Term) (n : Note) : Type 0 where
  pub covers : (x : Finding) → Finds ops ns (part false e) x → Covers n x
  pub fair : IsFairBy ns e → IsTrue n.fair

abbrev pub IsClosedAt : List Operator → List Note → ℕ → Type 0
IsClosedAt ops ns k = (o : Operator) (n : Note) → IsNoted ops ns k o n → IsClosed ops ns o.body n

abbrev pub AreClosed : List Operator → List Note → Type 0
AreClosed ops ns = (k : ℕ) → IsClosedAt ops ns k

-- the fault goes before what was found
abbrev pub GoesBefore : Option LevelFault → Option LevelFault → Type 0
GoesBefore found None = ⊥
GoesBefore None (Some f) = Unit {0}
GoesBefore (Some g) (Some f) = is_before f g ≡ true

-- the second note tells what the first does not
pub data TellsMore (n told : Note) : Type 0 where
  more_occur : Lacks n.occurs told.occurs → TellsMore n told
  more_primed : Lacks n.primed told.primed → TellsMore n told
  goes_before : GoesBefore n.fault told.fault → TellsMore n told
  is_fair : told.fair ≡ true → n.fair ≡ false → TellsMore n told

-- a note with what another tells
pub record Learns (old told new : Note) : Type 0 where
  pub adds : Adds (Says told) old new
  pub fair : new.fair ≡ (old.fair || told.fair)

-- How much may still be told. Each slot of a text is below the bound of its table, and each fault is among the table's.

abbrev pub sum_of : {A : Type 0} → (A → ℕ) → List A → ℕ
sum_of of [] = 0
sum_of of (x ∷ xs) = of x + sum_of of xs

abbrev pub all_of : {A B : Type 0} → (A → List B) → List A → List B
all_of of [] = []
all_of of (x ∷ xs) = of x ++ all_of of xs

abbrev pub slot_bound : Meaning → ℕ
slot_bound (Slot i) = suc i
slot_bound m = 0

-- above each slot in the text, so many terms deep
abbrev pub bound_of : ℕ → Term → ℕ
bound_of zero e = 0
bound_of (suc n) (Placed at l m) = slot_bound m + sum_of (λ p. bound_of n p.term) (parts false m)

abbrev pub too_high : Limit → LevelFault
too_high x = TooHigh x.found x.allowed x.at

abbrev pub argument_faults : Meaning → List LevelFault
argument_faults (Use k ts) = map (λ e. PrimedArgument (place_of e)) (listed ts)
argument_faults m = []

-- all that may be wrong in the text, so many terms deep
abbrev pub faults_in : ℕ → Term → List LevelFault
faults_in zero e = []
faults_in (suc n) (Placed at l m) = (map too_high (limits at m) ++ argument_faults m) ++ all_of (λ p. faults_in n p.term) (parts false m)

abbrev pub bound_all : List Operator → ℕ
bound_all ops = sum_of (λ o. bound_of (weight o.body) o.body) ops

abbrev pub faults_all : List Operator → List LevelFault
faults_all ops = all_of (λ o. faults_in (weight o.body) o.body) ops

-- how many slots below a bound are not marked
abbrev pub unmarked : ℕ → List Bool → ℕ
unmarked zero marks = 0
unmarked (suc n) marks = (if has marks n then 0 else 1) + unmarked n marks

-- how many faults go before one
abbrev pub count_before : LevelFault → List LevelFault → ℕ
count_before f fs = sum_of (λ g. if is_before g f then 1 else 0) fs

abbrev pub earlier_left : List LevelFault → Option LevelFault → ℕ
earlier_left all None = suc (length all)
earlier_left all (Some f) = count_before f all

abbrev pub left_of : ℕ → List LevelFault → Note → ℕ
left_of bound all n = (unmarked bound n.occurs + unmarked bound n.primed) + (earlier_left all n.fault + (if n.fair then 0 else 1))

abbrev pub left_to_tell : List Operator → List Note → ℕ
left_to_tell ops ns = sum_of (left_of (bound_all ops) (faults_all ops)) ns
