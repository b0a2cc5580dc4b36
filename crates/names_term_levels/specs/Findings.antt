-- For the prover: what the reading of a text finds, term by term, where notes tell of the definitions.
use Rattle.std.specs.Prelude.{◌≡◌, ◌↔◌, MatchOption, ◌⊎◌, ◌<◌, ◌+◌, ◌++◌, ℕ, Bool, true, false, List, Contains, IsTrue, Option, Some, slice_get}
use Rattle.base_core.specs.declared.place.Place.{Place}
use Rattle.names_terms.specs.declared.level.Level.TheVariants.{Constant}
use Rattle.names_terms.specs.declared.operator.Operator.{Operator}
use Rattle.names_terms.specs.Terms.{Term, Meaning, level_of, place_of}
use Rattle.names_term_parts.specs.declared.fault.LevelFault.{LevelFault}
use Rattle.names_term_parts.specs.declared.fault.LevelFault.TheVariants.{TooHigh, PrimedArgument}
use Rattle.names_term_levels.specs.declared.note.Note.{Note}
use Rattle.names_term_levels.specs.Faults.{IsFirst}
use Rattle.names_term_parts.specs.FaultOrder.{is_before}
use Rattle.names_term_parts.specs.Limits.{Limit, limits, is_above}
use Rattle.names_term_parts.specs.Marks.{has}
use Rattle.names_term_parts.specs.Parts.{Part}
use Rattle.names_term_parts.specs.Slots.{MentionsBelow}
use Rattle.names_term_levels.specs.Arguments.{arguments_from}
use Rattle.names_term_levels.specs.Told.{IsFaultBy, IsNoted, IsPrimedBy, OccursBy}
use Rattle.names_term_parts.specs.Weights.{weight, total}

-- a slot that stands in the text, one that stands under a prime, a fault
pub data Finding : Type 0 where
  Standing : ℕ → Finding
  Under : ℕ → Finding
  Wrong : LevelFault → Finding

-- what is found is as early as the fault
abbrev pub Reaches : Option LevelFault → LevelFault → Type 0
Reaches found f = (g : LevelFault) × (found ≡ Some g) × (is_before f g ≡ false)

abbrev pub Covers : Note → Finding → Type 0
Covers n (Standing i) = IsTrue (has n.occurs i)
Covers n (Under i) = IsTrue (has n.primed i)
Covers n (Wrong f) = Reaches n.fault f

abbrev pub Says : Note → Finding → Type 0
Says n (Standing i) = IsTrue (has n.occurs i)
Says n (Under i) = IsTrue (has n.primed i)
Says n (Wrong f) = n.fault ≡ Some f

abbrev pub Finds : List Operator → List Note → Part → Finding → Type 0
Finds ops ns p (Standing i) = OccursBy ops ns p.term i
Finds ops ns p (Under i) = IsPrimedBy ops ns p.term i ⊎ ((p.primed ≡ true) × OccursBy ops ns p.term i)
Finds ops ns p (Wrong f) = IsFaultBy ops ns p.term f

-- the note is told these findings more
pub record Adds (Own : Finding → Type 0) (old new : Note) : Type 0 where
  pub kept : (x : Finding) → Covers old x → Covers new x
  pub told : (x : Finding) → Own x → Covers new x
  pub sound : (x : Finding) → Says new x → Says old x ⊎ Own x

abbrev pub LimitFinds : Place → Meaning → Finding → Type 0
LimitFinds at m (Wrong f) = (y : Limit) × Contains (limits at m) y × (is_above y.found y.allowed ≡ true) × (f ≡ TooHigh y.found y.allowed y.at)
LimitFinds at m x = ⊥

abbrev pub SlotFinds : ℕ → Bool → Finding → Type 0
SlotFinds i b (Standing j) = j ≡ i
SlotFinds i b (Under j) = (b ≡ true) × (j ≡ i)
SlotFinds i b (Wrong f) = ⊥

-- what a definition hands on where it is used
abbrev pub NamedFinds : List Operator → List Note → Bool → ℕ → Finding → Type 0
NamedFinds ops ns b k (Standing j) = (o : Operator) × (n : Note) × IsNoted ops ns k o n × (j < o.outer) × IsTrue (has n.occurs j)
NamedFinds ops ns b k (Under j) = (o : Operator) × (n : Note) × IsNoted ops ns k o n × (j < o.outer) × (IsTrue (has n.primed j) ⊎ ((b ≡ true) × IsTrue (has n.occurs j)))
NamedFinds ops ns b k (Wrong f) = ⊥

-- what a definition of a LET has in its text
abbrev pub LetFinds : List Operator → List Note → Bool → ℕ → Finding → Type 0
LetFinds ops ns b k (Wrong f) = (n : Note) × (slice_get ns k ≡ Some n) × (n.fault ≡ Some f)
LetFinds ops ns b k x = NamedFinds ops ns b k x

abbrev pub LetsFind : List Operator → List Note → Bool → List ℕ → Finding → Type 0
LetsFind ops ns b ks x = (k : ℕ) × Contains ks k × LetFinds ops ns b k x

-- arguments of primed parameters that are no constants
abbrev pub ArgumentFinds : List Bool → ℕ → List Term → Finding → Type 0
ArgumentFinds primed outer es (Wrong f) = (j : ℕ) × (e : Term) × (slice_get es j ≡ Some e) × (has primed (outer + j) ≡ true) × (is_above (level_of e) Constant ≡ true) × (f ≡ PrimedArgument (place_of e))
ArgumentFinds primed outer es x = ⊥

abbrev pub SomeOf : List Part → (Part → Type 0) → Type 0
SomeOf ps P = (p : Part) × Contains ps p × P p

-- One term is read: its findings are told, or are those of its parts, which are put on the stack.
pub record IsRead (ops : List Operator) (ns : List Note) (known : ℕ) (p : Part) (pushed : List Part) (old new : Note) : Type 0 where
  pub kept : (x : Finding) → Covers old x → Covers new x
  pub all : (x : Finding) → Finds ops ns p x → Covers new x ⊎ SomeOf pushed (λ q. Finds ops ns q x)
  pub sound : (x : Finding) → Says new x → Says old x ⊎ Finds ops ns p x
  pub rest : (x : Finding) → SomeOf pushed (λ q. Finds ops ns q x) → Finds ops ns p x
  pub below : (q : Part) → Contains pushed q → MentionsBelow known q.term
  pub falls : total pushed < weight p.term

abbrev pub Reads : List Operator → List Note → ℕ → Part → List Part → List Part → Note → Note → Type 0
Reads ops ns known p before after old new = (pushed : List Part) × (after ≡ before ++ pushed) × IsRead ops ns known p pushed old new

-- a use of a definition is read: the slots around it, and its arguments
abbrev pub ReadsUse : List Operator → List Note → Bool → ℕ → List Term → List Part → List Part → Note → Note → Type 0
ReadsUse ops ns b k es before after old new =
    (o : Operator) × (n : Note) × IsNoted ops ns k o n × (after ≡ before ++ arguments_from n.primed o.outer b 0 es) × (mid : Note) × Adds (NamedFinds ops ns b k) old mid × Adds (ArgumentFinds n.primed o.outer es) mid new

-- what is told of a whole text
pub record IsTold (ops : List Operator) (ns : List Note) (e : Term) (n : Note) : Type 0 where
  pub occurs : (i : ℕ) → IsTrue (has n.occurs i) ↔ OccursBy ops ns e i
  pub primed : (i : ℕ) → IsTrue (has n.primed i) ↔ IsPrimedBy ops ns e i
  pub fault : MatchOption n.fault ((f : LevelFault) → ¬ IsFaultBy ops ns e f) (IsFirst (IsFaultBy ops ns e))

-- a text of which these terms are still to be read
pub record IsOnTheWay (ops : List Operator) (ns : List Note) (known : ℕ) (e : Part) (stack : List Part) (n : Note) : Type 0 where
  pub all : (x : Finding) → Finds ops ns e x → Covers n x ⊎ SomeOf stack (λ q. Finds ops ns q x)
  pub sound : (x : Finding) → Says n x → Finds ops ns e x
  pub rest : (x : Finding) → SomeOf stack (λ q. Finds ops ns q x) → Finds ops ns e x
  pub below : (q : Part) → Contains stack q → MentionsBelow known q.term
