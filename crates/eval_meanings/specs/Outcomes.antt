-- Outcomes of an evaluation: a value, or a fault with its kind and its place; and how the outcomes of parts make that of the whole, in
-- their order: what faults first is the fault of the whole.
use Rattle.std.specs.Prelude.{◌≡◌, ◌⊎◌, ◌↔◌, ℕ, zero, suc, Bool, true, false, List, [], ◌∷◌, Result, Ok, Err, IsTrue}
use Rattle.base_core.specs.declared.place.Place.{Place}
use Rattle.values_core.specs.Data.{Val, truth}
use Rattle.values_core.specs.declared.fault.EvalKind.{EvalKind}
use Rattle.values_core.specs.declared.fault.EvalKind.TheVariants.{NotBoolean}
use Rattle.values_core.specs.declared.fault.OpFault.{OpFault}
use Rattle.values_core.specs.declared.fault.OpFault.TheVariants.{Refused}
use Rattle.states_core.specs.declared.fault.Fault.{Fault}

abbrev pub fault : EvalKind → Place → Fault
fault kind at = record { kind = kind; at = at }

-- the outcomes that a thing may have
abbrev pub Outcome : Type 0 → Type 1
Outcome A = Result A Fault → Type 0

-- just this value
abbrev pub Gives : {A : Type 0} → A → Outcome A
Gives v r = r ≡ Ok v

-- just this fault
abbrev pub Fails : {A : Type 0} → EvalKind → Place → Outcome A
Fails kind at r = r ≡ Err (fault kind at)

-- the fault that the first has, or what comes of its value
abbrev pub Then : {A B : Type 0} → Outcome A → (A → Outcome B) → Outcome B
Then P K r = ((v : _) × P (Ok v) × K v r) ⊎ ((f : Fault) × P (Err f) × (r ≡ Err f))

-- the one or the other, by a truth value
abbrev pub Either : {A : Type 0} → Bool → Outcome A → Outcome A → Outcome A
Either true P Q r = P r
Either false P Q r = Q r

-- whether a statement is true
abbrev pub Decides : Type 0 → Outcome Bool
Decides P r = (b : Bool) × (IsTrue b ↔ P) × (r ≡ Ok b)

-- Of a list from left to right: what comes of each.
abbrev pub Each : {A B : Type 0} → (A → Outcome B) → List A → Outcome (List B)
Each P [] = Gives []
Each P (x ∷ xs) = Then (P x) (λ y. Then (Each P xs) (λ ys. Gives (y ∷ ys)))

-- whether all of them are true: none behind the first that is false is asked for
abbrev pub AllTrue : {A : Type 0} → (A → Outcome Bool) → List A → Outcome Bool
AllTrue P [] = Gives true
AllTrue P (x ∷ xs) = Then (P x) (λ b. Either b (AllTrue P xs) (Gives false))

-- whether one of them is true: none behind the first that is true is asked for
abbrev pub SomeTrue : {A : Type 0} → (A → Outcome Bool) → List A → Outcome Bool
SomeTrue P [] = Gives false
SomeTrue P (x ∷ xs) = Then (P x) (λ b. Either b (Gives true) (SomeTrue P xs))

-- The truth value that a value is, where it must be one: else the fault stands at the place of the operand.
abbrev pub truth_at : Place → Val → Outcome Bool
truth_at at (truth b) r = Gives b r
truth_at at v r = Fails NotBoolean at r

-- a truth value as a value
abbrev pub IsTruth : Outcome Bool → Outcome Val
IsTruth P = Then P (λ b. Gives (truth b))

-- What an operation on values answers, with the place p n where it names the operand of number n: the number 255 stands for the whole term.
-- Want of memory is no outcome.
abbrev pub Operated : {A : Type 0} → (Result A OpFault → Type 0) → (ℕ → Place) → Outcome A
Operated Q p (Ok v) = Q (Ok v)
Operated Q p (Err f) = (n : ℕ) × Q (Err (Refused f.kind n)) × (f.at ≡ p n)

-- the place of the operand of that number, or else that of the term
abbrev pub place_in : Place → List Place → ℕ → Place
place_in at [] n = at
place_in at (p ∷ ps) zero = p
place_in at (p ∷ ps) (suc n) = place_in at ps n
