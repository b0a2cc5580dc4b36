-- What giving a variable a value finds.
use Rattle.std.specs.Prelude.{◌≡◌, ℕ, List, All, Some, slice_get}
use Rattle.values_core.specs.Data.{Val}
use Rattle.states_core.specs.States.{Values}
use Rattle.eval_meanings.specs.Contexts.{Places}
use Rattle.actions_meanings.specs.Reads.{VariableSet, with_variable}
use Rattle.logs_updates.specs.Changes.{LeadsTo}
use Rattle.logs_updates.specs.declared.update.See.{See}
use Rattle.steps_found_states.specs.Walks.{Finds}

-- what is seen of the variable stands in the value
abbrev pub AgreesAt : List See → ℕ → Val → Type 0
AgreesAt sees x v = All (λ see. see.path.variable.0 ≡ x → LeadsTo see.path.keys v see.value) sees

-- the variable has a value for which the fact holds
abbrev pub HasSuch : ℕ → (Val → Type 0) → Values → Type 0
HasSuch x P t = (v : Val) × (slice_get t x ≡ Some v) × P v

-- from p, the places in which the variable x has a value for which the fact holds
abbrev pub Gets : List See → VariableSet → Places → ℕ → (Val → Type 0) → List Places → Type 0
Gets sees B p x P qs = Finds sees p (λ C. C ≡ with_variable B x) (HasSuch x P) (λ t f. ⊥) qs
