-- What is told of an action at two whole states, with all variables fixed before.
use Rattle.std.specs.Prelude.{◌≡◌, ℕ, true, List, map, Contains, Some}
use Rattle.values_core.specs.Data.{Val}
use Rattle.values_core.specs.IsValue.{IsValue}
use Rattle.states_core.specs.declared.fault.Fault.{Fault}
use Rattle.names_terms.specs.Terms.{Term}
use Rattle.eval_meanings.specs.Contexts.{Context, Places}
use Rattle.actions_meanings.specs.declared.which.Which.{Which}
use Rattle.actions_meanings.specs.declared.which.Which.TheVariants as which
use Rattle.actions_meanings.specs.Forms.{Setting}
use Rattle.actions_meanings.specs.Reads.{VariableSet}
use Rattle.actions_meanings.specs.Holds.{Holds}
use Rattle.actions_meanings.specs.Fails.{Fails}
use Rattle.judge_truth.specs.declared.told.Told.{Told}
use Rattle.judge_truth.specs.declared.told.Told.TheVariants as told

-- all variables
abbrev pub everything : VariableSet
everything x = true

-- the action has no fault at the states of the context
abbrev pub HasNoFault : Setting → ℕ → Context → Term → Type 0
HasNoFault g d c a = (f : Fault) → ¬ Fails g d everything c a f

-- it holds there or it does not, and has no fault; or it has this fault
abbrev pub IsTold : Setting → ℕ → Context → Term → Told → Type 0
IsTold g d c a told.Holds = Holds g d c a × HasNoFault g d c a
IsTold g d c a told.HoldsNot = ¬ Holds g d c a × HasNoFault g d c a
IsTold g d c a (told.Faults f) = Fails g d everything c a f

-- in Init both states are the one that is made
abbrev pub AreStates : Which → Places → Places → Type 0
AreStates which.Init p q = p ≡ q
AreStates which.Action p q = Unit {0}

-- no place is empty, and what stands there is a value
abbrev pub IsWhole : Places → Type 0
IsWhole p = (t : List Val) × (p ≡ map Some t) × ((v : Val) → Contains t v → IsValue v)
