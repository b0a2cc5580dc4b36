-- What a specification says of states: its first states, and the steps that an operator and Next allow. Init, Next and each operator may have 400
-- evaluations inside one another.
use Rattle.std.specs.Prelude.{◌≡◌, ◌⊎◌, ℕ, List, [], map, length, All, Option, Some, None, slice_get}
use Rattle.values_core.specs.Data.{Val}
use Rattle.values_core.specs.IsValue.{IsValue}
use Rattle.states_core.specs.States.{Values}
use Rattle.states_core.specs.declared.fault.Fault.{Fault}
use Rattle.names_terms.specs.declared.operator.Operator.{Operator}
use Rattle.names_terms.specs.declared.spec.Spec.{Spec}
use Rattle.eval_meanings.specs.Contexts.{Context}
use Rattle.eval_meanings.specs.Evaluates.{max_evaluations}
use Rattle.actions_meanings.specs.declared.which.Which.{Which}
use Rattle.actions_meanings.specs.declared.which.Which.TheVariants as which
use Rattle.actions_meanings.specs.Forms.{Setting}
use Rattle.actions_meanings.specs.Reads.{VariableSet}
use Rattle.actions_meanings.specs.Outcomes.{Fixes}
use Rattle.actions_meanings.specs.Holds.{Holds}
use Rattle.actions_meanings.specs.Fails.{Fails}

-- a state of a specification with so many variables: a value of each
pub record IsState (variables : ℕ) (t : Values) : Type 0 where
  pub long : length t ≡ variables
  pub values : All IsValue t

-- the values of parameters, a state and a next state
abbrev pub at_states : List Val → Values → Values → Context
at_states vs s t = record { slots = vs; now = map Some s; next = map Some t }

abbrev pub setting : Which → Spec → Setting
setting w s = record { which = w; variables = length s.variables; table = s.operators }

-- the initial predicate, of a state; all variables are read in the state that is made
abbrev pub InitHolds : Spec → Values → Type 0
InitHolds g t = Holds (setting which.Init g) max_evaluations (at_states [] t t) g.init

abbrev pub InitFails : Spec → VariableSet → Values → Fault → Type 0
InitFails g B t f = Fails (setting which.Init g) max_evaluations B (at_states [] t t) g.init f

abbrev pub NextHolds : Spec → Values → Values → Type 0
NextHolds g s t = Holds (setting which.Action g) max_evaluations (at_states [] s t) g.next

abbrev pub NextFails : Spec → VariableSet → Values → Values → Fault → Type 0
NextFails g B s t f = Fails (setting which.Action g) max_evaluations B (at_states [] s t) g.next f

-- an operator of the specification, by its number, on arguments
pub record Act : Type 0 where
  pub operator : ℕ
  pub arguments : List Val

abbrev pub ActHolds : Spec → Act → Values → Values → Type 0
ActHolds g a s t =
    (o : Operator) × (slice_get g.operators a.operator ≡ Some o) × Holds (setting which.Action g) max_evaluations (at_states a.arguments s t) o.body

abbrev pub ActFails : Spec → Act → VariableSet → Values → Values → Fault → Type 0
ActFails g a B s t f =
    (o : Operator) × (slice_get g.operators a.operator ≡ Some o) × Fails (setting which.Action g) max_evaluations B (at_states a.arguments s t) o.body f

abbrev pub ActFixes : Spec → Act → VariableSet → VariableSet → Type 0
ActFixes g a B C = (o : Operator) × (slice_get g.operators a.operator ≡ Some o) × Fixes (setting which.Action g) o.body B C

-- an operator, where there is one, and then Next
abbrev pub BothHold : Spec → Option Act → Values → Values → Type 0
BothHold g None s t = NextHolds g s t
BothHold g (Some a) s t = ActHolds g a s t × NextHolds g s t

-- a fault of the operator, or, where that holds, one of Next from what the operator leaves fixed
abbrev pub BothFail : Spec → Option Act → VariableSet → Values → Values → Fault → Type 0
BothFail g None B s t f = NextFails g B s t f
BothFail g (Some a) B s t f = ActFails g a B s t f ⊎ (ActHolds g a s t × ((C : VariableSet) × ActFixes g a B C × NextFails g C s t f))
