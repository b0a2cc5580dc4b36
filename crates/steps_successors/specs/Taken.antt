-- For the prover: what the walk of an operator, where there is one, and then of Next finds.
use Rattle.std.specs.Prelude.{◌≡◌, ◌⊎◌, ◌++◌, ◌∷◌, [], ℕ, Bool, true, List, map, length, Contains, Option, Some, None, Result}
use Rattle.values_core.specs.Data.{Val}
use Rattle.states_core.specs.States.{Values}
use Rattle.names_terms.specs.Terms.{Term}
use Rattle.names_terms.specs.declared.spec.Spec.{Spec}
use Rattle.eval_meanings.specs.declared.fault.EvalFault.{EvalFault}
use Rattle.eval_meanings.specs.declared.fault.EvalFault.TheVariants.{Refused, NoMemory}
use Rattle.eval_meanings.specs.Contexts.{Context, Places}
use Rattle.eval_meanings.specs.Laws.{IsWithin}
use Rattle.eval_meanings.specs.Outcomes.{fault}
use Rattle.actions_meanings.specs.declared.which.Which.TheVariants as which
use Rattle.actions_meanings.specs.Forms.{Setting}
use Rattle.actions_meanings.specs.Outcomes.{Fixes}
use Rattle.actions_meanings.specs.Reads.{VariableSet}
use Rattle.logs_updates.specs.declared.line.Line.{Line}
use Rattle.logs_updates.specs.declared.update.See.{See}
use Rattle.steps_lines_defs.specs.Says.{Act, ActFixes, BothFail, BothHold, setting}
use Rattle.steps_lines_defs.specs.Asks.{HasNoEvent}
use Rattle.actions_meanings.specs.Filled.{Fills}
use Rattle.steps_found_states.specs.Walks.{Agrees, Found}
use Rattle.steps_found_states.specs.Grounds.{Grounds}
use Rattle.steps_found_states.specs.Parts.{WalkedEach}
use Rattle.states_layers.specs.declared.steps.StepFault.{StepFault}
use Rattle.states_layers.specs.declared.steps.StepFault.TheVariants as step
use Rattle.steps_ready_defs.specs.Ready.{IsReadyAct}

-- with these slots, in the state before
abbrev pub standing : List Val → Values → Context
standing vs s = record { slots = vs; now = map Some s; next = map Some s }

abbrev pub LeavesBoth : Spec → Option Act → VariableSet → VariableSet → Type 0
LeavesBoth g None B C = Fixes (setting which.Action g) g.next B C
LeavesBoth g (Some a) B C = (D : VariableSet) × ActFixes g a B D × Fixes (setting which.Action g) g.next D C

-- from where it is walked
pub record IsStart (g : Spec) (sees : List See) (act : Option Act) (B : VariableSet) (p : Places) : Type 0 where
  pub long : length p ≡ length g.variables
  pub fills : Fills B p
  pub agrees : Agrees sees p
  pub acts : (a : Act) → act ≡ Some a → IsReadyAct g B a

abbrev pub CanStart : Spec → List See → Option Act → Places → Type 0
CanStart g sees act p = (B : VariableSet) × IsStart g sees act B p

abbrev pub BothFound : Spec → Values → List See → Option Act → Places → Result (List Places) EvalFault → Type 0
BothFound g s sees act p r = (B : VariableSet) → IsStart g sees act B p → Found sees p (LeavesBoth g act B) (BothHold g act s) (BothFail g act B s) r

-- the operator of that number on arguments
abbrev pub act_at : ℕ → List Val → Act
act_at k vs = record { operator = k; arguments = vs }

-- one term, from each of several places
abbrev pub AllGrounded : Setting → ℕ → List See → List Places → Context → Term → Type 0
AllGrounded g d sees ps c a = (p : Places) → Contains ps p → (B : VariableSet) × Grounds g d sees B p c a

abbrev pub AllWalked : Setting → ℕ → List See → List Places → Context → Term → Result (List Places) EvalFault → Type 0
AllWalked g d sees ps c a r = (B : VariableSet) → ((p : Places) → Contains ps p → Grounds g d sees B p c a) → WalkedEach g d sees B ps c a r

-- the fault of a step that the fault of an evaluation is
abbrev pub step_fault : EvalFault → StepFault
step_fault (Refused kind at) = step.Eval (fault kind at)
step_fault NoMemory = step.NoMemory

-- the state before, q, may stay as it is in a line's step, where its updates make p of it
abbrev pub MayRest : Bool → Line → Places → Places → Type 0
MayRest stutter line p q = (stutter ≡ true) × HasNoEvent line.event × IsWithin p q × Agrees line.sees q

-- one thing more where a fact holds
abbrev pub AddsIf : {A : Type 0} → Type 0 → A → List A → List A → Type 0
AddsIf R x old now = (R × (now ≡ old ++ x ∷ [])) ⊎ (¬ R × (now ≡ old))
