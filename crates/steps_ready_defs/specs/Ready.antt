-- What the steps of a specification are asked under.
use Rattle.std.specs.Prelude.{◌≡◌, ◌≢◌, ◌<◌, ℕ, false, List, [], length, All, Some, Ok, slice_get}
use Rattle.values_core.specs.Data.{Val}
use Rattle.names_terms.specs.declared.level.Level.TheVariants.{Action}
use Rattle.names_terms.specs.declared.operator.Operator.{Operator}
use Rattle.names_terms.specs.declared.spec.Spec.{Spec}
use Rattle.eval_meanings.specs.Laws.{AreValues}
use Rattle.names_term_parts.specs.Limits.{is_above}
use Rattle.actions_meanings.specs.declared.which.Which.TheVariants as which
use Rattle.actions_meanings.specs.Reads.{VariableSet, in_none}
use Rattle.actions_meanings.specs.Outcomes.{Fixes, IsWholeOutcome}
use Rattle.logs_updates.specs.declared.line.Line.{Line}
use Rattle.logs_updates.specs.declared.update.See.{See}
use Rattle.steps_lines_defs.specs.Says.{Act, ActFixes, setting}
use Rattle.steps_lines_defs.specs.Asks.{act_of, updated}
use Rattle.steps_lines_defs.specs.Steps.{silent_act}
use Rattle.eval_known.specs.Known.{KnowsSpecification}
use Rattle.names_specification_laws.specs.IsSpec.{IsSpec}

-- The specification is in order, with the values that stand in it, and its Init, its Next and the operator of the steps that no line shows have forms:
-- run where nothing is fixed, Init and Next fix every variable.
pub record IsReadySpec (g : Spec) : Type 0 where
  pub ordered : IsSpec g
  pub known : KnowsSpecification g
  pub init : (C : VariableSet) × IsWholeOutcome (setting which.Init g) g.init in_none (Ok C)
  pub next : (C : VariableSet) × IsWholeOutcome (setting which.Action g) g.next in_none (Ok C)
  pub silent : (a : Act) → silent_act g.silent ≡ Some a → (C : VariableSet) × ActFixes g a in_none C

-- The definition can be taken on these arguments, where just these variables are fixed before.
pub record IsReadyCall (g : Spec) (B : VariableSet) (vs : List Val) (o : Operator) : Type 0 where
  pub named : o.name ≢ []
  pub level : is_above o.level Action ≡ false
  pub arguments : length vs ≡ o.params
  pub values : AreValues vs
  pub form : (C : VariableSet) × Fixes (setting which.Action g) o.body B C

abbrev pub IsReadyAct : Spec → VariableSet → Act → Type 0
IsReadyAct g B a = (o : Operator) × (slice_get g.operators a.operator ≡ Some o) × IsReadyCall g B a.arguments o

-- what is seen is of the specification's variables
abbrev pub AreOfVariables : Spec → List See → Type 0
AreOfVariables g sees = All (λ see. see.path.variable.0 < length g.variables) sees

-- The line changes and sees the specification's variables, and its event, if it has one, can be taken where its updates are made.
pub record IsReadyLine (g : Spec) (line : Line) : Type 0 where
  pub updates : All (λ u. u.path.variable.0 < length g.variables) line.updates
  pub sees : AreOfVariables g line.sees
  pub event : (a : Act) → act_of line.event ≡ Some a → IsReadyAct g (updated line.updates) a
