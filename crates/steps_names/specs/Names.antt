-- What a specification tells a reader of logs: its operators and variables by their names, and which operators have a form.
use Rattle.std.specs.Prelude.{◌≡◌, ◌≢◌, ◌<◌, ℕ, List, [], ◌∷◌, All, Bool, false, Option, Some, None, if◌then◌else◌, length, option_map, position, slice_get}
use Rattle.std.specs.Str.{bytes_eq}
use Rattle.states_core.specs.declared.var_id.VarId.{VarId}
use Rattle.names_terms.specs.declared.level.Level.TheVariants.{Action}
use Rattle.names_terms.specs.declared.operator.Operator.{Operator}
use Rattle.names_terms.specs.declared.spec.Spec.{Spec}
use Rattle.names_term_parts.specs.Limits.{is_above}
use Rattle.actions_meanings.specs.declared.which.Which.TheVariants as which
use Rattle.actions_meanings.specs.Reads.{VariableSet}
use Rattle.actions_meanings.specs.Outcomes.{Fixes}
use Rattle.logs_updates.specs.declared.update.Update.{Update}
use Rattle.steps_lines_defs.specs.Asks.{updated}
use Rattle.steps_lines_defs.specs.Says.{setting}
use Rattle.logs_lines.specs.Setting.{Setting}

-- whether the definition has this name; the empty text, which definitions of a LET have, counts as no name
abbrev pub is_called : List ℕ → Operator → Bool
is_called [] o = false
is_called (b ∷ bs) o = bytes_eq o.name (b ∷ bs)

-- the number and how many parameters the definition there has, where its level is that of an action at most
abbrev pub told : ℕ → Option Operator → Option (ℕ × ℕ)
told k None = None
told k (Some o) = if is_above o.level Action then None else Some (k, o.params)

abbrev pub told_at : List Operator → Option ℕ → Option (ℕ × ℕ)
told_at ops None = None
told_at ops (Some k) = told k (slice_get ops k)

-- what is told of the definition with this name
abbrev pub operator_named : List Operator → List ℕ → Option (ℕ × ℕ)
operator_named ops name = told_at ops (position (is_called name) ops)

-- the variable with this name
abbrev pub variable_named : List (List ℕ) → List ℕ → Option VarId
variable_named names name = option_map (λ x. record { 0 = x }) (position (λ other. bytes_eq other name) names)

-- each update is of one of so many variables
abbrev pub AreOf : ℕ → List Update → Type 0
AreOf variables updates = All (λ u. u.path.variable.0 < variables) updates

-- The definition of that number has a name, and a form where the variables of the updates, which are the specification's, are fixed before it.
pub record HasFormWith (s : Spec) (k : ℕ) (updates : List Update) : Type 0 where
  pub operator : Operator
  pub is : slice_get s.operators k ≡ Some operator
  pub named : operator.name ≢ []
  pub within : AreOf (length s.variables) updates
  pub leaves : VariableSet
  pub form : Fixes (setting which.Action s) operator.body (updated updates) leaves

abbrev pub names_of : Spec → Setting
names_of s = record { operator = operator_named s.operators; variable = variable_named s.variables; HasForm = λ k updates. HasFormWith s k updates }

-- the definition of that number has this name and so many parameters, and its level is that of an action at most
pub record IsTold (s : Spec) (name : List ℕ) (k parameters : ℕ) : Type 0 where
  pub operator : Operator
  pub is : slice_get s.operators k ≡ Some operator
  pub some : name ≢ []
  pub named : operator.name ≡ name
  pub level : is_above operator.level Action ≡ false
  pub takes : operator.params ≡ parameters
