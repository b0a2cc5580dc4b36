-- For the prover: what is known of the walk that is kept for the forms of operators.
use Rattle.std.specs.Prelude.{◌≡◌, ◌≢◌, ◌≤◌, ℕ, List, [], Bool, true, false, Some, length, slice_get}
use Rattle.names_terms.specs.declared.operator.Operator.{Operator}
use Rattle.names_terms.specs.Terms.{Term}
use Rattle.names_term_parts.specs.Slots.{MentionsBelow}
use Rattle.actions_meanings.specs.declared.which.Which.{Which}
use Rattle.actions_meanings.specs.declared.which.Which.TheVariants as which
use Rattle.actions_meanings.specs.Reads.{VariableSet}
use Rattle.actions_meanings.specs.Outcomes.{Fixes}
use Rattle.actions_early_reads.specs.declared.walking.Walk.{Walk}
use Rattle.actions_early_reads.specs.Levels.{StaysBelow}
use Rattle.actions_early_reads.specs.Orderly.{IsSoundThroughout}
use Rattle.actions_early_reads.specs.Ready.{IsReady, setting_of, table_of}

abbrev pub is_action : Which → Bool
is_action which.Init = false
is_action which.Action = true

-- no two definitions have one name
abbrev pub NamesDiffer : List Operator → Type 0
NamesDiffer ops = (j k : ℕ) (o q : Operator) → slice_get ops j ≡ Some o → slice_get ops k ≡ Some q → o.name ≢ [] → o.name ≡ q.name → j ≡ k

-- the definition of that number has a name, and this body
pub record IsNamedBody (ops : List Operator) (k : ℕ) (body : Term) : Type 0 where
  pub operator : Operator
  pub is : slice_get ops k ≡ Some operator
  pub named : operator.name ≢ []
  pub same : operator.body ≡ body

abbrev pub HasNoName : List Operator → ℕ → Type 0
HasNoName ops k = (o : Operator) → slice_get ops k ≡ Some o → o.name ≡ []

-- the body is in order, where it uses definitions of the table, and those below a bound alone or is constant
pub record IsBodyInOrder (w : Walk) (bound : ℕ) (body : Term) : Type 0 where
  pub ready : IsReady w
  pub within : bound ≤ length (table_of w)
  pub uses : MentionsBelow (length (table_of w)) body
  pub below : StaysBelow bound body
  pub sound : IsSoundThroughout (table_of w) w.variables body

abbrev pub HasForm : Walk → Term → VariableSet → Type 0
HasForm w body B = (C : VariableSet) × Fixes (setting_of w) body B C
