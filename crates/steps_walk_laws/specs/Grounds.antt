-- What the walk of an action in order rests on.
use Rattle.std.specs.Prelude.{◌≡◌, ℕ, List, length, Some, slice_get}
use Rattle.names_terms.specs.declared.operator.Operator.{Operator}
use Rattle.names_terms.specs.Terms.{Term}
use Rattle.eval_meanings.specs.Contexts.{Context, Places}
use Rattle.eval_meanings.specs.Laws.{AreValues, HoldValues, KnowsValues}
use Rattle.actions_meanings.specs.Forms.{Setting}
use Rattle.actions_meanings.specs.Outcomes.{Fixes}
use Rattle.actions_meanings.specs.Reads.{VariableSet}
use Rattle.logs_updates.specs.declared.update.See.{See}
use Rattle.actions_meanings.specs.Filled.{Fills}
use Rattle.names_specification_laws.specs.IsSpec.{IsAtMost}
use Rattle.steps_walk_laws.specs.Stable.{IsOrderly, KnowsBefore, highest}
use Rattle.steps_found_states.specs.Walks.{Agrees}
use Rattle.steps_found_states.specs.Grounds.{Grounds}

-- an action in order that has a form, where just the variables that were fixed before are filled, and all that is known is a value
abbrev pub OrderlyActionsAreGrounded : Type 0
OrderlyActionsAreGrounded =
    (g : Setting) (d n : ℕ) (sees : List See) (B C : VariableSet) (p : Places) (c : Context) (a : Term) → IsOrderly g.variables g.table n a → IsAtMost (highest g.which) a
    → length c.slots ≡ n → KnowsBefore g.which g.variables c → length p ≡ g.variables → Fills B p → Agrees sees p → AreValues c.slots → HoldValues c.now → KnowsValues a
    → ((k : ℕ) (o : Operator) → slice_get g.table k ≡ Some o → KnowsValues o.body) → Fixes g a B C → Grounds g d sees B p c a
