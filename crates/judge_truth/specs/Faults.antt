-- Faults of an action at two states, by what was fixed before it.
use Rattle.std.specs.Prelude.{ℕ}
use Rattle.states_core.specs.declared.fault.Fault.{Fault}
use Rattle.names_terms.specs.Terms.{Term}
use Rattle.eval_meanings.specs.Contexts.{Context}
use Rattle.actions_meanings.specs.Forms.{Setting}
use Rattle.actions_meanings.specs.Outcomes.{Fixes}
use Rattle.actions_meanings.specs.Fails.{Fails}
use Rattle.actions_meanings.specs.Reads.{VariableSet}
use Rattle.names_specification_laws.specs.IsSpec.{IsAtMost}
use Rattle.steps_walk_laws.specs.Stable.{IsOrderly, highest}
use Rattle.judge_truth.specs.Truths.{everything}

-- A fault that an action in order has where all variables were fixed before, it has where those of B were, if it has a form from B. It could be
-- otherwise where it has none: of `A /\ C` the faults of C are asked from what A leaves fixed, and A may leave nothing.
abbrev pub FaultsStay : Type 0
FaultsStay =
    (g : Setting) (d n : ℕ) (B C : VariableSet) (c : Context) (a : Term) (f : Fault) → IsOrderly g.variables g.table n a → IsAtMost (highest g.which) a → Fixes g a B C → Fails g d everything c a f → Fails g d B c a f
