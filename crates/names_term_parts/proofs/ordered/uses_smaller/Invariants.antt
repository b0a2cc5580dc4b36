use Rattle.std.proofs.Common.{◌≡◌, ◌<◌, ℕ, length}
use Rattle.std.specs.Prelude.{slice_get, Some}
use Rattle.names_terms.specs.declared.operator.Operator.{Operator}
use Rattle.names_term_parts.specs.Slots.{IsInOrder}
use Rattle.names_term_parts.proofs.ordered.uses_smaller.Given as goal

abbrev pub invariant-loop-number : goal.invariant-loop-number
invariant-loop-number l = (k : ℕ) (o : Operator) → k < l.number → slice_get l.table k ≡ Some o → IsInOrder (length l.table) k o.own o.body
