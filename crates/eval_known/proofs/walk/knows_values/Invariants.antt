use Rattle.names_term_parts.specs.Waiting.{waiting}
use Rattle.names_term_parts.specs.Weights.{total}
use Rattle.eval_known.proofs.Way.{IsWay}
use Rattle.eval_known.proofs.walk.knows_values.Given as goal

abbrev pub invariant-loop-pending : goal.invariant-loop-pending
invariant-loop-pending l = IsWay l.term (waiting l.stack.items)

abbrev pub decreases-loop-pending : goal.decreases-loop-pending
decreases-loop-pending l = total (waiting l.stack.items)
