use Rattle.names_term_parts.specs.Waiting.{waiting}
use Rattle.names_term_parts.specs.Weights.{total}
use Rattle.names_term_levels.proofs.Fair.{IsFairWay}
use Rattle.names_term_levels.proofs.fairness.fair_by.Given as goal

abbrev pub invariant-loop-pending : goal.invariant-loop-pending
invariant-loop-pending l = IsFairWay l.notes l.term (waiting l.stack.items)

abbrev pub decreases-loop-pending : goal.decreases-loop-pending
decreases-loop-pending l = total (waiting l.stack.items)
