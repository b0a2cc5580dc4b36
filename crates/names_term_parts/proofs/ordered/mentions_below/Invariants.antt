use Rattle.names_term_parts.specs.Waiting.{waiting}
use Rattle.names_term_parts.specs.Weights.{total}
use Rattle.names_term_parts.proofs.Below.{IsBelowWay}
use Rattle.names_term_parts.proofs.ordered.mentions_below.Given as goal

abbrev pub invariant-loop-pending : goal.invariant-loop-pending
invariant-loop-pending l = IsBelowWay l.count l.term (waiting l.stack.items)

abbrev pub decreases-loop-pending : goal.decreases-loop-pending
decreases-loop-pending l = total (waiting l.stack.items)
