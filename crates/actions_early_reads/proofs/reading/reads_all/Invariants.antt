use Rattle.names_term_parts.specs.Waiting.{waiting}
use Rattle.names_term_parts.specs.Weights.{total}
use Rattle.actions_early_reads.specs.Sets.{shown}
use Rattle.actions_early_reads.proofs.Found.{IsReadWay}
use Rattle.actions_early_reads.proofs.reading.reads_all.Given as goal

abbrev pub invariant-loop-pending : goal.invariant-loop-pending
invariant-loop-pending l = IsReadWay l.kept (waiting l.fn.stack.items) (shown l.found) (waiting l.stack.items)

abbrev pub decreases-loop-pending : goal.decreases-loop-pending
decreases-loop-pending l = total (waiting l.stack.items)
