use Rattle.names_term_parts.specs.Waiting.{waiting}
use Rattle.names_term_levels.specs.Findings.{IsOnTheWay}
use Rattle.names_term_parts.specs.Parts.{part}
use Rattle.names_term_parts.specs.Weights.{total}
use Rattle.std.proofs.Common.{false, length}
use Rattle.names_term_levels.proofs.reading.read_text.Given as goal

abbrev pub invariant-loop-pending : goal.invariant-loop-pending
invariant-loop-pending l = IsOnTheWay l.table l.notes (length l.notes) (part false l.term) (waiting l.stack.items) l.note

abbrev pub decreases-loop-pending : goal.decreases-loop-pending
decreases-loop-pending l = total (waiting l.stack.items)
