use Rattle.std.proofs.Common.{◌+◌, ◌*◌}
use Rattle.names_term_parts.specs.Waiting.{waiting}
use Rattle.names_term_parts.specs.Weights.{total}
use Rattle.actions_early_reads.specs.Known.{AreKnown}
use Rattle.actions_early_reads.specs.Sets.{shown}
use Rattle.actions_early_reads.proofs.Way.{EarlyWay}
use Rattle.actions_early_reads.proofs.walking.Walk.+early.Given as goal

abbrev pub decreases-early_in : goal.decreases-early_in
decreases-early_in l = 5 * l.bound + 4

abbrev pub decreases-early_rest : goal.decreases-early_rest
decreases-early_rest l = 5 * l.bound + 3

abbrev pub decreases-early_row : goal.decreases-early_row
decreases-early_row l = 5 * l.bound + 2

abbrev pub decreases-early_body : goal.decreases-early_body
decreases-early_body l = 5 * l.bound + 1

abbrev pub decreases-unknown_body : goal.decreases-unknown_body
decreases-unknown_body l = 5 * l.bound

abbrev pub invariant-early_rest-loop-pending : goal.invariant-early_rest-loop-pending
invariant-early_rest-loop-pending l = EarlyWay l.self l.bound (shown l.before) (waiting l.fn.stack.items) l.found (waiting l.stack.items) × AreKnown l.self (shown l.before) l.known

abbrev pub decreases-early_rest-loop-pending : goal.decreases-early_rest-loop-pending
decreases-early_rest-loop-pending l = total (waiting l.stack.items)
