use Rattle.std.proofs.Common.{length}
use Rattle.actions_early_reads.specs.Sets.{shown}
use Rattle.actions_forms.proofs.Forked.{ClosedWay}
use Rattle.actions_forms.proofs.forks.closed.Given as goal

abbrev pub invariant-loop-fork : goal.invariant-loop-fork
invariant-loop-fork l = ClosedWay l.variables (shown l.before) l.fn.forks.items l.fn.last l.forks.items l.set

abbrev pub decreases-loop-fork : goal.decreases-loop-fork
decreases-loop-fork l = length l.forks.items
