use Rattle.std.proofs.Common.{◌-◌, ◌≤◌, length}
use Rattle.names_pruning.proofs.program.some_values.Given as goal

abbrev pub invariant-loop-values : goal.invariant-loop-values
invariant-loop-values l = length l.values.items ≤ l.count

abbrev pub decreases-loop-values : goal.decreases-loop-values
decreases-loop-values l = l.count - length l.values.items
