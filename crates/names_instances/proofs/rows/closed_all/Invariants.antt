use Rattle.std.proofs.Common.{◌≡◌, vec_len}
use Rattle.names_instances.specs.Rows.{closed_all}
use Rattle.names_instances.proofs.rows.closed_all.Given as goal

abbrev pub invariant-loop-row : goal.invariant-loop-row
invariant-loop-row l = closed_all l.rows.items l.tree ≡ closed_all l.initial.rows.items l.initial.tree

abbrev pub decreases-loop-row : goal.decreases-loop-row
decreases-loop-row l = vec_len l.rows
