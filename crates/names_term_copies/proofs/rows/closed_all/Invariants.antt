use Rattle.std.proofs.Common.{◌≡◌, vec_len}
use Rattle.names_term_copies.specs.Rows.{closed_all}
use Rattle.names_term_copies.proofs.rows.closed_all.Given as goal

abbrev pub invariant-loop-row : goal.invariant-loop-row
invariant-loop-row l = closed_all l.rows.items l.term ≡ closed_all l.initial.rows.items l.initial.term

abbrev pub decreases-loop-row : goal.decreases-loop-row
decreases-loop-row l = vec_len l.rows
