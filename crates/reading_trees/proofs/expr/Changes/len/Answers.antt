use Rattle.std.proofs.Common.{arith}
use Rattle.reading_trees.proofs.Listed.{changes_listed}
use Rattle.reading_trees.proofs.expr.Changes.len.Goals as goal

pub returns : goal.returns
returns c = rw (← c.self.view_is, changes_listed c.self.inside.items.items) (omega arith)
