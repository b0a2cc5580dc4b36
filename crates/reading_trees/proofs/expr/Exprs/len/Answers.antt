use Rattle.std.proofs.Common.{arith}
use Rattle.reading_trees.proofs.Listed.{trees_listed}
use Rattle.reading_trees.proofs.expr.Exprs.len.Goals as goal

pub returns : goal.returns
returns c = rw (← c.self.view_is, trees_listed c.self.inside.items.items) (omega arith)
