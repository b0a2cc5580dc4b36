use Rattle.std.proofs.Common.{arith}
use Rattle.reading_trees.proofs.Listed.{bounds_listed}
use Rattle.reading_trees.proofs.expr.Bounds.len.Goals as goal

pub returns : goal.returns
returns c = rw (← c.self.view_is, bounds_listed c.self.inside.items.items) (omega arith)
