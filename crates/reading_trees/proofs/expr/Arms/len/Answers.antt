use Rattle.std.proofs.Common.{arith}
use Rattle.reading_trees.proofs.Listed.{arms_listed}
use Rattle.reading_trees.proofs.expr.Arms.len.Goals as goal

pub returns : goal.returns
returns c = rw (← c.self.view_is, arms_listed c.self.inside.items.items) (omega arith)
