use Rattle.std.proofs.Common.{arith}
use Rattle.reading_trees.proofs.Listed.{steps_listed}
use Rattle.reading_trees.proofs.expr.Steps.len.Goals as goal

pub returns : goal.returns
returns c = rw (← c.self.view_is, steps_listed c.self.inside.items.items) (omega arith)
