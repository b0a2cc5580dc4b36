use Rattle.std.proofs.Common.{arith}
use Rattle.reading_trees.proofs.Listed.{definitions_listed}
use Rattle.reading_trees.proofs.expr.Definitions.len.Goals as goal

pub returns : goal.returns
returns c = rw (← c.self.view_is, definitions_listed c.self.inside.items.items) (omega arith)
