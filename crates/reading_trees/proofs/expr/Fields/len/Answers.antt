use Rattle.std.proofs.Common.{arith}
use Rattle.reading_trees.proofs.Listed.{fields_listed}
use Rattle.reading_trees.proofs.expr.Fields.len.Goals as goal

pub returns : goal.returns
returns c = rw (← c.self.view_is, fields_listed c.self.inside.items.items) (omega arith)
