use Rattle.std.proofs.Common.{arith}
use Rattle.reading_trees.proofs.Listed.{operands_long}
use Rattle.reading_trees.proofs.expr.Operands.len.Goals as goal

pub returns : goal.returns
returns c = rw (← c.self.view_is) (omega (arith, operands_long c.self.inside.first.value c.self.inside.others.items))
