use Rattle.reading_trees.specs.Trees.{First}
use Rattle.reading_trees.proofs.Pushes.{operands_pushed}
use Rattle.reading_trees.proofs.expr.Operands.push.Goals as goal

pub returns-clause-pushed : goal.returns-clause-pushed
returns-clause-pushed c = rw (c.in_ok-push.ensures.items, ← c.self.view_is) (operands_pushed (First c.self.inside.first.value) c.self.inside.others.items c.args.item)
