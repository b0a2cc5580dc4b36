use Rattle.reading_trees.specs.Trees.{NoTrees}
use Rattle.reading_trees.proofs.Pushes.{trees_pushed}
use Rattle.reading_trees.proofs.expr.Exprs.push.Goals as goal

pub returns-clause-pushed : goal.returns-clause-pushed
returns-clause-pushed c = rw (c.in_ok-push.ensures.items, ← c.self.view_is) (trees_pushed NoTrees c.self.inside.items.items c.args.item)
