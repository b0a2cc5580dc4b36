use Rattle.reading_trees.specs.Trees.{NoArms}
use Rattle.reading_trees.proofs.Pushes.{arms_pushed}
use Rattle.reading_trees.proofs.expr.Arms.push.Goals as goal

pub returns-clause-pushed : goal.returns-clause-pushed
returns-clause-pushed c = rw (c.in_ok-push.ensures.items, ← c.self.view_is) (arms_pushed NoArms c.self.inside.items.items c.args.item)
