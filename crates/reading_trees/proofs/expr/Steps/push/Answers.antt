use Rattle.reading_trees.specs.Trees.{NoSteps}
use Rattle.reading_trees.proofs.Pushes.{steps_pushed}
use Rattle.reading_trees.proofs.expr.Steps.push.Goals as goal

pub returns-clause-pushed : goal.returns-clause-pushed
returns-clause-pushed c = rw (c.in_ok-push.ensures.items, ← c.self.view_is) (steps_pushed NoSteps c.self.inside.items.items c.args.item)
