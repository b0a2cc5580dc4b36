use Rattle.reading_trees.specs.Trees.{NoDefinitions}
use Rattle.reading_trees.proofs.Pushes.{definitions_pushed}
use Rattle.reading_trees.proofs.expr.Definitions.push.Goals as goal

pub returns-clause-pushed : goal.returns-clause-pushed
returns-clause-pushed c = rw (c.in_ok-push.ensures.items, ← c.self.view_is) (definitions_pushed NoDefinitions c.self.inside.items.items c.args.item)
