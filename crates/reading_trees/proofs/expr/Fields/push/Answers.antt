use Rattle.reading_trees.specs.Trees.{NoFields}
use Rattle.reading_trees.proofs.Pushes.{fields_pushed}
use Rattle.reading_trees.proofs.expr.Fields.push.Goals as goal

pub returns-clause-pushed : goal.returns-clause-pushed
returns-clause-pushed c = rw (c.in_ok-push.ensures.items, ← c.self.view_is) (fields_pushed NoFields c.self.inside.items.items c.args.item)
