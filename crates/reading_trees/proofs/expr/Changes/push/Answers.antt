use Rattle.reading_trees.specs.Trees.{NoChanges}
use Rattle.reading_trees.proofs.Pushes.{changes_pushed}
use Rattle.reading_trees.proofs.expr.Changes.push.Goals as goal

pub returns-clause-pushed : goal.returns-clause-pushed
returns-clause-pushed c = rw (c.in_ok-push.ensures.items, ← c.self.view_is) (changes_pushed NoChanges c.self.inside.items.items c.args.item)
