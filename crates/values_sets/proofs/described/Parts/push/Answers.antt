use Rattle.values_sets.proofs.Items.{parts_pushed}
use Rattle.values_sets.proofs.described.Parts.push.Goals as goal

pub returns-clause-pushed : goal.returns-clause-pushed
returns-clause-pushed c = rw (c.in_ok-push.ensures.items, ← c.self.view_is) (parts_pushed c.self.inside.items.items c.args.item)
