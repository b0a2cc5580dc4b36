use Rattle.values_sets.proofs.Items.{fields_pushed}
use Rattle.values_sets.proofs.described.Fields.push.Goals as goal

pub returns-clause-pushed : goal.returns-clause-pushed
returns-clause-pushed c = rw (c.in_ok-push.ensures.items, ← c.self.view_is) (fields_pushed c.self.inside.items.items c.args.item)
