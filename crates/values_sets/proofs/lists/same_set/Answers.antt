use Rattle.values_sets.proofs.Collecting.{same_listed}
use Rattle.values_sets.proofs.lists.same_set.Goals as goal

pub returns : goal.returns
returns c = same_listed c.args.all.now c.in_ok-copy.field-0 c.is_value.ensures c.requires c.in_ok-copy.ensures
