use Rattle.values_sets.proofs.Collecting.{booleans_listed}
use Rattle.values_sets.proofs.lists.truth_values.Goals as goal

pub returns : goal.returns
returns c = booleans_listed c.in_ok-both.both.items c.set_from.result c.in_ok-both.ensures c.set_from.ensures
