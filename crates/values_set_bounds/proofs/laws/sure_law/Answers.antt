use Rattle.values_set_bounds.proofs.Listed.{lists_for_sure}
use Rattle.values_set_bounds.proofs.laws.sure_law.Goals as goal

pub returns : goal.returns
returns c = lists_for_sure
