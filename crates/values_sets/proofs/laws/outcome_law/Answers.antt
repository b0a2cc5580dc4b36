use Rattle.values_sets.proofs.Outcomes.{lists_one_way}
use Rattle.values_sets.proofs.laws.outcome_law.Goals as goal

pub returns : goal.returns
returns c = lists_one_way
