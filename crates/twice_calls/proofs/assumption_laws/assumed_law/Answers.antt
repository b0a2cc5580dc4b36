use Rattle.twice_calls.proofs.Assuming.{assumed_not_unassumed}
use Rattle.twice_calls.proofs.assumption_laws.assumed_law.Goals as goal

pub returns : goal.returns
returns c = assumed_not_unassumed c.outcome_laws.ensures.outcome
