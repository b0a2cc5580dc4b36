use Rattle.twice_tables.proofs.Staged.{has_one_outcome}
use Rattle.twice_tables.proofs.one_outcome_laws.outcome_laws.Goals as goal

pub returns : goal.returns
returns c = record { one = has_one_outcome c.literal_laws.ensures c.alike_laws.ensures.same_for_any c.alike_laws.ensures.same }
