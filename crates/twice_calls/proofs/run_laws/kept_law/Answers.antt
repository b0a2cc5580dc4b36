use Rattle.twice_calls.proofs.Kept.{one_more}
use Rattle.twice_calls.proofs.run_laws.kept_law.Goals as goal

pub returns : goal.returns
returns c = one_more
