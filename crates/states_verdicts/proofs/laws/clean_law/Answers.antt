use Rattle.states_verdicts.proofs.Runs.{clean_run}
use Rattle.states_verdicts.proofs.laws.clean_law.Goals as goal

pub returns : goal.returns
returns g c = clean_run (g.P.Pairs.asks c.args._pairs.now) (g.met.P.Pairs.agrees c.args._pairs.now)
