use Rattle.states_verdicts.proofs.One.{one_verdict}
use Rattle.states_verdicts.proofs.laws.one_law.Goals as goal

pub returns : goal.returns
returns g c = one_verdict (g.P.Pairs.asks c.args._pairs.now) (g.met.P.Pairs.agrees c.args._pairs.now)
