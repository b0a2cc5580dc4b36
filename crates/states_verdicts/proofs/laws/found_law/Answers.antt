use Rattle.states_verdicts.proofs.Law.{found_is_valid}
use Rattle.states_verdicts.proofs.laws.found_law.Goals as goal

pub returns : goal.returns
returns g c = found_is_valid (g.P.Pairs.asks c.args._pairs.now) (g.met.P.Pairs.agrees c.args._pairs.now)
