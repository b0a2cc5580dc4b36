use Rattle.states_layers.proofs.RepeatLaws.{notes}
use Rattle.states_layers.proofs.repeats.is_repeated.Goals as goal

pub returns : goal.returns
returns g c = notes g.E.PartialEq.eq g.met.E.Member.same c.args.gone.now.keys c.insert.new.self.keys c.args.entry c.in_ok-is_new.is_new c.in_ok-is_new.ensures.added c.in_ok-is_new.ensures.keys
