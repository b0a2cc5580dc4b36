use Rattle.std.proofs.Common.{sym}
use Rattle.states_layers.proofs.RepeatLaws.{keeps_one}
use Rattle.states_layers.proofs.repeats.keep.Goals as goal

pub returns : goal.returns
returns g c =
    rw (← c.in_ok-entry.ensures)
    (keeps_one g.E.PartialEq.eq g.met.E.Member.same c.args.known.now.lists.entries c.insert.new.self.entries c.in_ok-entry.entry c.in_ok-list.list c.args.list.now.items (sym c.in_ok-list.ensures)
    c.in_ok-insert.ensures.updates.0)
