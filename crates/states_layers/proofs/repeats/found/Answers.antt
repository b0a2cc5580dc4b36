use Rattle.std.proofs.Common.{sym}
use Rattle.states_layers.proofs.repeats.found.Goals as goal

pub returns-in_ok-copied-in-Some : goal.returns-in_ok-copied-in-Some
returns-in_ok-copied-in-Some g c = (c.in-Some.list.now, sym c.in-Some.ensures.value, c.in_ok-copied-in-Some.ensures)
