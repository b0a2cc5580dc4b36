use Rattle.std.proofs.Common.{[]}
use Rattle.steps_successors.proofs.Adding.{begins, passed, sole}
use Rattle.steps_successors.proofs.states.state_of.Goals as goal

pub returns-in-Some : goal.returns-in-Some
returns-in-Some c = sole c.one_state.result c.args.places.now c.in-Some.state (rw c.in-Some.is at c.in_ok-state.ensures) c.one_state.ensures

pub returns-in-None : goal.returns-in-None
returns-in-None c = rw c.new.ensures.items (passed [] c.args.places.now [] begins (rw c.in-None.is at c.in_ok-state.ensures))
