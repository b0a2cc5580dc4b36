use Rattle.states_core.specs.StateOrder.{state_decides}
use Rattle.states_core.proofs.state.State.same.Goals as goal

pub returns : goal.returns
returns c = rw c.eq.ensures (state_decides c.args.self.now c.args.other.now)
