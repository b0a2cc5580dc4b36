use Rattle.std.proofs.Common.{arith, ◌<◌, length}
use Rattle.steps_successors.proofs.Adding.{step, too_many}
use Rattle.steps_successors.proofs.states.different_states.Goals as goal

pub returns-then-len-bound : goal.returns-then-len-bound
returns-then-len-bound c =
    let more : c.args.bound < length c.add_state.new.states.keys = grind arith in
    too_many c.args.found.now c.loop-places.places-index c.places-item.result c.places-item.is c.loop-places-test.true c.loop-places.states.keys c.add_state.new.states.keys c.loop-places.invariant c.in_ok-add_state.ensures c.args.bound more

pub loop-places-preserved : goal.loop-places-preserved
loop-places-preserved c =
    step c.args.found.now c.loop-places.places-index c.places-item.result c.places-item.is c.loop-places-test.true c.loop-places.states.keys c.add_state.new.states.keys c.loop-places.invariant c.in_ok-add_state.ensures
