use Rattle.std.proofs.Common.{length, arith, Ok}
use Rattle.run_stages.proofs.GivenStopping.{are_states}
use Rattle.run_stages.proofs.given.states_of.Goals as goal

pub read_states-requires : goal.read_states-requires
read_states-requires c = omega (arith, c.requires)

pub returns-in-Ok-clause-states : goal.returns-in-Ok-clause-states
returns-in-Ok-clause-states c =
    let long = rw c.in-Ok.is at c.in_ok-said.ensures.long in
    let values = rw c.in-Ok.is at c.in_ok-said.ensures.values in
    are_states (length c.args.variables.now) (Ok c.in-Ok.states) long values
