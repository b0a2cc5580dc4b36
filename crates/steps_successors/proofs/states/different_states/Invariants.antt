use Rattle.std.proofs.Common.{take}
use Rattle.states_core.specs.Sets.{IsList}
use Rattle.steps_successors.specs.Among.{IsAmong}
use Rattle.steps_successors.proofs.states.different_states.Given as goal

abbrev pub invariant-loop-places : goal.invariant-loop-places
invariant-loop-places l = IsList (IsAmong (take l.places-index l.found)) l.states.keys
