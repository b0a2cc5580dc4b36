use Rattle.std.proofs.Common.{◌≡◌, ◌++◌}
use Rattle.steps_successors.proofs.states.into_list.Given as goal

abbrev pub invariant-loop-state : goal.invariant-loop-state
invariant-loop-state l = l.list.items ++ l.state-iterator ≡ l.fn.states.keys
