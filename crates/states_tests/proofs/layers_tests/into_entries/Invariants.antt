use Rattle.std.proofs.Common.{◌≡◌, ◌++◌}
use Rattle.states_layers.specs.Found.{members_of}
use Rattle.states_tests.proofs.layers_tests.into_entries.Given as goal

abbrev pub invariant-loop-entry : goal.invariant-loop-entry
invariant-loop-entry l = l.entries.items ++ members_of l.entry-iterator ≡ members_of l.fn.found.entries
