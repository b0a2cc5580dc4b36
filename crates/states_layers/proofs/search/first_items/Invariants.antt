use Rattle.std.proofs.Common.{◌≡◌}
use Rattle.states_layers.specs.Kept.{first_of}
use Rattle.states_layers.proofs.search.first_items.Given as goal

abbrev pub invariant-loop-entry : goal.invariant-loop-entry
invariant-loop-entry g l = l.nodes.items ≡ first_of l.yielded
