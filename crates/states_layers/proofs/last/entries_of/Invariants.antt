use Rattle.std.proofs.Common.{◌≡◌, map}
use Rattle.states_layers.proofs.last.entries_of.Given as goal

abbrev pub invariant-loop-node : goal.invariant-loop-node
invariant-loop-node g l = l.entries.items ≡ map (λ x. x.entry) l.yielded
