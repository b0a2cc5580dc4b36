use Rattle.std.proofs.Common.{◌≡◌, ◌++◌}
use Rattle.states_layers.specs.Kept.{nodes_of}
use Rattle.states_layers.proofs.growth.keep.Given as goal

abbrev pub invariant-loop-entry : goal.invariant-loop-entry
invariant-loop-entry g l = l.nodes.items ++ nodes_of l.line l.silents l.entry-iterator ≡ l.initial.nodes.items ++ nodes_of l.line l.silents l.fn.layer.entries
