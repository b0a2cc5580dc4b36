use Rattle.std.proofs.Common.{◌≡◌, length, take, ◌<◌, ◌-◌}
use Rattle.states_layers.specs.Kept.{IsBack}
use Rattle.states_layers.proofs.back.read_back.Given as goal

abbrev pub invariant-loop-states : goal.invariant-loop-states
invariant-loop-states g l = record {
  prefix : l.nodes.items ≡ take (length l.nodes.items) l.fn.nodes.items;
  some : 0 < length l.nodes.items;
  back : IsBack (g.S.Steps.system l.steps) l.fn.nodes.items (length l.fn.nodes.items - 1) (length l.nodes.items - 1) l.states;
}

abbrev pub decreases-loop-states : goal.decreases-loop-states
decreases-loop-states g l = length l.nodes.items
