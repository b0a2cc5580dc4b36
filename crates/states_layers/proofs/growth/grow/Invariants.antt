use Rattle.std.proofs.Common.{length, ◌-◌, ◌≤◌}
use Rattle.states_layers.specs.Moves.{Growing}
use Rattle.states_layers.specs.Repeats.{AllKnown, AreGone, lent}
use Rattle.states_layers.proofs.growth.grow.Given as goal

abbrev pub invariant-loop-index : goal.invariant-loop-index
invariant-loop-index g l = record {
  grows : Growing (g.S.Steps.system l.steps) l.step l.nodes l.from l.index l.layer.entries;
  after : l.from ≤ l.index;
  gone : AreGone l.nodes l.from l.index (lent l.gone.keys);
  known : AllKnown (g.S.Steps.system l.steps) g.S.Entry.PartialEq.eq l.known.lists.entries;
}

abbrev pub decreases-loop-index : goal.decreases-loop-index
decreases-loop-index g l = length l.nodes - l.index
