use Rattle.std.proofs.Common.{◌-◌, ◌≤◌}
use Rattle.states_layers.specs.Kept.{Kept, Starts}
use Rattle.states_layers.proofs.search.search.Given as goal

abbrev pub invariant-loop-line : goal.invariant-loop-line
invariant-loop-line g l = record {
  kept : Kept (g.S.Steps.system l.steps) l.line 0 l.nodes.items l.widest;
  starts : Starts l.line l.nodes.items l.start;
  upto : l.line ≤ l.count;
}

abbrev pub decreases-loop-line : goal.decreases-loop-line
decreases-loop-line g l = l.count - l.line
