use Rattle.std.proofs.Common.{◌-◌, ◌<◌}
use Rattle.states_layers.specs.Moves.{IsRange}
use Rattle.states_layers.specs.Kept.{Kept, Continues}
use Rattle.states_layers.specs.Repeats.{AllKnown}
use Rattle.states_layers.specs.declared.node.Move.TheVariants.{Wait}
use Rattle.states_layers.proofs.search.wait.Given as goal

abbrev pub invariant-loop-silents : goal.invariant-loop-silents
invariant-loop-silents g l = record {
  kept : Kept (g.S.Steps.system l.steps) l.line l.silents l.nodes.items l.widest;
  whole : Continues l.line l.nodes.items l.start;
  last : IsRange (Wait l.line l.silents) l.nodes.items l.from;
  below : l.silents < l.within;
  known : AllKnown (g.S.Steps.system l.steps) g.S.Entry.PartialEq.eq l.known.lists.entries;
}

abbrev pub decreases-loop-silents : goal.decreases-loop-silents
decreases-loop-silents g l = l.within - l.silents
