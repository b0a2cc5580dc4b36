use Rattle.std.proofs.Common.{◌≡◌, ◌++◌, map}
use Rattle.states_layers.specs.Kept.{node}
use Rattle.states_layers.proofs.growth.keep_alone.Given as goal

abbrev pub invariant-loop-entry : goal.invariant-loop-entry
invariant-loop-entry g l = l.nodes.items ≡ l.initial.nodes.items ++ map (λ s. node l.line l.silents s l.from) l.yielded
