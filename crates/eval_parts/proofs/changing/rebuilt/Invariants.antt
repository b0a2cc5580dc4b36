use Rattle.std.specs.Prelude.{vec_len}
use Rattle.eval_parts.proofs.ChangeWalk.{BackSoFar}
use Rattle.eval_parts.proofs.changing.rebuilt.Given as goal

abbrev pub decreases-loop-layer : goal.decreases-loop-layer
decreases-loop-layer l = vec_len l.layers

abbrev pub invariant-loop-layer : goal.invariant-loop-layer
invariant-loop-layer l = BackSoFar l.at l.initial.layers.items l.initial.value l.layers.items l.value
