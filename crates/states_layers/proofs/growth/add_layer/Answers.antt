use Rattle.std.proofs.Common.{arith}
use Rattle.states_layers.proofs.growth.add_layer.Goals as goal

pub add_alone-requires-clause-alone : goal.add_alone-requires-clause-alone
add_alone-requires-clause-alone g c = omega arith

pub returns-clause-added : goal.returns-clause-added
returns-clause-added g c = record {
  layer = _;
  is = rw (c.line_after_move.ensures, c.silents_after_move.ensures) at c.in_ok-keep.ensures;
  grown = rw c.deref.ensures.value at c.in_ok-layer.ensures.whole;
}
