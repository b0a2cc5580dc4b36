use Rattle.std.proofs.Common.{◌≡◌, length}
use Rattle.std.specs.Vec.Iter.{into_iter_items, into_iter_len}
use Rattle.reading_junctions.proofs.Steps.{Done}
use Rattle.reading_junctions.proofs.marking.lay.Given as goal

abbrev pub invariant-loop-token : goal.invariant-loop-token
invariant-loop-token l = record {
  done : Done l.fn.tokens.items (into_iter_items l.token-iterator) l.marking;
  len : into_iter_len l.token-iterator ≡ length (into_iter_items l.token-iterator);
}
