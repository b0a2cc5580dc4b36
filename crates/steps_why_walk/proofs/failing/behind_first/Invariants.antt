use Rattle.std.proofs.Common.{◌≡◌, ◌++◌, map, length}
use Rattle.std.specs.Prelude.{Some}
use Rattle.std.specs.Vec.Iter.{into_iter_items, into_iter_len}
use Rattle.steps_why_walk.specs.Ends.{with_first}
use Rattle.steps_why_walk.proofs.failing.behind_first.Given as goal

abbrev pub invariant-loop-end : goal.invariant-loop-end
invariant-loop-end l = record {
  items : l.all.items ++ map (with_first (Some l.first)) (into_iter_items l.end-iterator) ≡ map (with_first (Some l.first)) l.fn.ends.items;
  len : into_iter_len l.end-iterator ≡ length (into_iter_items l.end-iterator);
}
