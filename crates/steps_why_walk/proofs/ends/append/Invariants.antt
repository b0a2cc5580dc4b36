use Rattle.std.proofs.Common.{◌≡◌, ◌++◌, length}
use Rattle.std.specs.Vec.Iter.{into_iter_items, into_iter_len}
use Rattle.steps_why_walk.proofs.ends.append.Given as goal

abbrev pub invariant-loop-end : goal.invariant-loop-end
invariant-loop-end l = record {
  items : l.all.items ++ into_iter_items l.end-iterator ≡ l.initial.all.items ++ l.fn.more.items;
  len : into_iter_len l.end-iterator ≡ length (into_iter_items l.end-iterator);
}
