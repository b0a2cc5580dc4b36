use Rattle.std.proofs.Common.{◌≡◌, ◌++◌, length}
use Rattle.std.specs.Vec.Iter.{into_iter_items, into_iter_len}
use Rattle.steps_walk.proofs.lists.push_each.Given as goal

abbrev pub invariant-loop-places : goal.invariant-loop-places
invariant-loop-places l = record {
  items : l.found.items ++ into_iter_items l.places-iterator ≡ l.initial.found.items ++ l.fn.more.items;
  len : into_iter_len l.places-iterator ≡ length (into_iter_items l.places-iterator);
}
