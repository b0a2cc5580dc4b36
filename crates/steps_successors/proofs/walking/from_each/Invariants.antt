use Rattle.std.proofs.Common.{◌≡◌, [], length}
use Rattle.std.specs.Vec.Iter.{into_iter_items, into_iter_len}
use Rattle.actions_rows.specs.Rows.{before, setting}
use Rattle.steps_walk.proofs.Loops.{Ahead, EachSoFar}
use Rattle.steps_successors.proofs.walking.from_each.Given as goal

abbrev pub invariant-loop-places : goal.invariant-loop-places
invariant-loop-places l = record {
  ahead : Ahead l.fn.found.items (into_iter_items l.places-iterator) (λ i. EachSoFar (setting l.stage) 400 l.stage.sees.now (before l.stage []) l.term l.fn.found.items i l.all.items);
  len : into_iter_len l.places-iterator ≡ length (into_iter_items l.places-iterator);
}
