use Rattle.std.proofs.Common.{◌≡◌, map, length}
use Rattle.std.specs.Vec.Iter.{into_iter_items, into_iter_len}
use Rattle.eval_meanings.specs.Unchanged.{changed_of}
use Rattle.steps_found_states.proofs.Changes.{changed_is_test}
use Rattle.actions_rows.specs.Rows.{before, setting}
use Rattle.steps_walk.proofs.Loops.{Ahead}
use Rattle.steps_walk.proofs.Tested.{TestedSoFar}
use Rattle.steps_walk.proofs.forms.changed_ones.Given as goal

abbrev pub invariant-loop-places : goal.invariant-loop-places
invariant-loop-places l = record {
  ahead : Ahead l.fn.found.items (into_iter_items l.places-iterator) (λ i. TestedSoFar (setting l.course.stage) l.depth l.course.stage.sees.now (before l.course.stage (map (λ v. v.now) l.slots)) (changed_of l.at l.term) (changed_is_test (setting l.course.stage) (length (map (λ v. v.now) l.slots)) l.at l.term) l.fn.found.items i l.kept.items);
  len : into_iter_len l.places-iterator ≡ length (into_iter_items l.places-iterator);
}
