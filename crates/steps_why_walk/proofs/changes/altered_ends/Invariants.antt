use Rattle.std.proofs.Common.{◌≡◌, map, length, take}
use Rattle.std.specs.Vec.Iter.{into_iter_items, into_iter_len}
use Rattle.eval_meanings.specs.Unchanged.{changed_of}
use Rattle.actions_rows.specs.Rows.{before, setting}
use Rattle.steps_walk.proofs.Loops.{Ahead}
use Rattle.steps_why_walk.specs.Walking.{EndsAltered}
use Rattle.steps_why_walk.proofs.changes.altered_ends.Given as goal

abbrev pub invariant-loop-end : goal.invariant-loop-end
invariant-loop-end l = record {
  ahead : Ahead l.fn.found.items (into_iter_items l.end-iterator) (λ i. EndsAltered (setting l.stage) l.depth (before l.stage (map (λ v. v.now) l.slots)) (changed_of l.at l.term) (take i l.fn.found.items) l.all.items);
  len : into_iter_len l.end-iterator ≡ length (into_iter_items l.end-iterator);
}
