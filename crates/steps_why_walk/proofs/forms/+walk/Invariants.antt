use Rattle.std.proofs.Common.{◌≡◌, map, ◌+◌, ◌*◌, length, take}
use Rattle.std.specs.Prelude.{IsTrue}
use Rattle.std.specs.Vec.Iter.{into_iter_items, into_iter_len}
use Rattle.eval_meanings.specs.Binders.{combinations}
use Rattle.eval_parts.specs.Walks.{AreWithin, left_from}
use Rattle.actions_rows.specs.Rows.{before, part_term, setting}
use Rattle.steps_walk.proofs.Loops.{Ahead}
use Rattle.steps_why_walk.specs.Walking.{parts_of}
use Rattle.steps_why_walk.proofs.Loops.{AllSoFar, AnySoFar, OnSoFar, UnderSoFar}
use Rattle.steps_why_walk.proofs.forms.+walk.Given as goal

abbrev pub decreases-walk_part : goal.decreases-walk_part
decreases-walk_part l = 10 * l.depth

abbrev pub decreases-walk_row : goal.decreases-walk_row
decreases-walk_row l = 10 * l.depth + 9

abbrev pub decreases-walk_both : goal.decreases-walk_both
decreases-walk_both l = 10 * l.depth + 6

abbrev pub decreases-walk_unchanged : goal.decreases-walk_unchanged
decreases-walk_unchanged l = 10 * l.depth + 6

abbrev pub decreases-walk_either : goal.decreases-walk_either
decreases-walk_either l = 10 * l.depth + 6

abbrev pub decreases-walk_boxed : goal.decreases-walk_boxed
decreases-walk_boxed l = 10 * l.depth + 6

abbrev pub decreases-walk_angled : goal.decreases-walk_angled
decreases-walk_angled l = 10 * l.depth + 6

abbrev pub decreases-walk_branch : goal.decreases-walk_branch
decreases-walk_branch l = 10 * l.depth + 6

abbrev pub decreases-walk_case : goal.decreases-walk_case
decreases-walk_case l = 10 * l.depth + 6

abbrev pub decreases-walk_inside : goal.decreases-walk_inside
decreases-walk_inside l = 10 * l.depth + 6

abbrev pub decreases-walk_call : goal.decreases-walk_call
decreases-walk_call l = 10 * l.depth + 6

abbrev pub decreases-walk_exists : goal.decreases-walk_exists
decreases-walk_exists l = 10 * l.depth + 6

abbrev pub decreases-walk_over : goal.decreases-walk_over
decreases-walk_over l = 10 * l.depth + 5

abbrev pub decreases-walk_combinations : goal.decreases-walk_combinations
decreases-walk_combinations l = 10 * l.depth + 4

abbrev pub decreases-walk_under : goal.decreases-walk_under
decreases-walk_under l = 10 * l.depth + 2

abbrev pub decreases-walk_body : goal.decreases-walk_body
decreases-walk_body l = 10 * l.depth + 1

abbrev pub decreases-walk_all : goal.decreases-walk_all
decreases-walk_all l = 10 * l.depth + 4

abbrev pub decreases-walk_any : goal.decreases-walk_any
decreases-walk_any l = 10 * l.depth + 4

abbrev pub decreases-walk_copy : goal.decreases-walk_copy
decreases-walk_copy l = 10 * l.depth + 1

abbrev pub decreases-walk_on : goal.decreases-walk_on
decreases-walk_on l = 10 * l.depth + 3

abbrev pub decreases-walk_end : goal.decreases-walk_end
decreases-walk_end l = 10 * l.depth + 2

abbrev pub invariant-walk_all-loop-part : goal.invariant-walk_all-loop-part
invariant-walk_all-loop-part l = AllSoFar (setting l.stage) l.sparing l.room l.depth l.fn.places (parts_of (before l.stage (map (λ v. v.now) l.slots)) l.parts) l.part-index l.found.items

abbrev pub invariant-walk_any-loop-part : goal.invariant-walk_any-loop-part
invariant-walk_any-loop-part l = AnySoFar (setting l.stage) l.sparing l.room l.depth l.places (parts_of (before l.stage (map (λ v. v.now) l.slots)) l.parts) (take l.part-index (parts_of (before l.stage (map (λ v. v.now) l.slots)) l.parts)) l.all.items

abbrev pub invariant-walk_on-loop-end : goal.invariant-walk_on-loop-end
invariant-walk_on-loop-end l = record {
  ahead : Ahead l.fn.found.items (into_iter_items l.end-iterator) (λ i. OnSoFar (setting l.stage) l.sparing l.room l.depth (before l.stage (map (λ v. v.now) l.slots), part_term l.part) l.fn.found.items i l.all.items);
  len : into_iter_len l.end-iterator ≡ length (into_iter_items l.end-iterator);
}

abbrev pub decreases-walk_combinations-loop-more : goal.decreases-walk_combinations-loop-more
decreases-walk_combinations-loop-more l = length (left_from l.more (map (λ x. x.now) l.lists) l.indices.items)

abbrev pub invariant-walk_combinations-loop-more : goal.invariant-walk_combinations-loop-more
invariant-walk_combinations-loop-more l =
    UnderSoFar (setting l.stage) l.sparing l.room l.depth l.places (before l.stage (map (λ v. v.now) l.slots)) l.body (combinations (map (λ x. x.now) l.lists)) (left_from l.more (map (λ x. x.now) l.lists) l.indices.items) l.all.items
    × (IsTrue l.more → AreWithin (map (λ x. x.now) l.lists) l.indices.items)
