use Rattle.std.proofs.Common.{◌≡◌, map, ◌+◌, ◌*◌, length}
use Rattle.std.specs.Prelude.{IsTrue}
use Rattle.std.specs.Vec.Iter.{into_iter_items, into_iter_len}
use Rattle.eval_meanings.specs.Binders.{combinations}
use Rattle.eval_parts.specs.Walks.{AreWithin, left_from}
use Rattle.actions_rows.specs.Rows.{before, part_term, setting}
use Rattle.steps_walk.specs.Walking.{listed, parts_of}
use Rattle.steps_walk.specs.declared.sense.Sense.TheVariants.{Itself}
use Rattle.steps_walk.proofs.Loops.{Ahead, AllSoFar, AnySoFar, EachSoFar, UnderSoFar}
use Rattle.steps_walk.proofs.forms.+walk.Given as goal

abbrev pub decreases-walk_part : goal.decreases-walk_part
decreases-walk_part l = 10 * l.depth

abbrev pub decreases-walk_row : goal.decreases-walk_row
decreases-walk_row l = 10 * l.depth + 9

abbrev pub decreases-walk_both : goal.decreases-walk_both
decreases-walk_both l = 10 * l.depth + 6

abbrev pub decreases-walk_unchanged : goal.decreases-walk_unchanged
decreases-walk_unchanged l = 10 * l.depth + 6

abbrev pub decreases-walk_either : goal.decreases-walk_either
decreases-walk_either l = 10 * l.depth + 6

abbrev pub decreases-walk_boxed : goal.decreases-walk_boxed
decreases-walk_boxed l = 10 * l.depth + 6

abbrev pub decreases-walk_angled : goal.decreases-walk_angled
decreases-walk_angled l = 10 * l.depth + 6

abbrev pub decreases-walk_branch : goal.decreases-walk_branch
decreases-walk_branch l = 10 * l.depth + 6

abbrev pub decreases-walk_case : goal.decreases-walk_case
decreases-walk_case l = 10 * l.depth + 6

abbrev pub decreases-walk_inside : goal.decreases-walk_inside
decreases-walk_inside l = 10 * l.depth + 6

abbrev pub decreases-walk_call : goal.decreases-walk_call
decreases-walk_call l = 10 * l.depth + 6

abbrev pub decreases-walk_on : goal.decreases-walk_on
decreases-walk_on l = 10 * l.depth + 5

abbrev pub decreases-walk_body_on : goal.decreases-walk_body_on
decreases-walk_body_on l = 10 * l.depth + 1

abbrev pub decreases-walk_exists : goal.decreases-walk_exists
decreases-walk_exists l = 10 * l.depth + 6

abbrev pub decreases-walk_over : goal.decreases-walk_over
decreases-walk_over l = 10 * l.depth + 5

abbrev pub decreases-walk_combinations : goal.decreases-walk_combinations
decreases-walk_combinations l = 10 * l.depth + 4

abbrev pub decreases-walk_under : goal.decreases-walk_under
decreases-walk_under l = 10 * l.depth + 2

abbrev pub decreases-walk_body : goal.decreases-walk_body
decreases-walk_body l = 10 * l.depth + 1

abbrev pub decreases-walk_all : goal.decreases-walk_all
decreases-walk_all l = 10 * l.depth + 4

abbrev pub decreases-walk_any : goal.decreases-walk_any
decreases-walk_any l = 10 * l.depth + 4

abbrev pub decreases-walk_copy : goal.decreases-walk_copy
decreases-walk_copy l = 10 * l.depth + 1

abbrev pub decreases-walk_from : goal.decreases-walk_from
decreases-walk_from l = 10 * l.depth + 2

abbrev pub decreases-walk_each : goal.decreases-walk_each
decreases-walk_each l = 10 * l.depth + 1

abbrev pub decreases-walk_more : goal.decreases-walk_more
decreases-walk_more l = 10 * l.depth + 1

abbrev pub invariant-walk_all-loop-term : goal.invariant-walk_all-loop-term
invariant-walk_all-loop-term l =
    AllSoFar (setting l.course.stage) l.depth l.course.stage.sees.now l.fn.places (parts_of (before l.course.stage (map (λ v. v.now) l.slots)) l.sense l.terms) l.term-index (listed l.found)

abbrev pub invariant-walk_each-loop-places : goal.invariant-walk_each-loop-places
invariant-walk_each-loop-places l = record {
  ahead : Ahead l.fn.list.items (into_iter_items l.places-iterator) (λ i. EachSoFar (setting l.course.stage) l.depth l.course.stage.sees.now (before l.course.stage (map (λ v. v.now) l.slots)) (part_term l.part) l.fn.list.items i (listed l.all));
  len : into_iter_len l.places-iterator ≡ length (into_iter_items l.places-iterator);
}

abbrev pub invariant-walk_any-loop-term : goal.invariant-walk_any-loop-term
invariant-walk_any-loop-term l =
    AnySoFar (setting l.course.stage) l.depth l.course.stage.sees.now l.places (parts_of (before l.course.stage (map (λ v. v.now) l.slots)) Itself l.terms) l.term-index (listed l.found)

abbrev pub decreases-walk_combinations-loop-more : goal.decreases-walk_combinations-loop-more
decreases-walk_combinations-loop-more l = length (left_from l.more (map (λ x. x.now) l.lists) l.indices.items)

abbrev pub invariant-walk_combinations-loop-more : goal.invariant-walk_combinations-loop-more
invariant-walk_combinations-loop-more l =
    UnderSoFar (setting l.course.stage) l.depth l.course.stage.sees.now l.places (before l.course.stage (map (λ v. v.now) l.slots)) l.body (combinations (map (λ x. x.now) l.lists)) (left_from l.more (map (λ x. x.now) l.lists) l.indices.items) (listed l.found)
    × (IsTrue l.more → AreWithin (map (λ x. x.now) l.lists) l.indices.items)
