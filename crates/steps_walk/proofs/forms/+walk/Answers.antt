use Rattle.std.proofs.Common.{◌≡◌, inl, inr, refl, ℕ, suc, ◌+◌, ◌-◌, ◌<◌, ◌≤◌, List, length, Bool, true, false, Ok, Err, sym, subst, ap, map, ◌∙◌, [], ◌∷◌, ◌++◌, arith}
use Rattle.std.specs.Prelude.{option_copied}
use Rattle.std.specs.Vec.Iter.{into_iter_items}
use Rattle.std.proofs.lemmas.List.{length-map}
use Rattle.values_core.specs.Ascending.{head_in}
use Rattle.values_core.specs.Data.{Val}
use Rattle.names_terms.specs.Lists.{arms_list, terms_list}
use Rattle.names_terms.specs.Terms.{Term, place_of}
use Rattle.eval_meanings.specs.Answers.{Tells}
use Rattle.eval_meanings.specs.Binders.{BoundValues, combinations, ranges}
use Rattle.eval_meanings.specs.Contexts.{Context, Places, bind}
use Rattle.eval_meanings.specs.Evaluates.{Evaluates}
use Rattle.eval_meanings.specs.Outcomes.{Each}
use Rattle.eval_meanings.specs.Unchanged.{TruthOf, changed_of, unchanged_of}
use Rattle.actions_meanings.specs.Holds.{Chosen}
use Rattle.eval_meanings.specs.Reads.{BoundsRead, Reads, ReadsEach}
use Rattle.eval_parts.specs.Scenes.{Stops}
use Rattle.eval_parts.specs.Walks.{AreWithin, at_places, left_from}
use Rattle.eval_parts.proofs.Loops.{cut_at, cut_mapped, of_items}
use Rattle.actions_meanings.specs.Filled.{at_next}
use Rattle.actions_meanings.specs.Forms.{call, form}
use Rattle.base_core.specs.declared.place.Place.{Place}
use Rattle.eval_parts.proofs.Walking.{fewer, left_begins, left_is, none_more, some_left, within_begins}
use Rattle.actions_rows.specs.Rows.{before, form_of, part_term, setting}
use Rattle.actions_rows.specs.declared.row.Row.{Row}
use Rattle.eval_parts.specs.BoundSets.{bound_members}
use Rattle.eval_parts.specs.declared.bound_values.BoundSet.{BoundSet}
use Rattle.steps_walk.specs.Walking.{AnyGrounded, AnyWalked, EachGrounded, EachReads, EachTested, EachWalked, Grounded, IsForm, IsWalked, in_sense, listed, parts_of, under}
use Rattle.steps_walk.specs.declared.found.Found.{Found}
use Rattle.steps_walk.specs.declared.sense.Sense.TheVariants.{Itself}
use Rattle.steps_walk.proofs.Answering.{err_then, none_kept, ok_then, one_each, one_stops}
use Rattle.steps_walk.proofs.Loops.{ahead_at, ahead_first, ahead_next, ahead_over, all_done, all_ended, all_ground, all_start, all_step, all_stop, any_done, any_ground, any_start, any_step, any_stop, apart, each_done, each_ground, each_one, each_start, each_step, each_stop, under_done, under_ground, under_start, under_step, under_stop}
use Rattle.steps_walk.proofs.Rows.{grounded_at, nested_walked, walked_at}
use Rattle.steps_walk.proofs.Taken.{angled_grounds, angled_reads, angled_refused, angled_walked, arms_grounds, arms_reads, arms_refused, arms_walked, body_here, body_walked, boxed_grounds, boxed_refused, boxed_walked, both_grounds, both_walked, branch_grounds, branch_reads, branch_refused, branch_walked, call_grounds, call_reads, call_refused, call_walked, either_grounds, either_walked, in_scene, inside_grounds, inside_walked, narrowed_grounds, narrowed_walked, on_stage, some_grounds, some_reads, some_refused, some_walked}
use Rattle.steps_walk.proofs.forms.+walk.Goals as goal
use denote.Ref.{Bor}

abbrev value : Bor Val → Val
value x = x.now

abbrev members : Bor (List Val) → List Val
members x = x.now

pub walk_part-returns-then-depth-eq0-clause-fault : goal.walk_part-returns-then-depth-eq0-clause-fault
walk_part-returns-then-depth-eq0-clause-fault t c =
    let s = c.args.course.now.stage in
    let vs = map value c.args.slots.now in
    let d = c.args.depth in
    let p = c.args.places in
    let q = c.args.part in
    nested_walked (setting s) d s.sees.now p (before s vs) (part_term q) c.part_place.result c.if-depth-eq0.true c.part_place.ensures

pub walk_part-walk_row-requires : goal.walk_part-walk_row-requires
walk_part-walk_row-requires t c =
    let s = c.args.course.now.stage in
    let vs = map value c.args.slots.now in
    let d = c.args.depth in
    let p = c.args.places in
    let q = c.args.part in
    let some : 0 < c.args.depth = omega (arith, c.if-depth-eq0.false) in
    let few : c.args.depth - 1 < 4294967295 = omega (arith, c.ranges.depth.fits) in
    let same : c.args.depth ≡ suc (c.args.depth - 1) = omega (arith, c.if-depth-eq0.false) in
    let row : IsForm s vs q (form_of (place_of (part_term q)) c.row_of-row.result) = c.row_of-row.ensures ∙ ap (λ (n : ℕ). form (setting s) n (part_term q)) (sym (length-map c.args.slots.now value)) in
    (omega (arith, c.if-depth-eq0.false, c.decreases), (few, (row, grounded_at (setting s) d (suc (d - 1)) s.sees.now p (before s vs) (part_term q) same c.requires)))

pub walk_part-returns-clause-found : goal.walk_part-returns-clause-found
walk_part-returns-clause-found t c =
    let s = c.args.course.now.stage in
    let vs = map value c.args.slots.now in
    let d = c.args.depth in
    let p = c.args.places in
    let q = c.args.part in
    let same : suc (c.args.depth - 1) ≡ c.args.depth = omega (arith, c.if-depth-eq0.false) in
    ok_then c.walk_row.result _ _ (λ x h. walked_at (setting s) (suc (d - 1)) d s.sees.now p (before s vs) (part_term q) (Ok (listed x)) same h) c.walk_row.ensures.found

pub walk_part-returns-clause-fault : goal.walk_part-returns-clause-fault
walk_part-returns-clause-fault t c =
    let s = c.args.course.now.stage in
    let vs = map value c.args.slots.now in
    let d = c.args.depth in
    let p = c.args.places in
    let q = c.args.part in
    let same : suc (c.args.depth - 1) ≡ c.args.depth = omega (arith, c.if-depth-eq0.false) in
    err_then c.walk_row.result _ _ (λ x h. walked_at (setting s) (suc (d - 1)) d s.sees.now p (before s vs) (part_term q) (Err x) same h) c.walk_row.ensures.fault

pub walk_row-walk_test-requires : goal.walk_row-walk_test-requires
walk_row-walk_test-requires t c =
    let R : Row → Type 0 = λ r. IsForm c.args.course.now.stage (map value c.args.slots.now) c.args.part (form_of (place_of (part_term c.args.part)) r) in
    record { few = c.requires.few; form = subst R c.in-Test.is c.requires.row; grounds = c.requires.grounds }

pub walk_row-walk_assign-requires : goal.walk_row-walk_assign-requires
walk_row-walk_assign-requires t c =
    let R : Row → Type 0 = λ r. IsForm c.args.course.now.stage (map value c.args.slots.now) c.args.part (form_of (place_of (part_term c.args.part)) r) in
    record { form = subst R c.in-Assign.is c.requires.row; grounds = c.requires.grounds }

pub walk_row-walk_keep-requires : goal.walk_row-walk_keep-requires
walk_row-walk_keep-requires t c =
    let R : Row → Type 0 = λ r. IsForm c.args.course.now.stage (map value c.args.slots.now) c.args.part (form_of (place_of (part_term c.args.part)) r) in
    record { form = subst R c.in-Keep.is c.requires.row; grounds = c.requires.grounds }

pub walk_row-walk_choose-requires : goal.walk_row-walk_choose-requires
walk_row-walk_choose-requires t c =
    let R : Row → Type 0 = λ r. IsForm c.args.course.now.stage (map value c.args.slots.now) c.args.part (form_of (place_of (part_term c.args.part)) r) in
    record { form = subst R c.in-Choose.is c.requires.row; grounds = c.requires.grounds }

pub walk_row-walk_both-requires : goal.walk_row-walk_both-requires
walk_row-walk_both-requires t c =
    let R : Row → Type 0 = λ r. IsForm c.args.course.now.stage (map value c.args.slots.now) c.args.part (form_of (place_of (part_term c.args.part)) r) in
    (omega (arith, c.decreases), (subst R c.in-Both.is c.requires.row, c.requires.grounds))

pub walk_row-walk_unchanged-requires : goal.walk_row-walk_unchanged-requires
walk_row-walk_unchanged-requires t c =
    let R : Row → Type 0 = λ r. IsForm c.args.course.now.stage (map value c.args.slots.now) c.args.part (form_of (place_of (part_term c.args.part)) r) in
    (omega (arith, c.decreases), (subst R c.in-Unchanged.is c.requires.row, c.requires.grounds))

pub walk_row-walk_either-requires : goal.walk_row-walk_either-requires
walk_row-walk_either-requires t c =
    let R : Row → Type 0 = λ r. IsForm c.args.course.now.stage (map value c.args.slots.now) c.args.part (form_of (place_of (part_term c.args.part)) r) in
    (omega (arith, c.decreases), (subst R c.in-Either.is c.requires.row, c.requires.grounds))

pub walk_row-walk_boxed-requires : goal.walk_row-walk_boxed-requires
walk_row-walk_boxed-requires t c =
    let R : Row → Type 0 = λ r. IsForm c.args.course.now.stage (map value c.args.slots.now) c.args.part (form_of (place_of (part_term c.args.part)) r) in
    (omega (arith, c.decreases), (subst R c.in-Boxed.is c.requires.row, c.requires.grounds))

pub walk_row-walk_angled-requires : goal.walk_row-walk_angled-requires
walk_row-walk_angled-requires t c =
    let R : Row → Type 0 = λ r. IsForm c.args.course.now.stage (map value c.args.slots.now) c.args.part (form_of (place_of (part_term c.args.part)) r) in
    (omega (arith, c.decreases), (subst R c.in-Angled.is c.requires.row, c.requires.grounds))

pub walk_row-walk_exists-requires : goal.walk_row-walk_exists-requires
walk_row-walk_exists-requires t c =
    let R : Row → Type 0 = λ r. IsForm c.args.course.now.stage (map value c.args.slots.now) c.args.part (form_of (place_of (part_term c.args.part)) r) in
    (omega (arith, c.decreases), (subst R c.in-Exists.is c.requires.row, c.requires.grounds))

pub walk_row-walk_branch-requires : goal.walk_row-walk_branch-requires
walk_row-walk_branch-requires t c =
    let R : Row → Type 0 = λ r. IsForm c.args.course.now.stage (map value c.args.slots.now) c.args.part (form_of (place_of (part_term c.args.part)) r) in
    (omega (arith, c.decreases), (subst R c.in-Branch.is c.requires.row, c.requires.grounds))

pub walk_row-walk_case-requires : goal.walk_row-walk_case-requires
walk_row-walk_case-requires t c =
    let R : Row → Type 0 = λ r. IsForm c.args.course.now.stage (map value c.args.slots.now) c.args.part (form_of (place_of (part_term c.args.part)) r) in
    (omega (arith, c.decreases), (subst R c.in-Case.is c.requires.row, c.requires.grounds))

pub walk_row-walk_inside-requires : goal.walk_row-walk_inside-requires
walk_row-walk_inside-requires t c =
    let R : Row → Type 0 = λ r. IsForm c.args.course.now.stage (map value c.args.slots.now) c.args.part (form_of (place_of (part_term c.args.part)) r) in
    (omega (arith, c.decreases), (subst R c.in-Inside.is c.requires.row, c.requires.grounds))

pub walk_row-walk_call-requires : goal.walk_row-walk_call-requires
walk_row-walk_call-requires t c =
    let R : Row → Type 0 = λ r. IsForm c.args.course.now.stage (map value c.args.slots.now) c.args.part (form_of (place_of (part_term c.args.part)) r) in
    (omega (arith, c.decreases), (subst R c.in-Call.is c.requires.row, c.requires.grounds))

pub walk_both-walk_all-requires : goal.walk_both-walk_all-requires
walk_both-walk_all-requires t c =
    let s = c.args.course.now.stage in
    let vs = map value c.args.slots.now in
    let d = c.args.depth in
    let p = c.args.places in
    let q = c.args.part in
    let same = of_items (λ (es : List Term). c.items-terms.result.now ≡ es) c.items-terms.result.now c.args.terms.now c.items-terms.ensures refl in
    (omega (arith, c.decreases), both_grounds s vs d p q (terms_list c.args.terms.now) c.items-terms.result.now same c.requires.form c.requires.grounds)

pub walk_both-returns-clause-found : goal.walk_both-returns-clause-found
walk_both-returns-clause-found t c =
    let s = c.args.course.now.stage in
    let vs = map value c.args.slots.now in
    let d = c.args.depth in
    let p = c.args.places in
    let q = c.args.part in
    let same = of_items (λ (es : List Term). c.items-terms.result.now ≡ es) c.items-terms.result.now c.args.terms.now c.items-terms.ensures refl in
    ok_then c.walk_all.result _ _ (λ x h. both_walked s vs d p q (terms_list c.args.terms.now) c.items-terms.result.now (Ok (listed x)) same c.requires.form h) c.walk_all.ensures.found

pub walk_both-returns-clause-fault : goal.walk_both-returns-clause-fault
walk_both-returns-clause-fault t c =
    let s = c.args.course.now.stage in
    let vs = map value c.args.slots.now in
    let d = c.args.depth in
    let p = c.args.places in
    let q = c.args.part in
    let same = of_items (λ (es : List Term). c.items-terms.result.now ≡ es) c.items-terms.result.now c.args.terms.now c.items-terms.ensures refl in
    err_then c.walk_all.result _ _ (λ x h. both_walked s vs d p q (terms_list c.args.terms.now) c.items-terms.result.now (Err x) same c.requires.form h) c.walk_all.ensures.fault

pub walk_either-walk_any-requires : goal.walk_either-walk_any-requires
walk_either-walk_any-requires t c =
    let s = c.args.course.now.stage in
    let vs = map value c.args.slots.now in
    let d = c.args.depth in
    let p = c.args.places in
    let q = c.args.part in
    let same = of_items (λ (es : List Term). c.items.result.now ≡ es) c.items.result.now c.args.terms.now c.items.ensures refl in
    (omega (arith, c.decreases), either_grounds s vs d p q (terms_list c.args.terms.now) c.items.result.now same c.requires.form c.requires.grounds)

pub walk_either-returns-clause-found : goal.walk_either-returns-clause-found
walk_either-returns-clause-found t c =
    let s = c.args.course.now.stage in
    let vs = map value c.args.slots.now in
    let d = c.args.depth in
    let p = c.args.places in
    let q = c.args.part in
    let same = of_items (λ (es : List Term). c.items.result.now ≡ es) c.items.result.now c.args.terms.now c.items.ensures refl in
    ok_then c.walk_any.result _ _ (λ x h. either_walked s vs d p q (terms_list c.args.terms.now) c.items.result.now (Ok (listed x)) same c.requires.form h) c.walk_any.ensures.found

pub walk_either-returns-clause-fault : goal.walk_either-returns-clause-fault
walk_either-returns-clause-fault t c =
    let s = c.args.course.now.stage in
    let vs = map value c.args.slots.now in
    let d = c.args.depth in
    let p = c.args.places in
    let q = c.args.part in
    let same = of_items (λ (es : List Term). c.items.result.now ≡ es) c.items.result.now c.args.terms.now c.items.ensures refl in
    err_then c.walk_any.result _ _ (λ x h. either_walked s vs d p q (terms_list c.args.terms.now) c.items.result.now (Err x) same c.requires.form h) c.walk_any.ensures.fault

pub walk_unchanged-walk_all-requires : goal.walk_unchanged-walk_all-requires
walk_unchanged-walk_all-requires t c =
    let s = c.args.course.now.stage in
    let vs = map value c.args.slots.now in
    let d = c.args.depth in
    let p = c.args.places in
    let q = c.args.part in
    let ts = terms_list c.args.terms.now in
    let xs = c.items.result.now in
    let same = of_items (λ (es : List Term). xs ≡ es) xs c.args.terms.now c.items.ensures refl in
    let at = c.part_place.ensures in
    let us = map value c.outermost-slots.result.now in
    let fewer = c.outermost-slots.ensures in
    (omega (arith, c.decreases), narrowed_grounds s vs d p q c.args.kept us c.part_place.result ts xs fewer at same c.requires.form c.requires.grounds)

pub walk_unchanged-returns-clause-found : goal.walk_unchanged-returns-clause-found
walk_unchanged-returns-clause-found t c =
    let s = c.args.course.now.stage in
    let vs = map value c.args.slots.now in
    let d = c.args.depth in
    let p = c.args.places in
    let q = c.args.part in
    let ts = terms_list c.args.terms.now in
    let xs = c.items.result.now in
    let same = of_items (λ (es : List Term). xs ≡ es) xs c.args.terms.now c.items.ensures refl in
    let at = c.part_place.ensures in
    let us = map value c.outermost-slots.result.now in
    let fewer = c.outermost-slots.ensures in
    ok_then c.walk_all.result _ _ (λ x h. narrowed_walked s vs d p q c.args.kept us c.part_place.result ts xs (Ok (listed x)) fewer at same c.requires.form h) c.walk_all.ensures.found

pub walk_unchanged-returns-clause-fault : goal.walk_unchanged-returns-clause-fault
walk_unchanged-returns-clause-fault t c =
    let s = c.args.course.now.stage in
    let vs = map value c.args.slots.now in
    let d = c.args.depth in
    let p = c.args.places in
    let q = c.args.part in
    let ts = terms_list c.args.terms.now in
    let xs = c.items.result.now in
    let same = of_items (λ (es : List Term). xs ≡ es) xs c.args.terms.now c.items.ensures refl in
    let at = c.part_place.ensures in
    let us = map value c.outermost-slots.result.now in
    let fewer = c.outermost-slots.ensures in
    err_then c.walk_all.result _ _ (λ x h. narrowed_walked s vs d p q c.args.kept us c.part_place.result ts xs (Err x) fewer at same c.requires.form h) c.walk_all.ensures.fault

pub walk_inside-walk_part-requires : goal.walk_inside-walk_part-requires
walk_inside-walk_part-requires t c =
    let s = c.args.course.now.stage in
    let vs = map value c.args.slots.now in
    let d = c.args.depth in
    let p = c.args.places in
    let q = c.args.part in
    (omega (arith, c.decreases), inside_grounds s vs d p q c.args.inner.now c.requires.form c.requires.grounds)

pub walk_inside-returns-clause-found : goal.walk_inside-returns-clause-found
walk_inside-returns-clause-found t c =
    let s = c.args.course.now.stage in
    let vs = map value c.args.slots.now in
    let d = c.args.depth in
    let p = c.args.places in
    let q = c.args.part in
    ok_then c.walk_part.result _ _ (λ x h. inside_walked s vs d p q c.args.inner.now (Ok (listed x)) c.requires.form h) c.walk_part.ensures.found

pub walk_inside-returns-clause-fault : goal.walk_inside-returns-clause-fault
walk_inside-returns-clause-fault t c =
    let s = c.args.course.now.stage in
    let vs = map value c.args.slots.now in
    let d = c.args.depth in
    let p = c.args.places in
    let q = c.args.part in
    err_then c.walk_part.result _ _ (λ x h. inside_walked s vs d p q c.args.inner.now (Err x) c.requires.form h) c.walk_part.ensures.fault

pub walk_branch-eval_truth-requires : goal.walk_branch-eval_truth-requires
walk_branch-eval_truth-requires t c =
    let s = c.args.course.now.stage in
    let vs = map value c.args.slots.now in
    let d = c.args.depth in
    let p = c.args.places in
    let q = c.args.part in
    in_scene s vs p c.scene_at.result (λ ops x. Reads ops d x c.args.test.now) c.scene_at.ensures.table c.scene_at.ensures.context (branch_reads s vs d p q c.args.test.now c.args.holds.now c.args.other.now c.requires.form c.requires.grounds)

pub walk_branch-walk_part-requires : goal.walk_branch-walk_part-requires
walk_branch-walk_part-requires t c =
    let s = c.args.course.now.stage in
    let vs = map value c.args.slots.now in
    let d = c.args.depth in
    let p = c.args.places in
    let q = c.args.part in
    let there = on_stage s vs p c.scene_at.result (λ ops x. TruthOf (Evaluates ops d) x c.args.test.now (Ok c.in-Ok-true.field-0)) c.scene_at.ensures.table c.scene_at.ensures.context c.in-Ok-true.ensures in
    let told = subst (λ (b : Bool). TruthOf (Evaluates s.operators.now d) (at_next s.which (before s vs) p) c.args.test.now (Ok b)) c.in-Ok-true.field-0-test there in
    (omega (arith, c.decreases), branch_grounds s vs d p q c.args.test.now c.args.holds.now c.args.other.now true c.requires.form told c.requires.grounds)

pub walk_branch-walk_part-requires-in-Ok-false : goal.walk_branch-walk_part-requires-in-Ok-false
walk_branch-walk_part-requires-in-Ok-false t c =
    let s = c.args.course.now.stage in
    let vs = map value c.args.slots.now in
    let d = c.args.depth in
    let p = c.args.places in
    let q = c.args.part in
    let there = on_stage s vs p c.scene_at.result (λ ops x. TruthOf (Evaluates ops d) x c.args.test.now (Ok c.in-Ok-false.field-0)) c.scene_at.ensures.table c.scene_at.ensures.context c.in-Ok-false.ensures in
    let told = subst (λ (b : Bool). TruthOf (Evaluates s.operators.now d) (at_next s.which (before s vs) p) c.args.test.now (Ok b)) c.in-Ok-false.field-0-test there in
    (omega (arith, c.decreases), branch_grounds s vs d p q c.args.test.now c.args.holds.now c.args.other.now false c.requires.form told c.requires.grounds)

pub walk_branch-returns-in-Ok-true-clause-found : goal.walk_branch-returns-in-Ok-true-clause-found
walk_branch-returns-in-Ok-true-clause-found t c =
    let s = c.args.course.now.stage in
    let vs = map value c.args.slots.now in
    let d = c.args.depth in
    let p = c.args.places in
    let q = c.args.part in
    let there = on_stage s vs p c.scene_at.result (λ ops x. TruthOf (Evaluates ops d) x c.args.test.now (Ok c.in-Ok-true.field-0)) c.scene_at.ensures.table c.scene_at.ensures.context c.in-Ok-true.ensures in
    let told = subst (λ (b : Bool). TruthOf (Evaluates s.operators.now d) (at_next s.which (before s vs) p) c.args.test.now (Ok b)) c.in-Ok-true.field-0-test there in
    ok_then c.walk_part.result _ _ (λ x h. branch_walked s vs d p q c.args.test.now c.args.holds.now c.args.other.now true (Ok (listed x)) c.requires.form told h) c.walk_part.ensures.found

pub walk_branch-returns-in-Ok-true-clause-fault : goal.walk_branch-returns-in-Ok-true-clause-fault
walk_branch-returns-in-Ok-true-clause-fault t c =
    let s = c.args.course.now.stage in
    let vs = map value c.args.slots.now in
    let d = c.args.depth in
    let p = c.args.places in
    let q = c.args.part in
    let there = on_stage s vs p c.scene_at.result (λ ops x. TruthOf (Evaluates ops d) x c.args.test.now (Ok c.in-Ok-true.field-0)) c.scene_at.ensures.table c.scene_at.ensures.context c.in-Ok-true.ensures in
    let told = subst (λ (b : Bool). TruthOf (Evaluates s.operators.now d) (at_next s.which (before s vs) p) c.args.test.now (Ok b)) c.in-Ok-true.field-0-test there in
    err_then c.walk_part.result _ _ (λ x h. branch_walked s vs d p q c.args.test.now c.args.holds.now c.args.other.now true (Err x) c.requires.form told h) c.walk_part.ensures.fault

pub walk_branch-returns-in-Ok-false-clause-found : goal.walk_branch-returns-in-Ok-false-clause-found
walk_branch-returns-in-Ok-false-clause-found t c =
    let s = c.args.course.now.stage in
    let vs = map value c.args.slots.now in
    let d = c.args.depth in
    let p = c.args.places in
    let q = c.args.part in
    let there = on_stage s vs p c.scene_at.result (λ ops x. TruthOf (Evaluates ops d) x c.args.test.now (Ok c.in-Ok-false.field-0)) c.scene_at.ensures.table c.scene_at.ensures.context c.in-Ok-false.ensures in
    let told = subst (λ (b : Bool). TruthOf (Evaluates s.operators.now d) (at_next s.which (before s vs) p) c.args.test.now (Ok b)) c.in-Ok-false.field-0-test there in
    ok_then c.walk_part-in-Ok-false.result _ _ (λ x h. branch_walked s vs d p q c.args.test.now c.args.holds.now c.args.other.now false (Ok (listed x)) c.requires.form told h) c.walk_part-in-Ok-false.ensures.found

pub walk_branch-returns-in-Ok-false-clause-fault : goal.walk_branch-returns-in-Ok-false-clause-fault
walk_branch-returns-in-Ok-false-clause-fault t c =
    let s = c.args.course.now.stage in
    let vs = map value c.args.slots.now in
    let d = c.args.depth in
    let p = c.args.places in
    let q = c.args.part in
    let there = on_stage s vs p c.scene_at.result (λ ops x. TruthOf (Evaluates ops d) x c.args.test.now (Ok c.in-Ok-false.field-0)) c.scene_at.ensures.table c.scene_at.ensures.context c.in-Ok-false.ensures in
    let told = subst (λ (b : Bool). TruthOf (Evaluates s.operators.now d) (at_next s.which (before s vs) p) c.args.test.now (Ok b)) c.in-Ok-false.field-0-test there in
    err_then c.walk_part-in-Ok-false.result _ _ (λ x h. branch_walked s vs d p q c.args.test.now c.args.holds.now c.args.other.now false (Err x) c.requires.form told h) c.walk_part-in-Ok-false.ensures.fault

pub walk_branch-returns-in-Err-clause-fault : goal.walk_branch-returns-in-Err-clause-fault
walk_branch-returns-in-Err-clause-fault t c =
    let s = c.args.course.now.stage in
    let vs = map value c.args.slots.now in
    let d = c.args.depth in
    let p = c.args.places in
    let q = c.args.part in
    let there = on_stage s vs p c.scene_at.result (λ ops x. Tells {A = Bool} (Err c.in-Err.fault) (TruthOf (Evaluates ops d) x c.args.test.now)) c.scene_at.ensures.table c.scene_at.ensures.context c.in-Err.ensures in
    branch_refused s vs d p q c.args.test.now c.args.holds.now c.args.other.now c.in-Err.fault c.requires.form there

pub walk_case-chosen_arm-requires : goal.walk_case-chosen_arm-requires
walk_case-chosen_arm-requires t c =
    let s = c.args.course.now.stage in
    let vs = map value c.args.slots.now in
    let d = c.args.depth in
    let p = c.args.places in
    let q = c.args.part in
    let cs = arms_list c.args.cases.now in
    let other = option_copied c.args.other in
    in_scene s vs p c.scene_at-scene.result (λ ops x. ReadsEach (Reads ops d) x (map (λ y. y.0) cs)) c.scene_at-scene.ensures.table c.scene_at-scene.ensures.context (arms_reads s vs d p q cs other c.requires.form c.requires.grounds)

pub walk_case-walk_part-requires : goal.walk_case-walk_part-requires
walk_case-walk_part-requires t c =
    let s = c.args.course.now.stage in
    let vs = map value c.args.slots.now in
    let d = c.args.depth in
    let p = c.args.places in
    let q = c.args.part in
    let cs = arms_list c.args.cases.now in
    let other = option_copied c.args.other in
    let there = on_stage s vs p c.scene_at-scene.result (λ ops x. Chosen (TruthOf (Evaluates ops d) x) c.part_place.result cs other (Ok c.in-Ok.term.now)) c.scene_at-scene.ensures.table c.scene_at-scene.ensures.context c.in-Ok.ensures.chosen in
    let told = subst (λ (at : Place). Chosen (TruthOf (Evaluates s.operators.now d) (at_next s.which (before s vs) p)) at cs other (Ok c.in-Ok.term.now)) c.part_place.ensures there in
    (omega (arith, c.decreases), arms_grounds s vs d p q cs other c.in-Ok.term.now c.requires.form told c.requires.grounds)

pub walk_case-returns-in-Ok-clause-found : goal.walk_case-returns-in-Ok-clause-found
walk_case-returns-in-Ok-clause-found t c =
    let s = c.args.course.now.stage in
    let vs = map value c.args.slots.now in
    let d = c.args.depth in
    let p = c.args.places in
    let q = c.args.part in
    let cs = arms_list c.args.cases.now in
    let other = option_copied c.args.other in
    let there = on_stage s vs p c.scene_at-scene.result (λ ops x. Chosen (TruthOf (Evaluates ops d) x) c.part_place.result cs other (Ok c.in-Ok.term.now)) c.scene_at-scene.ensures.table c.scene_at-scene.ensures.context c.in-Ok.ensures.chosen in
    let told = subst (λ (at : Place). Chosen (TruthOf (Evaluates s.operators.now d) (at_next s.which (before s vs) p)) at cs other (Ok c.in-Ok.term.now)) c.part_place.ensures there in
    ok_then c.walk_part.result _ _ (λ x h. arms_walked s vs d p q cs other c.in-Ok.term.now (Ok (listed x)) c.requires.form told h) c.walk_part.ensures.found

pub walk_case-returns-in-Ok-clause-fault : goal.walk_case-returns-in-Ok-clause-fault
walk_case-returns-in-Ok-clause-fault t c =
    let s = c.args.course.now.stage in
    let vs = map value c.args.slots.now in
    let d = c.args.depth in
    let p = c.args.places in
    let q = c.args.part in
    let cs = arms_list c.args.cases.now in
    let other = option_copied c.args.other in
    let there = on_stage s vs p c.scene_at-scene.result (λ ops x. Chosen (TruthOf (Evaluates ops d) x) c.part_place.result cs other (Ok c.in-Ok.term.now)) c.scene_at-scene.ensures.table c.scene_at-scene.ensures.context c.in-Ok.ensures.chosen in
    let told = subst (λ (at : Place). Chosen (TruthOf (Evaluates s.operators.now d) (at_next s.which (before s vs) p)) at cs other (Ok c.in-Ok.term.now)) c.part_place.ensures there in
    err_then c.walk_part.result _ _ (λ x h. arms_walked s vs d p q cs other c.in-Ok.term.now (Err x) c.requires.form told h) c.walk_part.ensures.fault

pub walk_case-returns-in-Err-clause-fault : goal.walk_case-returns-in-Err-clause-fault
walk_case-returns-in-Err-clause-fault t c =
    let s = c.args.course.now.stage in
    let vs = map value c.args.slots.now in
    let d = c.args.depth in
    let p = c.args.places in
    let q = c.args.part in
    let cs = arms_list c.args.cases.now in
    let other = option_copied c.args.other in
    let there = on_stage s vs p c.scene_at-scene.result (λ ops x. Stops (Chosen (TruthOf (Evaluates ops d) x) c.part_place.result cs other) c.in-Err.fault) c.scene_at-scene.ensures.table c.scene_at-scene.ensures.context c.in-Err.ensures.fault in
    let told = subst (λ (at : Place). Stops (Chosen (TruthOf (Evaluates s.operators.now d) (at_next s.which (before s vs) p)) at cs other) c.in-Err.fault) c.part_place.ensures there in
    arms_refused s vs d p q cs other c.in-Err.fault c.requires.form told

pub walk_call-eval_each-requires : goal.walk_call-eval_each-requires
walk_call-eval_each-requires t c =
    let s = c.args.course.now.stage in
    let vs = map value c.args.slots.now in
    let d = c.args.depth in
    let p = c.args.places in
    let q = c.args.part in
    let k = c.args.number.0 in
    let ts = terms_list c.args.arguments.now in
    in_scene s vs p c.scene_at.result (λ ops x. ReadsEach (Reads ops d) x ts) c.scene_at.ensures.table c.scene_at.ensures.context (call_reads s vs d p q k ts c.requires.form c.requires.grounds)

pub walk_call-walk_body-requires : goal.walk_call-walk_body-requires
walk_call-walk_body-requires t c =
    let s = c.args.course.now.stage in
    let vs = map value c.args.slots.now in
    let d = c.args.depth in
    let p = c.args.places in
    let q = c.args.part in
    let k = c.args.number.0 in
    let ts = terms_list c.args.arguments.now in
    let there = on_stage s vs p c.scene_at.result (λ ops x. Each (Evaluates ops d x) ts (Ok c.in-Ok.values.items)) c.scene_at.ensures.table c.scene_at.ensures.context c.in-Ok.ensures.values in
    let told = subst (λ (us : List Val). Each (Evaluates s.operators.now d (at_next s.which (before s vs) p)) ts (Ok us)) (sym c.deref.ensures.value) there in
    (omega (arith, c.decreases), call_grounds s vs d p q k ts c.deref.result.now c.requires.form told c.requires.grounds)

pub walk_call-returns-in-Ok-clause-found : goal.walk_call-returns-in-Ok-clause-found
walk_call-returns-in-Ok-clause-found t c =
    let s = c.args.course.now.stage in
    let vs = map value c.args.slots.now in
    let d = c.args.depth in
    let p = c.args.places in
    let q = c.args.part in
    let k = c.args.number.0 in
    let ts = terms_list c.args.arguments.now in
    let there = on_stage s vs p c.scene_at.result (λ ops x. Each (Evaluates ops d x) ts (Ok c.in-Ok.values.items)) c.scene_at.ensures.table c.scene_at.ensures.context c.in-Ok.ensures.values in
    let told = subst (λ (us : List Val). Each (Evaluates s.operators.now d (at_next s.which (before s vs) p)) ts (Ok us)) (sym c.deref.ensures.value) there in
    ok_then c.walk_body.result _ _ (λ x h. call_walked s vs d p q k ts c.deref.result.now (Ok (listed x)) c.requires.form told c.requires.grounds h) c.walk_body.ensures.found

pub walk_call-returns-in-Ok-clause-fault : goal.walk_call-returns-in-Ok-clause-fault
walk_call-returns-in-Ok-clause-fault t c =
    let s = c.args.course.now.stage in
    let vs = map value c.args.slots.now in
    let d = c.args.depth in
    let p = c.args.places in
    let q = c.args.part in
    let k = c.args.number.0 in
    let ts = terms_list c.args.arguments.now in
    let there = on_stage s vs p c.scene_at.result (λ ops x. Each (Evaluates ops d x) ts (Ok c.in-Ok.values.items)) c.scene_at.ensures.table c.scene_at.ensures.context c.in-Ok.ensures.values in
    let told = subst (λ (us : List Val). Each (Evaluates s.operators.now d (at_next s.which (before s vs) p)) ts (Ok us)) (sym c.deref.ensures.value) there in
    err_then c.walk_body.result _ _ (λ x h. call_walked s vs d p q k ts c.deref.result.now (Err x) c.requires.form told c.requires.grounds h) c.walk_body.ensures.fault

pub walk_call-returns-in-Err-clause-fault : goal.walk_call-returns-in-Err-clause-fault
walk_call-returns-in-Err-clause-fault t c =
    let s = c.args.course.now.stage in
    let vs = map value c.args.slots.now in
    let d = c.args.depth in
    let p = c.args.places in
    let q = c.args.part in
    let k = c.args.number.0 in
    let ts = terms_list c.args.arguments.now in
    let there = on_stage s vs p c.scene_at.result (λ ops x. Stops (Each (Evaluates ops d x) ts) c.in-Err.fault) c.scene_at.ensures.table c.scene_at.ensures.context c.in-Err.ensures.fault in
    call_refused s vs d p q k ts c.in-Err.fault c.requires.form there

pub walk_call-walk_on-requires : goal.walk_call-walk_on-requires
walk_call-walk_on-requires t c =
    let s = c.args.course.now.stage in
    let vs = map value c.args.slots.now in
    let F : List Term → Type 0 = λ ts. IsForm s vs c.args.part (call c.args.number.0 ts) in
    (omega (arith, c.decreases), (subst F c.only_term-argument.ensures c.requires.form, c.requires.grounds))

pub walk_on-eval-requires : goal.walk_on-eval-requires
walk_on-eval-requires t c =
    let s = c.args.course.now.stage in
    let vs = map value c.args.slots.now in
    let d = c.args.depth in
    let p = c.args.places in
    let q = c.args.part in
    let k = c.args.number.0 in
    let e = c.args.argument.now in
    in_scene s vs p c.scene_at.result (λ ops x. Reads ops d x e) c.scene_at.ensures.table c.scene_at.ensures.context (call_reads s vs d p q k (e ∷ []) c.requires.form c.requires.grounds).0

pub walk_on-walk_body_on-requires : goal.walk_on-walk_body_on-requires
walk_on-walk_body_on-requires t c =
    let s = c.args.course.now.stage in
    let vs = map value c.args.slots.now in
    let d = c.args.depth in
    let p = c.args.places in
    let q = c.args.part in
    let k = c.args.number.0 in
    let e = c.args.argument.now in
    let there = on_stage s vs p c.scene_at.result (λ ops x. Evaluates ops d x e (Ok c.in-Ok.value)) c.scene_at.ensures.table c.scene_at.ensures.context c.in-Ok.ensures in
    let told = one_each (Evaluates s.operators.now d (at_next s.which (before s vs) p)) e c.in-Ok.value there in
    (omega (arith, c.decreases), call_grounds s vs d p q k (e ∷ []) (c.in-Ok.value ∷ []) c.requires.form told c.requires.grounds)

pub walk_on-returns-in-Ok-clause-found : goal.walk_on-returns-in-Ok-clause-found
walk_on-returns-in-Ok-clause-found t c =
    let s = c.args.course.now.stage in
    let vs = map value c.args.slots.now in
    let d = c.args.depth in
    let p = c.args.places in
    let q = c.args.part in
    let k = c.args.number.0 in
    let e = c.args.argument.now in
    let there = on_stage s vs p c.scene_at.result (λ ops x. Evaluates ops d x e (Ok c.in-Ok.value)) c.scene_at.ensures.table c.scene_at.ensures.context c.in-Ok.ensures in
    let told = one_each (Evaluates s.operators.now d (at_next s.which (before s vs) p)) e c.in-Ok.value there in
    ok_then c.walk_body_on.result _ _ (λ x h. call_walked s vs d p q k (e ∷ []) (c.in-Ok.value ∷ []) (Ok (listed x)) c.requires.form told c.requires.grounds h) c.walk_body_on.ensures.found

pub walk_on-returns-in-Ok-clause-fault : goal.walk_on-returns-in-Ok-clause-fault
walk_on-returns-in-Ok-clause-fault t c =
    let s = c.args.course.now.stage in
    let vs = map value c.args.slots.now in
    let d = c.args.depth in
    let p = c.args.places in
    let q = c.args.part in
    let k = c.args.number.0 in
    let e = c.args.argument.now in
    let there = on_stage s vs p c.scene_at.result (λ ops x. Evaluates ops d x e (Ok c.in-Ok.value)) c.scene_at.ensures.table c.scene_at.ensures.context c.in-Ok.ensures in
    let told = one_each (Evaluates s.operators.now d (at_next s.which (before s vs) p)) e c.in-Ok.value there in
    err_then c.walk_body_on.result _ _ (λ x h. call_walked s vs d p q k (e ∷ []) (c.in-Ok.value ∷ []) (Err x) c.requires.form told c.requires.grounds h) c.walk_body_on.ensures.fault

pub walk_on-returns-in-Err-clause-fault : goal.walk_on-returns-in-Err-clause-fault
walk_on-returns-in-Err-clause-fault t c =
    let s = c.args.course.now.stage in
    let vs = map value c.args.slots.now in
    let d = c.args.depth in
    let p = c.args.places in
    let q = c.args.part in
    let k = c.args.number.0 in
    let e = c.args.argument.now in
    let there = on_stage s vs p c.scene_at.result (λ ops x. Tells {A = Val} (Err c.in-Err.fault) (Evaluates ops d x e)) c.scene_at.ensures.table c.scene_at.ensures.context c.in-Err.ensures in
    call_refused s vs d p q k (e ∷ []) c.in-Err.fault c.requires.form (one_stops (Evaluates s.operators.now d (at_next s.which (before s vs) p)) e c.in-Err.fault there)

pub walk_body_on-definition-operator-requires : goal.walk_body_on-definition-operator-requires
walk_body_on-definition-operator-requires t c =
    (c.requires.0, c.requires.1)

pub walk_body_on-walk_part-requires : goal.walk_body_on-walk_part-requires
walk_body_on-walk_part-requires t c =
    let s = c.args.course.now.stage in
    let g = setting c.args.course.now.stage in
    let vs = map value c.args.slots.now in
    let ctx = before c.args.course.now.stage (map value c.args.slots.now) in
    let d = c.args.depth in
    let sees = c.args.course.now.stage.sees.now in
    let p = c.args.places in
    let k = c.args.number.0 in
    let us = c.args.value.now ∷ [] in
    let o = c.definition-operator.result.now in
    (omega (arith, c.decreases), subst (λ (ws : List Val). Grounded g d sees p (before c.args.course.now.stage ws) o.body) (none_kept o.outer vs us c.if-outer-eq0.true) (body_here g d sees p ctx k us o c.definition-operator.ensures c.requires).1)

pub walk_body_on-returns-then-outer-eq0-clause-found : goal.walk_body_on-returns-then-outer-eq0-clause-found
walk_body_on-returns-then-outer-eq0-clause-found t c =
    let s = c.args.course.now.stage in
    let g = setting c.args.course.now.stage in
    let vs = map value c.args.slots.now in
    let ctx = before c.args.course.now.stage (map value c.args.slots.now) in
    let d = c.args.depth in
    let sees = c.args.course.now.stage.sees.now in
    let p = c.args.places in
    let k = c.args.number.0 in
    let us = c.args.value.now ∷ [] in
    let o = c.definition-operator.result.now in
    let same = sym (none_kept o.outer vs us c.if-outer-eq0.true) in
    ok_then c.walk_part.result _ _ (λ x h. body_walked g d sees p ctx k us o (Ok (listed x)) c.definition-operator.ensures (subst (λ (ws : List Val). IsWalked g d sees p (before c.args.course.now.stage ws) o.body (Ok (listed x))) same h)) c.walk_part.ensures.found

pub walk_body_on-returns-then-outer-eq0-clause-fault : goal.walk_body_on-returns-then-outer-eq0-clause-fault
walk_body_on-returns-then-outer-eq0-clause-fault t c =
    let s = c.args.course.now.stage in
    let g = setting c.args.course.now.stage in
    let vs = map value c.args.slots.now in
    let ctx = before c.args.course.now.stage (map value c.args.slots.now) in
    let d = c.args.depth in
    let sees = c.args.course.now.stage.sees.now in
    let p = c.args.places in
    let k = c.args.number.0 in
    let us = c.args.value.now ∷ [] in
    let o = c.definition-operator.result.now in
    let same = sym (none_kept o.outer vs us c.if-outer-eq0.true) in
    err_then c.walk_part.result _ _ (λ x h. body_walked g d sees p ctx k us o (Err x) c.definition-operator.ensures (subst (λ (ws : List Val). IsWalked g d sees p (before c.args.course.now.stage ws) o.body (Err x)) same h)) c.walk_part.ensures.fault

pub walk_body_on-walk_part-requires-2 : goal.walk_body_on-walk_part-requires-2
walk_body_on-walk_part-requires-2 t c =
    let s = c.args.course.now.stage in
    let g = setting c.args.course.now.stage in
    let vs = map value c.args.slots.now in
    let ctx = before c.args.course.now.stage (map value c.args.slots.now) in
    let d = c.args.depth in
    let sees = c.args.course.now.stage.sees.now in
    let p = c.args.places in
    let k = c.args.number.0 in
    let us = c.args.value.now ∷ [] in
    let o = c.definition-operator.result.now in
    let same = ap (map value) c.deref.ensures.value ∙ (c.in_ok-inner.ensures ∙ ap (λ (ws : List Val). ws ++ us) c.outermost.ensures) in
    (omega (arith, c.decreases), subst (λ (ws : List Val). Grounded g d sees p (before c.args.course.now.stage ws) o.body) (sym same) (body_here g d sees p ctx k us o c.definition-operator.ensures c.requires).1)

pub walk_body_on-returns-clause-found : goal.walk_body_on-returns-clause-found
walk_body_on-returns-clause-found t c =
    let s = c.args.course.now.stage in
    let g = setting c.args.course.now.stage in
    let vs = map value c.args.slots.now in
    let ctx = before c.args.course.now.stage (map value c.args.slots.now) in
    let d = c.args.depth in
    let sees = c.args.course.now.stage.sees.now in
    let p = c.args.places in
    let k = c.args.number.0 in
    let us = c.args.value.now ∷ [] in
    let o = c.definition-operator.result.now in
    let same = ap (map value) c.deref.ensures.value ∙ (c.in_ok-inner.ensures ∙ ap (λ (ws : List Val). ws ++ us) c.outermost.ensures) in
    ok_then c.walk_part-2.result _ _ (λ x h. body_walked g d sees p ctx k us o (Ok (listed x)) c.definition-operator.ensures (subst (λ (ws : List Val). IsWalked g d sees p (before c.args.course.now.stage ws) o.body (Ok (listed x))) same h)) c.walk_part-2.ensures.found

pub walk_body_on-returns-clause-fault : goal.walk_body_on-returns-clause-fault
walk_body_on-returns-clause-fault t c =
    let s = c.args.course.now.stage in
    let g = setting c.args.course.now.stage in
    let vs = map value c.args.slots.now in
    let ctx = before c.args.course.now.stage (map value c.args.slots.now) in
    let d = c.args.depth in
    let sees = c.args.course.now.stage.sees.now in
    let p = c.args.places in
    let k = c.args.number.0 in
    let us = c.args.value.now ∷ [] in
    let o = c.definition-operator.result.now in
    let same = ap (map value) c.deref.ensures.value ∙ (c.in_ok-inner.ensures ∙ ap (λ (ws : List Val). ws ++ us) c.outermost.ensures) in
    err_then c.walk_part-2.result _ _ (λ x h. body_walked g d sees p ctx k us o (Err x) c.definition-operator.ensures (subst (λ (ws : List Val). IsWalked g d sees p (before c.args.course.now.stage ws) o.body (Err x)) same h)) c.walk_part-2.ensures.fault

pub walk_exists-eval_bounds-requires : goal.walk_exists-eval_bounds-requires
walk_exists-eval_bounds-requires t c =
    let s = c.args.course.now.stage in
    let vs = map value c.args.slots.now in
    let d = c.args.depth in
    let p = c.args.places in
    let q = c.args.part in
    let bs = c.args.bounds.now in
    let e = c.args.body.now in
    in_scene s vs p c.scene_at.result (λ ops x. BoundsRead (Reads ops d) x bs) c.scene_at.ensures.table c.scene_at.ensures.context (some_reads s vs d p q bs e c.requires.form c.requires.grounds)

pub walk_exists-walk_over-requires : goal.walk_exists-walk_over-requires
walk_exists-walk_over-requires t c =
    let s = c.args.course.now.stage in
    let vs = map value c.args.slots.now in
    let d = c.args.depth in
    let p = c.args.places in
    let q = c.args.part in
    let bs = c.args.bounds.now in
    let e = c.args.body.now in
    let all : List BoundSet → List (List Val) = λ sets. combinations (ranges (map bound_members sets)) in
    let there = on_stage s vs p c.scene_at.result (λ ops x. BoundValues (Evaluates ops d) x bs (Ok (combinations (ranges (map bound_members c.in-Ok.sets.items))))) c.scene_at.ensures.table c.scene_at.ensures.context c.in-Ok.ensures.values in
    let told = subst (λ (sets : List BoundSet). BoundValues (Evaluates s.operators.now d) (at_next s.which (before s vs) p) bs (Ok (combinations (ranges (map bound_members sets))))) (sym c.deref.ensures.value) there in
    (omega (arith, c.decreases), some_grounds s vs d p q bs e (combinations (ranges (map bound_members c.deref.result.now))) c.requires.form told c.requires.grounds)

pub walk_exists-returns-in-Ok-clause-found : goal.walk_exists-returns-in-Ok-clause-found
walk_exists-returns-in-Ok-clause-found t c =
    let s = c.args.course.now.stage in
    let vs = map value c.args.slots.now in
    let d = c.args.depth in
    let p = c.args.places in
    let q = c.args.part in
    let bs = c.args.bounds.now in
    let e = c.args.body.now in
    let all : List BoundSet → List (List Val) = λ sets. combinations (ranges (map bound_members sets)) in
    let there = on_stage s vs p c.scene_at.result (λ ops x. BoundValues (Evaluates ops d) x bs (Ok (combinations (ranges (map bound_members c.in-Ok.sets.items))))) c.scene_at.ensures.table c.scene_at.ensures.context c.in-Ok.ensures.values in
    let told = subst (λ (sets : List BoundSet). BoundValues (Evaluates s.operators.now d) (at_next s.which (before s vs) p) bs (Ok (combinations (ranges (map bound_members sets))))) (sym c.deref.ensures.value) there in
    ok_then c.walk_over.result _ _ (λ x h. some_walked s vs d p q bs e (combinations (ranges (map bound_members c.deref.result.now))) (Ok (listed x)) c.requires.form told h) c.walk_over.ensures.found

pub walk_exists-returns-in-Ok-clause-fault : goal.walk_exists-returns-in-Ok-clause-fault
walk_exists-returns-in-Ok-clause-fault t c =
    let s = c.args.course.now.stage in
    let vs = map value c.args.slots.now in
    let d = c.args.depth in
    let p = c.args.places in
    let q = c.args.part in
    let bs = c.args.bounds.now in
    let e = c.args.body.now in
    let all : List BoundSet → List (List Val) = λ sets. combinations (ranges (map bound_members sets)) in
    let there = on_stage s vs p c.scene_at.result (λ ops x. BoundValues (Evaluates ops d) x bs (Ok (combinations (ranges (map bound_members c.in-Ok.sets.items))))) c.scene_at.ensures.table c.scene_at.ensures.context c.in-Ok.ensures.values in
    let told = subst (λ (sets : List BoundSet). BoundValues (Evaluates s.operators.now d) (at_next s.which (before s vs) p) bs (Ok (combinations (ranges (map bound_members sets))))) (sym c.deref.ensures.value) there in
    err_then c.walk_over.result _ _ (λ x h. some_walked s vs d p q bs e (combinations (ranges (map bound_members c.deref.result.now))) (Err x) c.requires.form told h) c.walk_over.ensures.fault

pub walk_exists-returns-clause-fault : goal.walk_exists-returns-clause-fault
walk_exists-returns-clause-fault t c =
    let s = c.args.course.now.stage in
    let vs = map value c.args.slots.now in
    let d = c.args.depth in
    let p = c.args.places in
    let q = c.args.part in
    let bs = c.args.bounds.now in
    let e = c.args.body.now in
    let there = on_stage s vs p c.scene_at.result (λ ops x. Stops (BoundValues (Evaluates ops d) x bs) c.in-Err.fault) c.scene_at.ensures.table c.scene_at.ensures.context c.in-Err.ensures.fault in
    some_refused s vs d p q bs e c.in-Err.fault c.requires.form there

pub walk_over-walk_combinations-requires : goal.walk_over-walk_combinations-requires
walk_over-walk_combinations-requires t c =
    let g = setting c.args.course.now.stage in
    let ctx = before c.args.course.now.stage (map value c.args.slots.now) in
    let same = ap (map members) c.deref.ensures.value ∙ c.in_ok-lists.ensures.members in
    (omega (arith, c.decreases), subst (λ (ls : List (List Val)). AnyGrounded g c.args.depth c.args.course.now.stage.sees.now c.args.places.now (under ctx c.args.body.now (combinations ls))) (sym same) c.requires)

pub walk_over-returns-clause-found : goal.walk_over-returns-clause-found
walk_over-returns-clause-found t c =
    let g = setting c.args.course.now.stage in
    let ctx = before c.args.course.now.stage (map value c.args.slots.now) in
    let same = ap (map members) c.deref.ensures.value ∙ c.in_ok-lists.ensures.members in
    ok_then c.walk_combinations.result _ _ (λ x h. subst (λ (ls : List (List Val)). AnyWalked g c.args.depth c.args.course.now.stage.sees.now c.args.places.now (under ctx c.args.body.now (combinations ls)) (Ok (listed x))) same h) c.walk_combinations.ensures.found

pub walk_over-returns-clause-fault : goal.walk_over-returns-clause-fault
walk_over-returns-clause-fault t c =
    let g = setting c.args.course.now.stage in
    let ctx = before c.args.course.now.stage (map value c.args.slots.now) in
    let same = ap (map members) c.deref.ensures.value ∙ c.in_ok-lists.ensures.members in
    err_then c.walk_combinations.result _ _ (λ x h. subst (λ (ls : List (List Val)). AnyWalked g c.args.depth c.args.course.now.stage.sees.now c.args.places.now (under ctx c.args.body.now (combinations ls)) (Err x)) same h) c.walk_combinations.ensures.fault

pub walk_under-walk_copy-requires : goal.walk_under-walk_copy-requires
walk_under-walk_copy-requires t c =
    let same = ap (map value) c.deref.ensures.value ∙ c.in_ok-inner.ensures in
    (omega (arith, c.decreases), subst (λ (us : List Val). Grounded (setting c.args.course.now.stage) c.args.depth c.args.course.now.stage.sees.now c.args.places.now (before c.args.course.now.stage us) c.args.body.now) (sym same) c.requires.grounds)

pub walk_under-returns-clause-found : goal.walk_under-returns-clause-found
walk_under-returns-clause-found t c =
    let same = ap (map value) c.deref.ensures.value ∙ c.in_ok-inner.ensures in
    ok_then c.walk_copy.result _ _ (λ x h. subst (λ (us : List Val). IsWalked (setting c.args.course.now.stage) c.args.depth c.args.course.now.stage.sees.now c.args.places.now (before c.args.course.now.stage us) c.args.body.now (Ok (listed x))) same h) c.walk_copy.ensures.found

pub walk_under-returns-clause-fault : goal.walk_under-returns-clause-fault
walk_under-returns-clause-fault t c =
    let same = ap (map value) c.deref.ensures.value ∙ c.in_ok-inner.ensures in
    err_then c.walk_copy.result _ _ (λ x h. subst (λ (us : List Val). IsWalked (setting c.args.course.now.stage) c.args.depth c.args.course.now.stage.sees.now c.args.places.now (before c.args.course.now.stage us) c.args.body.now (Err x)) same h) c.walk_copy.ensures.fault

pub walk_combinations-loop-more-init : goal.walk_combinations-loop-more-init
walk_combinations-loop-more-init t c =
    let s = c.args.course.now.stage in
    let g = setting c.args.course.now.stage in
    let vs = map value c.args.slots.now in
    let ctx = before c.args.course.now.stage (map value c.args.slots.now) in
    let d = c.args.depth in
    let sees = c.args.course.now.stage.sees.now in
    let p = c.args.places.now in
    let e = c.args.body.now in
    let lists = map members c.args.lists.now in
    let more = c.has_combination-more.result in
    let places = c.in_ok-indices.indices.items in
    let begun = left_begins lists more places c.in_ok-indices.ensures c.has_combination-more.ensures in
    (under_start g d sees p ctx e (combinations lists) (left_from more lists places) (listed c.none-found.result) begun c.none-found.ensures, within_begins lists more places c.in_ok-indices.ensures c.has_combination-more.ensures)

pub walk_combinations-walk_under-requires : goal.walk_combinations-walk_under-requires
walk_combinations-walk_under-requires t c =
    let s = c.args.course.now.stage in
    let g = setting c.args.course.now.stage in
    let vs = map value c.args.slots.now in
    let ctx = before c.args.course.now.stage (map value c.args.slots.now) in
    let d = c.args.depth in
    let sees = c.args.course.now.stage.sees.now in
    let p = c.args.places.now in
    let e = c.args.body.now in
    let lists = map members c.args.lists.now in
    let more = c.loop-more.more in
    let places = c.loop-more.indices.items in
    let left = some_left more lists places c.loop-more-test.true (c.loop-more.invariant.1 c.loop-more-test.true) in
    let within = subst (λ (ps : List ℕ). AreWithin lists ps) (sym c.deref.ensures.value) (c.loop-more.invariant.1 c.loop-more-test.true) in
    let grounds = under_ground g d sees p ctx e (combinations lists) (left_from more lists places) (at_places lists places) left.0 (listed c.loop-more.found) left.1 c.requires c.loop-more.invariant.0 in
    (omega (arith, c.decreases), (subst (λ (ps : List ℕ). Grounded g d sees p (bind ctx (at_places lists ps)) e) (sym c.deref.ensures.value) grounds, within))

pub walk_combinations-advance-more-requires : goal.walk_combinations-advance-more-requires
walk_combinations-advance-more-requires t c =
    c.loop-more.invariant.1 c.loop-more-test.true

pub walk_combinations-loop-more-smaller : goal.walk_combinations-loop-more-smaller
walk_combinations-loop-more-smaller t c =
    let lists = map members c.args.lists.now in
    let more = c.loop-more.more in
    let places = c.loop-more.indices.items in
    let again = c.advance-more.result in
    let new = c.advance-more.new.places.items in
    fewer (left_from more lists places) (left_from again lists new) (at_places lists places) (left_is more again lists places new c.loop-more-test.true c.advance-more.ensures.left)

pub walk_combinations-returns-in-Err-clause-fault : goal.walk_combinations-returns-in-Err-clause-fault
walk_combinations-returns-in-Err-clause-fault t c =
    let s = c.args.course.now.stage in
    let g = setting c.args.course.now.stage in
    let vs = map value c.args.slots.now in
    let ctx = before c.args.course.now.stage (map value c.args.slots.now) in
    let d = c.args.depth in
    let sees = c.args.course.now.stage.sees.now in
    let p = c.args.places.now in
    let e = c.args.body.now in
    let lists = map members c.args.lists.now in
    let more = c.loop-more.more in
    let places = c.loop-more.indices.items in
    let left = some_left more lists places c.loop-more-test.true (c.loop-more.invariant.1 c.loop-more-test.true) in
    let there = subst (λ (ps : List ℕ). IsWalked g d sees p (bind ctx (at_places lists ps)) e (Err c.in-Err.fault)) c.deref.ensures.value c.in-Err.ensures.fault in
    under_stop g d sees p ctx e (combinations lists) (left_from more lists places) (at_places lists places) left.0 (listed c.loop-more.found) c.in-Err.fault left.1 there c.loop-more.invariant.0

pub walk_combinations-loop-more-preserved : goal.walk_combinations-loop-more-preserved
walk_combinations-loop-more-preserved t c =
    let s = c.args.course.now.stage in
    let g = setting c.args.course.now.stage in
    let vs = map value c.args.slots.now in
    let ctx = before c.args.course.now.stage (map value c.args.slots.now) in
    let d = c.args.depth in
    let sees = c.args.course.now.stage.sees.now in
    let p = c.args.places.now in
    let e = c.args.body.now in
    let lists = map members c.args.lists.now in
    let more = c.loop-more.more in
    let places = c.loop-more.indices.items in
    let again = c.advance-more.result in
    let new = c.advance-more.new.places.items in
    let left = left_is more again lists places new c.loop-more-test.true c.advance-more.ensures.left in
    let there = subst (λ (ps : List ℕ). IsWalked g d sees p (bind ctx (at_places lists ps)) e (Ok (listed c.in-Ok.further))) c.deref.ensures.value c.in-Ok.ensures.found in
    (under_step g d sees p ctx e (combinations lists) (left_from more lists places) (at_places lists places) (left_from again lists new) (listed c.loop-more.found) (listed c.in-Ok.further) (listed c.in_ok-found-in-Ok.found) left there c.in_ok-found-in-Ok.ensures c.loop-more.invariant.0, c.advance-more.ensures.within)

pub walk_combinations-returns-clause-found : goal.walk_combinations-returns-clause-found
walk_combinations-returns-clause-found t c =
    let s = c.args.course.now.stage in
    let g = setting c.args.course.now.stage in
    let vs = map value c.args.slots.now in
    let ctx = before c.args.course.now.stage (map value c.args.slots.now) in
    let d = c.args.depth in
    let sees = c.args.course.now.stage.sees.now in
    let p = c.args.places.now in
    let e = c.args.body.now in
    let lists = map members c.args.lists.now in
    let more = c.loop-more.more in
    let places = c.loop-more.indices.items in
    under_done g d sees p ctx e (combinations lists) (left_from more lists places) (listed c.loop-more.found) (none_more more lists places c.loop-more-test.false) c.loop-more.invariant.0

pub walk_all-loop-term-init : goal.walk_all-loop-term-init
walk_all-loop-term-init t c =
    let s = c.args.course.now.stage in
    let g = setting c.args.course.now.stage in
    let vs = map value c.args.slots.now in
    let ctx = before c.args.course.now.stage (map value c.args.slots.now) in
    let d = c.args.depth in
    let sees = c.args.course.now.stage.sees.now in
    let p = c.args.places in
    let es = parts_of ctx c.args.sense c.args.terms.now in
    all_start g d sees p es (p ∷ []) refl

pub walk_all-walk_from-requires : goal.walk_all-walk_from-requires
walk_all-walk_from-requires t c =
    let s = c.args.course.now.stage in
    let g = setting c.args.course.now.stage in
    let vs = map value c.args.slots.now in
    let ctx = before c.args.course.now.stage (map value c.args.slots.now) in
    let d = c.args.depth in
    let sees = c.args.course.now.stage.sees.now in
    let p = c.args.places in
    let es = parts_of ctx c.args.sense c.args.terms.now in
    let i = c.loop-term.term-index in
    let below : c.loop-term.term-index < length c.args.terms.now = omega arith in
    let cut = apart es i (ctx, in_sense c.args.sense c.term-item.result) (cut_mapped (λ (e : Term). (ctx, in_sense c.args.sense e)) c.args.terms.now i c.term-item.result (cut_at c.args.terms.now i c.term-item.result below c.term-item.is)) in
    let each = all_ground g d sees p es i (ctx, in_sense c.args.sense c.term-item.result) (listed c.loop-term.found) cut c.requires c.loop-term.invariant in
    (omega (arith, c.decreases), subst (λ (e : Term). EachGrounded g d sees (listed c.loop-term.found) ctx e) (sym c.part_in.ensures) each)

pub walk_all-loop-term-preserved : goal.walk_all-loop-term-preserved
walk_all-loop-term-preserved t c =
    let s = c.args.course.now.stage in
    let g = setting c.args.course.now.stage in
    let vs = map value c.args.slots.now in
    let ctx = before c.args.course.now.stage (map value c.args.slots.now) in
    let d = c.args.depth in
    let sees = c.args.course.now.stage.sees.now in
    let p = c.args.places in
    let es = parts_of ctx c.args.sense c.args.terms.now in
    let i = c.loop-term.term-index in
    let below : c.loop-term.term-index < length c.args.terms.now = omega arith in
    let cut = apart es i (ctx, in_sense c.args.sense c.term-item.result) (cut_mapped (λ (e : Term). (ctx, in_sense c.args.sense e)) c.args.terms.now i c.term-item.result (cut_at c.args.terms.now i c.term-item.result below c.term-item.is)) in
    all_step g d sees p es i (ctx, in_sense c.args.sense c.term-item.result) (listed c.loop-term.found) (listed c.in-Ok.further) cut (subst (λ (e : Term). EachWalked g d sees (listed c.loop-term.found) ctx e (Ok (listed c.in-Ok.further))) c.part_in.ensures c.in-Ok.ensures.found) c.loop-term.invariant

pub walk_all-returns-in-Err-clause-fault : goal.walk_all-returns-in-Err-clause-fault
walk_all-returns-in-Err-clause-fault t c =
    let s = c.args.course.now.stage in
    let g = setting c.args.course.now.stage in
    let vs = map value c.args.slots.now in
    let ctx = before c.args.course.now.stage (map value c.args.slots.now) in
    let d = c.args.depth in
    let sees = c.args.course.now.stage.sees.now in
    let p = c.args.places in
    let es = parts_of ctx c.args.sense c.args.terms.now in
    let i = c.loop-term.term-index in
    let below : c.loop-term.term-index < length c.args.terms.now = omega arith in
    let cut = apart es i (ctx, in_sense c.args.sense c.term-item.result) (cut_mapped (λ (e : Term). (ctx, in_sense c.args.sense e)) c.args.terms.now i c.term-item.result (cut_at c.args.terms.now i c.term-item.result below c.term-item.is)) in
    all_stop g d sees p es i (ctx, in_sense c.args.sense c.term-item.result) (listed c.loop-term.found) c.in-Err.fault cut (subst (λ (e : Term). EachWalked g d sees (listed c.loop-term.found) ctx e (Err c.in-Err.fault)) c.part_in.ensures c.in-Err.ensures.fault) c.loop-term.invariant

pub walk_all-returns-clause-found : goal.walk_all-returns-clause-found
walk_all-returns-clause-found t c =
    let s = c.args.course.now.stage in
    let g = setting c.args.course.now.stage in
    let vs = map value c.args.slots.now in
    let ctx = before c.args.course.now.stage (map value c.args.slots.now) in
    let d = c.args.depth in
    let sees = c.args.course.now.stage.sees.now in
    let p = c.args.places in
    let es = parts_of ctx c.args.sense c.args.terms.now in
    let i = c.loop-term.term-index in
    let passed : length c.args.terms.now ≤ c.loop-term.term-index = omega arith in
    let over : length es ≤ c.loop-term.term-index = omega (arith, passed, length-map {B = Context × Term} c.args.terms.now (λ (e : Term). (ctx, in_sense c.args.sense e))) in
    all_done g d sees p es i (listed c.loop-term.found) over c.loop-term.invariant

pub walk_copy-walk_part-requires : goal.walk_copy-walk_part-requires
walk_copy-walk_part-requires t c =
    let s = c.args.course.now.stage in
    let vs = map value c.args.slots.now in
    let q = part_term c.args.part in
    (omega (arith, c.decreases), subst (λ (p : Places). Grounded (setting s) c.args.depth s.sees.now p (before s vs) q) (sym c.in_ok-same.ensures) c.requires)

pub walk_copy-returns-clause-found : goal.walk_copy-returns-clause-found
walk_copy-returns-clause-found t c =
    let s = c.args.course.now.stage in
    let vs = map value c.args.slots.now in
    let q = part_term c.args.part in
    ok_then c.walk_part.result _ _ (λ x h. subst (λ (p : Places). IsWalked (setting s) c.args.depth s.sees.now p (before s vs) q (Ok (listed x))) c.in_ok-same.ensures h) c.walk_part.ensures.found

pub walk_copy-returns-clause-fault : goal.walk_copy-returns-clause-fault
walk_copy-returns-clause-fault t c =
    let s = c.args.course.now.stage in
    let vs = map value c.args.slots.now in
    let q = part_term c.args.part in
    err_then c.walk_part.result _ _ (λ x h. subst (λ (p : Places). IsWalked (setting s) c.args.depth s.sees.now p (before s vs) q (Err x)) c.in_ok-same.ensures h) c.walk_part.ensures.fault

pub walk_any-loop-term-init : goal.walk_any-loop-term-init
walk_any-loop-term-init t c =
    let s = c.args.course.now.stage in
    let g = setting c.args.course.now.stage in
    let vs = map value c.args.slots.now in
    let ctx = before c.args.course.now.stage (map value c.args.slots.now) in
    let d = c.args.depth in
    let sees = c.args.course.now.stage.sees.now in
    let p = c.args.places.now in
    let es = parts_of ctx Itself c.args.terms.now in
    any_start g d sees p es (listed c.none-found.result) c.none-found.ensures

pub walk_any-walk_copy-requires : goal.walk_any-walk_copy-requires
walk_any-walk_copy-requires t c =
    let s = c.args.course.now.stage in
    let g = setting c.args.course.now.stage in
    let vs = map value c.args.slots.now in
    let ctx = before c.args.course.now.stage (map value c.args.slots.now) in
    let d = c.args.depth in
    let sees = c.args.course.now.stage.sees.now in
    let p = c.args.places.now in
    let es = parts_of ctx Itself c.args.terms.now in
    let i = c.loop-term.term-index in
    let below : c.loop-term.term-index < length c.args.terms.now = omega arith in
    let cut = apart es i (ctx, in_sense Itself c.term-item.result) (cut_mapped (λ (e : Term). (ctx, in_sense Itself e)) c.args.terms.now i c.term-item.result (cut_at c.args.terms.now i c.term-item.result below c.term-item.is)) in
    (omega (arith, c.decreases), any_ground g d sees p es i (ctx, in_sense Itself c.term-item.result) cut c.requires)

pub walk_any-loop-term-preserved : goal.walk_any-loop-term-preserved
walk_any-loop-term-preserved t c =
    let s = c.args.course.now.stage in
    let g = setting c.args.course.now.stage in
    let vs = map value c.args.slots.now in
    let ctx = before c.args.course.now.stage (map value c.args.slots.now) in
    let d = c.args.depth in
    let sees = c.args.course.now.stage.sees.now in
    let p = c.args.places.now in
    let es = parts_of ctx Itself c.args.terms.now in
    let i = c.loop-term.term-index in
    let below : c.loop-term.term-index < length c.args.terms.now = omega arith in
    let cut = apart es i (ctx, in_sense Itself c.term-item.result) (cut_mapped (λ (e : Term). (ctx, in_sense Itself e)) c.args.terms.now i c.term-item.result (cut_at c.args.terms.now i c.term-item.result below c.term-item.is)) in
    any_step g d sees p es i (ctx, in_sense Itself c.term-item.result) (listed c.loop-term.found) (listed c.in-Ok.more) (listed c.in_ok-found-in-Ok.found) cut c.in-Ok.ensures.found c.in_ok-found-in-Ok.ensures c.loop-term.invariant

pub walk_any-returns-in-Err-clause-fault : goal.walk_any-returns-in-Err-clause-fault
walk_any-returns-in-Err-clause-fault t c =
    let s = c.args.course.now.stage in
    let g = setting c.args.course.now.stage in
    let vs = map value c.args.slots.now in
    let ctx = before c.args.course.now.stage (map value c.args.slots.now) in
    let d = c.args.depth in
    let sees = c.args.course.now.stage.sees.now in
    let p = c.args.places.now in
    let es = parts_of ctx Itself c.args.terms.now in
    let i = c.loop-term.term-index in
    let below : c.loop-term.term-index < length c.args.terms.now = omega arith in
    let cut = apart es i (ctx, in_sense Itself c.term-item.result) (cut_mapped (λ (e : Term). (ctx, in_sense Itself e)) c.args.terms.now i c.term-item.result (cut_at c.args.terms.now i c.term-item.result below c.term-item.is)) in
    any_stop g d sees p es i (ctx, in_sense Itself c.term-item.result) c.in-Err.fault cut c.in-Err.ensures.fault

pub walk_any-returns-clause-found : goal.walk_any-returns-clause-found
walk_any-returns-clause-found t c =
    let s = c.args.course.now.stage in
    let g = setting c.args.course.now.stage in
    let vs = map value c.args.slots.now in
    let ctx = before c.args.course.now.stage (map value c.args.slots.now) in
    let d = c.args.depth in
    let sees = c.args.course.now.stage.sees.now in
    let p = c.args.places.now in
    let es = parts_of ctx Itself c.args.terms.now in
    let i = c.loop-term.term-index in
    let passed : length c.args.terms.now ≤ c.loop-term.term-index = omega arith in
    let over : length es ≤ c.loop-term.term-index = omega (arith, passed, length-map {B = Context × Term} c.args.terms.now (λ (e : Term). (ctx, in_sense Itself e))) in
    any_done g d sees p es i (listed c.loop-term.found) over c.loop-term.invariant

pub walk_each-loop-places-init : goal.walk_each-loop-places-init
walk_each-loop-places-init t c =
    let s = c.args.course.now.stage in
    let g = setting c.args.course.now.stage in
    let vs = map value c.args.slots.now in
    let ctx = before c.args.course.now.stage (map value c.args.slots.now) in
    let d = c.args.depth in
    let sees = c.args.course.now.stage.sees.now in
    let a = part_term c.args.part in
    let ps = c.args.list.items in
    let gives = c.into_iter-places-iterator.ensures.into_iter_gives in
    record {
      ahead = (0, ahead_first ps ∙ sym gives.0, each_start g d sees ctx a ps (listed c.none-all.result) c.none-all.ensures);
      len = omega (arith, gives.1, ap length gives.0, c.args.list.ok.0);
    }

pub walk_each-walk_part-requires : goal.walk_each-walk_part-requires
walk_each-walk_part-requires t c =
    let s = c.args.course.now.stage in
    let g = setting c.args.course.now.stage in
    let vs = map value c.args.slots.now in
    let ctx = before c.args.course.now.stage (map value c.args.slots.now) in
    let d = c.args.depth in
    let sees = c.args.course.now.stage.sees.now in
    let a = part_term c.args.part in
    let ps = c.args.list.items in
    let ahead = c.loop-places.invariant.ahead in
    let i = ahead.0 in
    let left = into_iter_items c.next.new.self in
    let cut = ahead_at ps (into_iter_items c.loop-places.places-iterator) i c.in-Some.places left ahead.1 c.in-Some.ensures.steps.0 in
    (omega (arith, c.decreases), each_ground g d sees ctx a ps i c.in-Some.places cut c.requires)

pub walk_each-loop-places-preserved : goal.walk_each-loop-places-preserved
walk_each-loop-places-preserved t c =
    let s = c.args.course.now.stage in
    let g = setting c.args.course.now.stage in
    let vs = map value c.args.slots.now in
    let ctx = before c.args.course.now.stage (map value c.args.slots.now) in
    let d = c.args.depth in
    let sees = c.args.course.now.stage.sees.now in
    let a = part_term c.args.part in
    let ps = c.args.list.items in
    let ahead = c.loop-places.invariant.ahead in
    let i = ahead.0 in
    let left = into_iter_items c.next.new.self in
    let cut = ahead_at ps (into_iter_items c.loop-places.places-iterator) i c.in-Some.places left ahead.1 c.in-Some.ensures.steps.0 in
    let step = c.in-Some.ensures.steps in
    let more = each_step g d sees ctx a ps i c.in-Some.places (listed c.loop-places.all) (listed c.in-Ok.more) (listed c.in_ok-all-in-Ok.all) cut c.in-Ok.ensures.found c.in_ok-all-in-Ok.ensures ahead.2 in
    record {
      ahead = (i + 1, ahead_next ps (into_iter_items c.loop-places.places-iterator) i c.in-Some.places left ahead.1 step.0, more);
      len = omega (arith, step.1, c.loop-places.invariant.len, ap length step.0);
    }

pub walk_each-returns-in-Err-clause-fault : goal.walk_each-returns-in-Err-clause-fault
walk_each-returns-in-Err-clause-fault t c =
    let s = c.args.course.now.stage in
    let g = setting c.args.course.now.stage in
    let vs = map value c.args.slots.now in
    let ctx = before c.args.course.now.stage (map value c.args.slots.now) in
    let d = c.args.depth in
    let sees = c.args.course.now.stage.sees.now in
    let a = part_term c.args.part in
    let ps = c.args.list.items in
    let ahead = c.loop-places.invariant.ahead in
    let i = ahead.0 in
    let left = into_iter_items c.next.new.self in
    let cut = ahead_at ps (into_iter_items c.loop-places.places-iterator) i c.in-Some.places left ahead.1 c.in-Some.ensures.steps.0 in
    each_stop g d sees ctx a ps i c.in-Some.places c.in-Err.fault cut c.in-Err.ensures.fault

pub walk_each-returns-clause-found : goal.walk_each-returns-clause-found
walk_each-returns-clause-found t c =
    let s = c.args.course.now.stage in
    let g = setting c.args.course.now.stage in
    let vs = map value c.args.slots.now in
    let ctx = before c.args.course.now.stage (map value c.args.slots.now) in
    let d = c.args.depth in
    let sees = c.args.course.now.stage.sees.now in
    let a = part_term c.args.part in
    let ps = c.args.list.items in
    let ahead = c.loop-places.invariant.ahead in
    let i = ahead.0 in
    let over = sym c.loop-places.invariant.len ∙ c.in-None.ensures.steps.0 in
    each_done g d sees ctx a ps i (listed c.loop-places.all) (ahead_over ps (into_iter_items c.loop-places.places-iterator) i ahead.1 over) ahead.2

pub walk_angled-walk_part-requires : goal.walk_angled-walk_part-requires
walk_angled-walk_part-requires t c =
    let s = c.args.course.now.stage in
    let vs = map value c.args.slots.now in
    let d = c.args.depth in
    let p = c.args.places in
    let q = c.args.part in
    let e = c.args.action.now in
    let v = c.args.subscript.now in
    (omega (arith, c.decreases), angled_grounds s vs d p q e v c.requires.form c.requires.grounds)

pub walk_angled-changed_ones-requires : goal.walk_angled-changed_ones-requires
walk_angled-changed_ones-requires t c =
    let s = c.args.course.now.stage in
    let vs = map value c.args.slots.now in
    let d = c.args.depth in
    let p = c.args.places in
    let q = c.args.part in
    let e = c.args.action.now in
    let v = c.args.subscript.now in
    let at = c.part_place-at.ensures in
    let each = angled_reads s vs d p q e v (listed c.in-Ok.found) c.requires.form c.requires.grounds c.in-Ok.ensures.found in
    let placed = subst (λ (x : Place). EachReads (setting s) d (listed c.in-Ok.found) (before s vs) (changed_of x v)) (sym at) each in
    subst (λ (ps : List Places). EachReads (setting s) d ps (before s vs) (changed_of c.part_place-at.result v)) (sym c.in_ok-list-in-Ok.ensures) placed

pub walk_angled-returns-in_ok-list-in-Ok-clause-found : goal.walk_angled-returns-in_ok-list-in-Ok-clause-found
walk_angled-returns-in_ok-list-in-Ok-clause-found t c =
    let s = c.args.course.now.stage in
    let vs = map value c.args.slots.now in
    let d = c.args.depth in
    let p = c.args.places in
    let q = c.args.part in
    let e = c.args.action.now in
    let v = c.args.subscript.now in
    let at = c.part_place-at.ensures in
    ok_then c.changed_ones.result _ _ (λ x h.
    let placed = subst (λ (y : Place). EachTested (setting s) d s.sees.now c.in_ok-list-in-Ok.list.items (before s vs) (changed_of y v) (Ok (listed x))) at h in
    let there = subst (λ (ps : List Places). EachTested (setting s) d s.sees.now ps (before s vs) (changed_of (place_of (part_term q)) v) (Ok (listed x))) c.in_ok-list-in-Ok.ensures placed in
    angled_walked s vs d p q e v (listed c.in-Ok.found) (Ok (listed x)) c.requires.form c.in-Ok.ensures.found there) c.changed_ones.ensures.found

pub walk_angled-returns-in_ok-list-in-Ok-clause-fault : goal.walk_angled-returns-in_ok-list-in-Ok-clause-fault
walk_angled-returns-in_ok-list-in-Ok-clause-fault t c =
    let s = c.args.course.now.stage in
    let vs = map value c.args.slots.now in
    let d = c.args.depth in
    let p = c.args.places in
    let q = c.args.part in
    let e = c.args.action.now in
    let v = c.args.subscript.now in
    let at = c.part_place-at.ensures in
    err_then c.changed_ones.result _ _ (λ x h.
    let placed = subst (λ (y : Place). EachTested (setting s) d s.sees.now c.in_ok-list-in-Ok.list.items (before s vs) (changed_of y v) (Err x)) at h in
    let there = subst (λ (ps : List Places). EachTested (setting s) d s.sees.now ps (before s vs) (changed_of (place_of (part_term q)) v) (Err x)) c.in_ok-list-in-Ok.ensures placed in
    angled_walked s vs d p q e v (listed c.in-Ok.found) (Err x) c.requires.form c.in-Ok.ensures.found there) c.changed_ones.ensures.fault

pub walk_angled-returns-in-Err-clause-fault : goal.walk_angled-returns-in-Err-clause-fault
walk_angled-returns-in-Err-clause-fault t c =
    let s = c.args.course.now.stage in
    let vs = map value c.args.slots.now in
    let d = c.args.depth in
    let p = c.args.places in
    let q = c.args.part in
    let e = c.args.action.now in
    let v = c.args.subscript.now in
    angled_refused s vs d p q e v c.in-Err.fault c.requires.form c.in-Err.ensures.fault

pub walk_body-definition-operator-requires : goal.walk_body-definition-operator-requires
walk_body-definition-operator-requires t c =
    (c.requires.0, c.requires.1)

pub walk_body-slots_and-requires : goal.walk_body-slots_and-requires
walk_body-slots_and-requires t c =
    let s = c.args.course.now.stage in
    let g = setting c.args.course.now.stage in
    let vs = map value c.args.slots.now in
    let ctx = before c.args.course.now.stage (map value c.args.slots.now) in
    let d = c.args.depth in
    let sees = c.args.course.now.stage.sees.now in
    let p = c.args.places in
    let k = c.args.number.0 in
    let us = c.args.values.now in
    let o = c.definition-operator.result.now in
    let h = body_here g d sees p ctx k us o c.definition-operator.ensures c.requires in
    let many : c.definition-operator.result.now.outer ≤ length c.args.slots.now = omega (arith, h.0, length-map c.args.slots.now value) in
    many

pub walk_body-walk_part-requires : goal.walk_body-walk_part-requires
walk_body-walk_part-requires t c =
    let s = c.args.course.now.stage in
    let g = setting c.args.course.now.stage in
    let vs = map value c.args.slots.now in
    let ctx = before c.args.course.now.stage (map value c.args.slots.now) in
    let d = c.args.depth in
    let sees = c.args.course.now.stage.sees.now in
    let p = c.args.places in
    let k = c.args.number.0 in
    let us = c.args.values.now in
    let o = c.definition-operator.result.now in
    let same = ap (map value) c.deref.ensures.value ∙ c.in_ok-inner.ensures in
    (omega (arith, c.decreases), subst (λ (vs : List Val). Grounded g d sees p (before c.args.course.now.stage vs) o.body) (sym same) (body_here g d sees p ctx k us o c.definition-operator.ensures c.requires).1)

pub walk_body-returns-clause-found : goal.walk_body-returns-clause-found
walk_body-returns-clause-found t c =
    let s = c.args.course.now.stage in
    let g = setting c.args.course.now.stage in
    let vs = map value c.args.slots.now in
    let ctx = before c.args.course.now.stage (map value c.args.slots.now) in
    let d = c.args.depth in
    let sees = c.args.course.now.stage.sees.now in
    let p = c.args.places in
    let k = c.args.number.0 in
    let us = c.args.values.now in
    let o = c.definition-operator.result.now in
    let same = ap (map value) c.deref.ensures.value ∙ c.in_ok-inner.ensures in
    ok_then c.walk_part.result _ _ (λ x h. body_walked g d sees p ctx k us o (Ok (listed x)) c.definition-operator.ensures (subst (λ (vs : List Val). IsWalked g d sees p (before c.args.course.now.stage vs) o.body (Ok (listed x))) same h)) c.walk_part.ensures.found

pub walk_body-returns-clause-fault : goal.walk_body-returns-clause-fault
walk_body-returns-clause-fault t c =
    let s = c.args.course.now.stage in
    let g = setting c.args.course.now.stage in
    let vs = map value c.args.slots.now in
    let ctx = before c.args.course.now.stage (map value c.args.slots.now) in
    let d = c.args.depth in
    let sees = c.args.course.now.stage.sees.now in
    let p = c.args.places in
    let k = c.args.number.0 in
    let us = c.args.values.now in
    let o = c.definition-operator.result.now in
    let same = ap (map value) c.deref.ensures.value ∙ c.in_ok-inner.ensures in
    err_then c.walk_part.result _ _ (λ x h. body_walked g d sees p ctx k us o (Err x) c.definition-operator.ensures (subst (λ (vs : List Val). IsWalked g d sees p (before c.args.course.now.stage vs) o.body (Err x)) same h)) c.walk_part.ensures.fault

pub walk_boxed-walk_copy-requires : goal.walk_boxed-walk_copy-requires
walk_boxed-walk_copy-requires t c =
    let s = c.args.course.now.stage in
    let vs = map value c.args.slots.now in
    let d = c.args.depth in
    let p = c.args.places in
    let q = c.args.part in
    let e = c.args.action.now in
    let v = c.args.subscript.now in
    (omega (arith, c.decreases), (boxed_grounds s vs d p q e v c.requires.form c.requires.grounds).0)

pub walk_boxed-walk_more-requires : goal.walk_boxed-walk_more-requires
walk_boxed-walk_more-requires t c =
    let s = c.args.course.now.stage in
    let vs = map value c.args.slots.now in
    let d = c.args.depth in
    let p = c.args.places in
    let q = c.args.part in
    let e = c.args.action.now in
    let v = c.args.subscript.now in
    let second = (boxed_grounds s vs d p q e v c.requires.form c.requires.grounds).1 in
    (omega (arith, c.decreases), subst (λ (at : Place). Grounded (setting s) d s.sees.now p (before s vs) (unchanged_of at v)) (sym c.part_place.ensures) second)

pub walk_boxed-returns-in-Ok-clause-found : goal.walk_boxed-returns-in-Ok-clause-found
walk_boxed-returns-in-Ok-clause-found t c =
    let s = c.args.course.now.stage in
    let vs = map value c.args.slots.now in
    let d = c.args.depth in
    let p = c.args.places in
    let q = c.args.part in
    let e = c.args.action.now in
    let v = c.args.subscript.now in
    ok_then c.walk_more.result _ _ (λ x h. boxed_walked s vs d p q e v c.part_place.result (listed c.in-Ok.found) (listed x) c.part_place.ensures c.requires.form c.in-Ok.ensures.found h) c.walk_more.ensures.found

pub walk_boxed-returns-in-Ok-clause-fault : goal.walk_boxed-returns-in-Ok-clause-fault
walk_boxed-returns-in-Ok-clause-fault t c =
    let s = c.args.course.now.stage in
    let vs = map value c.args.slots.now in
    let d = c.args.depth in
    let p = c.args.places in
    let q = c.args.part in
    let e = c.args.action.now in
    let v = c.args.subscript.now in
    err_then c.walk_more.result _ _ (λ x h. boxed_refused s vs d p q e v x c.requires.form (inr (subst (λ (at : Place). IsWalked (setting s) d s.sees.now p (before s vs) (unchanged_of at v) (Err x)) c.part_place.ensures h))) c.walk_more.ensures.fault

pub walk_boxed-returns-in-Err-clause-fault : goal.walk_boxed-returns-in-Err-clause-fault
walk_boxed-returns-in-Err-clause-fault t c =
    let s = c.args.course.now.stage in
    let vs = map value c.args.slots.now in
    let d = c.args.depth in
    let p = c.args.places in
    let q = c.args.part in
    let e = c.args.action.now in
    let v = c.args.subscript.now in
    boxed_refused s vs d p q e v c.in-Err.fault c.requires.form (inl c.in-Err.ensures.fault)

pub walk_more-walk_part-requires : goal.walk_more-walk_part-requires
walk_more-walk_part-requires t c =
    (omega (arith, c.decreases), c.requires)

pub walk_more-returns-in_ok-joined-in-Ok-clause-found : goal.walk_more-returns-in_ok-joined-in-Ok-clause-found
walk_more-returns-in_ok-joined-in-Ok-clause-found t c =
    (listed c.in-Ok.more, c.in-Ok.ensures.found, c.in_ok-joined-in-Ok.ensures)

pub walk_all-returns-then-is_none-clause-found : goal.walk_all-returns-then-is_none-clause-found
walk_all-returns-then-is_none-clause-found t c =
    let g = setting c.args.course.now.stage in
    let ctx = before c.args.course.now.stage (map value c.args.slots.now) in
    let d = c.args.depth in
    let sees = c.args.course.now.stage.sees.now in
    let p = c.args.places in
    all_ended g d sees p (parts_of ctx c.args.sense c.args.terms.now) c.loop-term.term-index (listed c.loop-term.found) (c.is_none.ensures c.if-is_none.true) c.loop-term.invariant

pub walk_from-walk_part-requires : goal.walk_from-walk_part-requires
walk_from-walk_part-requires t c =
    let g = setting c.args.course.now.stage in
    let ctx = before c.args.course.now.stage (map value c.args.slots.now) in
    let d = c.args.depth in
    let sees = c.args.course.now.stage.sees.now in
    let a = part_term c.args.part in
    let each = subst (λ (f : Found). EachGrounded g d sees (listed f) ctx a) c.in-One.is c.requires in
    (omega (arith, c.decreases), each c.in-One.places (head_in c.in-One.places []))

pub walk_from-walk_each-requires : goal.walk_from-walk_each-requires
walk_from-walk_each-requires t c =
    let g = setting c.args.course.now.stage in
    let ctx = before c.args.course.now.stage (map value c.args.slots.now) in
    let d = c.args.depth in
    let sees = c.args.course.now.stage.sees.now in
    let a = part_term c.args.part in
    (omega (arith, c.decreases), subst (λ (f : Found). EachGrounded g d sees (listed f) ctx a) c.in-Many.is c.requires)

pub walk_from-returns-in-One-clause-found : goal.walk_from-returns-in-One-clause-found
walk_from-returns-in-One-clause-found t c =
    let g = setting c.args.course.now.stage in
    let ctx = before c.args.course.now.stage (map value c.args.slots.now) in
    let d = c.args.depth in
    let sees = c.args.course.now.stage.sees.now in
    let a = part_term c.args.part in
    ok_then c.walk_part.result _ _ (λ x h. subst (λ (f : Found). EachWalked g d sees (listed f) ctx a (Ok (listed x))) (sym c.in-One.is) (each_one g d sees ctx a c.in-One.places (Ok (listed x)) h)) c.walk_part.ensures.found

pub walk_from-returns-in-One-clause-fault : goal.walk_from-returns-in-One-clause-fault
walk_from-returns-in-One-clause-fault t c =
    let g = setting c.args.course.now.stage in
    let ctx = before c.args.course.now.stage (map value c.args.slots.now) in
    let d = c.args.depth in
    let sees = c.args.course.now.stage.sees.now in
    let a = part_term c.args.part in
    err_then c.walk_part.result _ _ (λ x h. subst (λ (f : Found). EachWalked g d sees (listed f) ctx a (Err x)) (sym c.in-One.is) (each_one g d sees ctx a c.in-One.places (Err x) h)) c.walk_part.ensures.fault

pub walk_from-returns-in-Many-clause-found : goal.walk_from-returns-in-Many-clause-found
walk_from-returns-in-Many-clause-found t c =
    let g = setting c.args.course.now.stage in
    let ctx = before c.args.course.now.stage (map value c.args.slots.now) in
    let d = c.args.depth in
    let sees = c.args.course.now.stage.sees.now in
    let a = part_term c.args.part in
    ok_then c.walk_each.result _ _ (λ x h. subst (λ (f : Found). EachWalked g d sees (listed f) ctx a (Ok (listed x))) (sym c.in-Many.is) h) c.walk_each.ensures.found

pub walk_from-returns-in-Many-clause-fault : goal.walk_from-returns-in-Many-clause-fault
walk_from-returns-in-Many-clause-fault t c =
    let g = setting c.args.course.now.stage in
    let ctx = before c.args.course.now.stage (map value c.args.slots.now) in
    let d = c.args.depth in
    let sees = c.args.course.now.stage.sees.now in
    let a = part_term c.args.part in
    err_then c.walk_each.result _ _ (λ x h. subst (λ (f : Found). EachWalked g d sees (listed f) ctx a (Err x)) (sym c.in-Many.is) h) c.walk_each.ensures.fault
