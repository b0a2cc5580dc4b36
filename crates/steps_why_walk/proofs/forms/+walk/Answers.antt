use Rattle.std.proofs.Common.{◌≡◌, sym, subst, ap, ◌∙◌, ℕ, suc, ◌+◌, ◌-◌, ◌<◌, ◌≤◌, List, [], ◌∷◌, map, length, Bool, true, false, Ok, Err, arith}
use Rattle.std.specs.Prelude.{option_copied}
use Rattle.std.specs.Vec.Iter.{into_iter_items}
use Rattle.std.proofs.lemmas.List.{length-map}
use Rattle.base_core.specs.declared.place.Place.{Place}
use Rattle.values_core.specs.Data.{Val}
use Rattle.names_terms.specs.Lists.{arms_list, terms_list}
use Rattle.names_terms.specs.Terms.{Term, place_of}
use Rattle.eval_meanings.specs.Answers.{Tells}
use Rattle.eval_meanings.specs.Binders.{BoundValues, combinations, ranges}
use Rattle.eval_meanings.specs.Contexts.{Context, Places, bind}
use Rattle.eval_meanings.specs.Evaluates.{Evaluates}
use Rattle.eval_meanings.specs.Outcomes.{Each}
use Rattle.eval_meanings.specs.Unchanged.{TruthOf, changed_of, unchanged_of}
use Rattle.actions_meanings.specs.Forms.{form}
use Rattle.actions_meanings.specs.Holds.{Chosen}
use Rattle.eval_meanings.specs.Reads.{BoundsRead, Reads, ReadsEach}
use Rattle.eval_parts.specs.BoundSets.{bound_members}
use Rattle.eval_parts.specs.Scenes.{Stops}
use Rattle.eval_parts.specs.Walks.{AreWithin, at_places, left_from}
use Rattle.eval_parts.specs.declared.bound_values.BoundSet.{BoundSet}
use Rattle.eval_parts.proofs.Loops.{cut_at, cut_mapped}
use Rattle.eval_parts.proofs.Walking.{fewer, left_begins, left_is, none_more, some_left, within_begins}
use Rattle.actions_meanings.specs.Filled.{at_next}
use Rattle.actions_rows.specs.Rows.{before, form_of, part_term, setting}
use Rattle.actions_rows.specs.declared.part.Part.{Part}
use Rattle.actions_rows.specs.declared.part.Part.TheVariants as part
use Rattle.actions_rows.specs.declared.row.Row.{Row}
use Rattle.steps_walk.proofs.Loops.{ahead_at, ahead_first, ahead_next, ahead_over, apart, within}
use Rattle.steps_walk.proofs.Taken.{in_scene, on_stage}
use Rattle.steps_why_branches.specs.declared.why.Ended.{Ended}
use Rattle.steps_why_branches.specs.declared.sparing.Sparing.{Sparing}
use Rattle.steps_why_walk.specs.Ends.{OrNoMember}
use Rattle.steps_why_walk.specs.Walking.{AnyGrounded, AnyListed, EndGrounded, EndsAltered, EndsRead, IsAfter, IsForm, IsListed, WhyGrounded, parts_of, under}
use Rattle.steps_why_walk.proofs.Changing.{angled_grounds, angled_row, ends_read}
use Rattle.steps_why_walk.proofs.Combining.{after_end, after_place}
use Rattle.steps_why_walk.proofs.Keeping.{ok_then}
use Rattle.steps_why_walk.proofs.Loops.{all_done, all_ground, all_start, all_step, any_done, any_ends, any_ground, any_start, any_step, on_done, on_pass, on_start, on_step, under_done, under_ends, under_ground, under_start, under_step}
use Rattle.steps_why_walk.proofs.Rows.{grounded_at, listed_at, nested_row}
use Rattle.steps_why_walk.proofs.Taken.{arms_grounds, arms_listed, arms_reads, arms_refused, body_here, body_listed, boxed_listed, both_grounds, both_listed, branch_grounds, branch_listed, branch_reads, branch_refused, call_grounds, call_listed, call_reads, call_refused, either_grounds, either_listed, inside_grounds, inside_listed, narrowed_grounds, narrowed_listed, some_grounds, some_listed, some_reads, some_refused}
use Rattle.steps_why_walk.proofs.forms.+walk.Goals as goal
use denote.Ref.{Bor}

abbrev value : Bor Val → Val
value x = x.now

abbrev members : Bor (List Val) → List Val
members x = x.now

pub walk_part-returns-then-depth-eq0 : goal.walk_part-returns-then-depth-eq0
walk_part-returns-then-depth-eq0 t c =
    let s = c.args.stage in
    let vs = map value c.args.slots.now in
    let k = c.args.room in
    let d = c.args.depth in
    let p = c.args.places in
    let q = c.args.part in
    ok_then c.one_end.result _ _ (λ x h. nested_row (setting s) c.args.sparing k d (before s vs) (part_term q) p c.part_place.result c.ends_at.result x.items c.requires.room c.if-depth-eq0.true c.part_place.ensures c.ends_at.ensures h) c.one_end.ensures

pub walk_part-walk_row-requires : goal.walk_part-walk_row-requires
walk_part-walk_row-requires t c =
    let s = c.args.stage in
    let vs = map value c.args.slots.now in
    let k = c.args.room in
    let d = c.args.depth in
    let p = c.args.places in
    let q = c.args.part in
    let few : c.args.depth - 1 < 4294967295 = omega (arith, c.ranges.depth.fits) in
    let same : c.args.depth ≡ suc (c.args.depth - 1) = omega (arith, c.if-depth-eq0.false) in
    let row : IsForm s vs q (form_of (place_of (part_term q)) c.row_of-row.result) = c.row_of-row.ensures ∙ ap (λ (n : ℕ). form (setting s) n (part_term q)) (sym (length-map c.args.slots.now value)) in
    (omega (arith, c.if-depth-eq0.false, c.decreases), (few, (c.requires.room, (row, grounded_at (setting s) d (suc (d - 1)) (before s vs) (part_term q) p same c.requires.grounds))))

pub walk_part-returns : goal.walk_part-returns
walk_part-returns t c =
    let s = c.args.stage in
    let vs = map value c.args.slots.now in
    let k = c.args.room in
    let d = c.args.depth in
    let p = c.args.places in
    let q = c.args.part in
    let same : suc (c.args.depth - 1) ≡ c.args.depth = omega (arith, c.if-depth-eq0.false) in
    ok_then c.walk_row.result _ _ (λ x h. listed_at (setting s) c.args.sparing k (suc (d - 1)) d (before s vs) (part_term q) p x.items same h) c.walk_row.ensures

pub walk_row-walk_test-requires : goal.walk_row-walk_test-requires
walk_row-walk_test-requires t c =
    let R : Row → Type 0 = λ r. IsForm c.args.stage (map value c.args.slots.now) c.args.part (form_of (place_of (part_term c.args.part)) r) in
    record { few = c.requires.few; form = subst R c.in-Test.is c.requires.row; grounds = c.requires.grounds }

pub walk_row-returns-in-Test : goal.walk_row-returns-in-Test
walk_row-returns-in-Test t c =
    ok_then c.walk_test.result _ _ (λ x h. h c.args.room c.requires.room) c.walk_test.ensures

pub walk_row-walk_assign-requires : goal.walk_row-walk_assign-requires
walk_row-walk_assign-requires t c =
    let R : Row → Type 0 = λ r. IsForm c.args.stage (map value c.args.slots.now) c.args.part (form_of (place_of (part_term c.args.part)) r) in
    record { form = subst R c.in-Assign.is c.requires.row; grounds = c.requires.grounds }

pub walk_row-returns-in-Assign : goal.walk_row-returns-in-Assign
walk_row-returns-in-Assign t c =
    ok_then c.walk_assign.result _ _ (λ x h. h c.args.room c.requires.room) c.walk_assign.ensures

pub walk_row-walk_keep-requires : goal.walk_row-walk_keep-requires
walk_row-walk_keep-requires t c =
    let R : Row → Type 0 = λ r. IsForm c.args.stage (map value c.args.slots.now) c.args.part (form_of (place_of (part_term c.args.part)) r) in
    record { form = subst R c.in-Keep.is c.requires.row; grounds = c.requires.grounds }

pub walk_row-returns-in-Keep : goal.walk_row-returns-in-Keep
walk_row-returns-in-Keep t c =
    ok_then c.walk_keep.result _ _ (λ x h. h c.args.room c.requires.room) c.walk_keep.ensures

pub walk_row-walk_choose-requires : goal.walk_row-walk_choose-requires
walk_row-walk_choose-requires t c =
    let R : Row → Type 0 = λ r. IsForm c.args.stage (map value c.args.slots.now) c.args.part (form_of (place_of (part_term c.args.part)) r) in
    record { room = c.requires.room; form = subst R c.in-Choose.is c.requires.row; grounds = c.requires.grounds }

pub walk_row-walk_both-requires : goal.walk_row-walk_both-requires
walk_row-walk_both-requires t c =
    let R : Row → Type 0 = λ r. IsForm c.args.stage (map value c.args.slots.now) c.args.part (form_of (place_of (part_term c.args.part)) r) in
    (omega (arith, c.decreases), (c.requires.room, (subst R c.in-Both.is c.requires.row, c.requires.grounds)))

pub walk_row-walk_unchanged-requires : goal.walk_row-walk_unchanged-requires
walk_row-walk_unchanged-requires t c =
    let R : Row → Type 0 = λ r. IsForm c.args.stage (map value c.args.slots.now) c.args.part (form_of (place_of (part_term c.args.part)) r) in
    (omega (arith, c.decreases), (c.requires.room, (subst R c.in-Unchanged.is c.requires.row, c.requires.grounds)))

pub walk_row-walk_either-requires : goal.walk_row-walk_either-requires
walk_row-walk_either-requires t c =
    let R : Row → Type 0 = λ r. IsForm c.args.stage (map value c.args.slots.now) c.args.part (form_of (place_of (part_term c.args.part)) r) in
    (omega (arith, c.decreases), (c.requires.room, (subst R c.in-Either.is c.requires.row, c.requires.grounds)))

pub walk_row-walk_boxed-requires : goal.walk_row-walk_boxed-requires
walk_row-walk_boxed-requires t c =
    let R : Row → Type 0 = λ r. IsForm c.args.stage (map value c.args.slots.now) c.args.part (form_of (place_of (part_term c.args.part)) r) in
    (omega (arith, c.decreases), (c.requires.room, (subst R c.in-Boxed.is c.requires.row, c.requires.grounds)))

pub walk_row-walk_angled-requires : goal.walk_row-walk_angled-requires
walk_row-walk_angled-requires t c =
    let R : Row → Type 0 = λ r. IsForm c.args.stage (map value c.args.slots.now) c.args.part (form_of (place_of (part_term c.args.part)) r) in
    (omega (arith, c.decreases), (c.requires.room, (subst R c.in-Angled.is c.requires.row, c.requires.grounds)))

pub walk_row-walk_exists-requires : goal.walk_row-walk_exists-requires
walk_row-walk_exists-requires t c =
    let R : Row → Type 0 = λ r. IsForm c.args.stage (map value c.args.slots.now) c.args.part (form_of (place_of (part_term c.args.part)) r) in
    (omega (arith, c.decreases), (c.requires.room, (subst R c.in-Exists.is c.requires.row, c.requires.grounds)))

pub walk_row-walk_branch-requires : goal.walk_row-walk_branch-requires
walk_row-walk_branch-requires t c =
    let R : Row → Type 0 = λ r. IsForm c.args.stage (map value c.args.slots.now) c.args.part (form_of (place_of (part_term c.args.part)) r) in
    (omega (arith, c.decreases), (c.requires.room, (subst R c.in-Branch.is c.requires.row, c.requires.grounds)))

pub walk_row-walk_case-requires : goal.walk_row-walk_case-requires
walk_row-walk_case-requires t c =
    let R : Row → Type 0 = λ r. IsForm c.args.stage (map value c.args.slots.now) c.args.part (form_of (place_of (part_term c.args.part)) r) in
    (omega (arith, c.decreases), (c.requires.room, (subst R c.in-Case.is c.requires.row, c.requires.grounds)))

pub walk_row-walk_inside-requires : goal.walk_row-walk_inside-requires
walk_row-walk_inside-requires t c =
    let R : Row → Type 0 = λ r. IsForm c.args.stage (map value c.args.slots.now) c.args.part (form_of (place_of (part_term c.args.part)) r) in
    (omega (arith, c.decreases), (c.requires.room, (subst R c.in-Inside.is c.requires.row, c.requires.grounds)))

pub walk_row-walk_call-requires : goal.walk_row-walk_call-requires
walk_row-walk_call-requires t c =
    let R : Row → Type 0 = λ r. IsForm c.args.stage (map value c.args.slots.now) c.args.part (form_of (place_of (part_term c.args.part)) r) in
    (omega (arith, c.decreases), (c.requires.room, (subst R c.in-Call.is c.requires.row, c.requires.grounds)))

pub walk_both-walk_all-requires : goal.walk_both-walk_all-requires
walk_both-walk_all-requires t c =
    let s = c.args.stage in
    let vs = map value c.args.slots.now in
    let k = c.args.room in
    let d = c.args.depth in
    let p = c.args.places in
    let q = c.args.part in
    let same = ap (map part_term) c.deref.ensures.value ∙ c.in_ok-parts.ensures in
    (omega (arith, c.decreases), (c.requires.room, both_grounds s c.args.sparing vs k c.requires.room d p q c.requires.grounds c.deref.result.now (terms_list c.args.terms.now) same c.requires.form))

pub walk_both-returns : goal.walk_both-returns
walk_both-returns t c =
    let s = c.args.stage in
    let vs = map value c.args.slots.now in
    let k = c.args.room in
    let d = c.args.depth in
    let p = c.args.places in
    let q = c.args.part in
    let same = ap (map part_term) c.deref.ensures.value ∙ c.in_ok-parts.ensures in
    ok_then c.walk_all.result _ _ (λ x h. both_listed s c.args.sparing vs k c.requires.room d p q c.requires.grounds c.deref.result.now (terms_list c.args.terms.now) same c.requires.form x.items h) c.walk_all.ensures

pub walk_unchanged-walk_all-requires : goal.walk_unchanged-walk_all-requires
walk_unchanged-walk_all-requires t c =
    let s = c.args.stage in
    let vs = map value c.args.slots.now in
    let k = c.args.room in
    let d = c.args.depth in
    let p = c.args.places in
    let q = c.args.part in
    let ts = map (unchanged_of (place_of (part_term q))) (terms_list c.args.terms.now) in
    let same = ap (map part_term) c.deref.ensures.value ∙ c.in_ok-parts.ensures ∙ ap (λ (at : Place). map (unchanged_of at) (terms_list c.args.terms.now)) c.part_place.ensures in
    let us = map value c.outermost-slots.result.now in
    (omega (arith, c.decreases), (c.requires.room, narrowed_grounds s c.args.sparing vs k c.requires.room d p q c.requires.grounds c.args.kept us c.deref.result.now ts c.outermost-slots.ensures same c.requires.form))

pub walk_unchanged-returns : goal.walk_unchanged-returns
walk_unchanged-returns t c =
    let s = c.args.stage in
    let vs = map value c.args.slots.now in
    let k = c.args.room in
    let d = c.args.depth in
    let p = c.args.places in
    let q = c.args.part in
    let ts = map (unchanged_of (place_of (part_term q))) (terms_list c.args.terms.now) in
    let same = ap (map part_term) c.deref.ensures.value ∙ c.in_ok-parts.ensures ∙ ap (λ (at : Place). map (unchanged_of at) (terms_list c.args.terms.now)) c.part_place.ensures in
    let us = map value c.outermost-slots.result.now in
    ok_then c.walk_all.result _ _ (λ x h. narrowed_listed s c.args.sparing vs k c.requires.room d p q c.requires.grounds c.args.kept us c.deref.result.now ts c.outermost-slots.ensures same c.requires.form x.items h) c.walk_all.ensures

pub walk_either-walk_any-requires : goal.walk_either-walk_any-requires
walk_either-walk_any-requires t c =
    let s = c.args.stage in
    let vs = map value c.args.slots.now in
    let k = c.args.room in
    let d = c.args.depth in
    let p = c.args.places in
    let q = c.args.part in
    let same = ap (map part_term) c.deref.ensures.value ∙ c.in_ok-parts.ensures in
    (omega (arith, c.decreases), (c.requires.room, either_grounds s c.args.sparing vs k c.requires.room d p q c.requires.grounds c.deref.result.now (terms_list c.args.terms.now) same c.requires.form))

pub walk_either-returns : goal.walk_either-returns
walk_either-returns t c =
    let s = c.args.stage in
    let vs = map value c.args.slots.now in
    let k = c.args.room in
    let d = c.args.depth in
    let p = c.args.places in
    let q = c.args.part in
    let same = ap (map part_term) c.deref.ensures.value ∙ c.in_ok-parts.ensures in
    ok_then c.or_no_member.result _ _ (λ x h. either_listed s c.args.sparing vs k c.requires.room d p q c.requires.grounds c.deref.result.now (terms_list c.args.terms.now) same c.requires.form c.in_ok-ends.ends.items x.items c.in_ok-ends.ensures
    (subst (λ (at : Place). OrNoMember at c.in_ok-ends.ends.items x.items) c.part_place.ensures h)) c.or_no_member.ensures

pub walk_boxed-walk_any-requires : goal.walk_boxed-walk_any-requires
walk_boxed-walk_any-requires t c =
    let s = c.args.stage in
    let vs = map value c.args.slots.now in
    let k = c.args.room in
    let d = c.args.depth in
    let p = c.args.places in
    let q = c.args.part in
    let e = c.args.action.now in
    let f = unchanged_of (place_of (part_term q)) c.args.subscript.now in
    let qs = part.Plain c.args.action ∷ part.Unchanged c.part_place.result c.args.subscript ∷ [] in
    let same : map part_term qs ≡ e ∷ f ∷ [] = ap (λ (at : Place). c.args.action.now ∷ unchanged_of at c.args.subscript.now ∷ []) c.part_place.ensures in
    (omega (arith, c.decreases), (c.requires.room, either_grounds s c.args.sparing vs k c.requires.room d p q c.requires.grounds qs (e ∷ f ∷ []) same c.requires.form))

pub walk_boxed-returns : goal.walk_boxed-returns
walk_boxed-returns t c =
    let s = c.args.stage in
    let vs = map value c.args.slots.now in
    let k = c.args.room in
    let d = c.args.depth in
    let p = c.args.places in
    let q = c.args.part in
    let e = c.args.action.now in
    let f = unchanged_of (place_of (part_term q)) c.args.subscript.now in
    let qs = part.Plain c.args.action ∷ part.Unchanged c.part_place.result c.args.subscript ∷ [] in
    let same : map part_term qs ≡ e ∷ f ∷ [] = ap (λ (at : Place). c.args.action.now ∷ unchanged_of at c.args.subscript.now ∷ []) c.part_place.ensures in
    ok_then c.walk_any.result _ _ (λ x h. boxed_listed s c.args.sparing vs k c.requires.room d p q c.requires.grounds qs e f same c.requires.form x.items h) c.walk_any.ensures

pub walk_angled-walk_part-requires : goal.walk_angled-walk_part-requires
walk_angled-walk_part-requires t c =
    let s = c.args.stage in
    let vs = map value c.args.slots.now in
    let k = c.args.room in
    let d = c.args.depth in
    let p = c.args.places in
    let q = c.args.part in
    let e = c.args.action.now in
    let v = c.args.subscript.now in
    (omega (arith, c.decreases), (c.requires.room, angled_grounds (setting s) c.args.sparing k c.requires.room d (before s vs) (part_term q) p c.requires.grounds e v c.requires.form))

pub walk_angled-altered_ends-requires : goal.walk_angled-altered_ends-requires
walk_angled-altered_ends-requires t c =
    let s = c.args.stage in
    let vs = map value c.args.slots.now in
    let k = c.args.room in
    let d = c.args.depth in
    let p = c.args.places in
    let q = c.args.part in
    let e = c.args.action.now in
    let v = c.args.subscript.now in
    let read = ends_read (setting s) c.args.sparing k c.requires.room d (before s vs) (part_term q) p c.requires.grounds e v c.requires.form c.in_ok-found.found.items c.in_ok-found.ensures in
    subst (λ (at : Place). EndsRead (setting s) d (before s vs) (changed_of at v) c.in_ok-found.found.items) (sym c.part_place.ensures) read

pub walk_angled-returns : goal.walk_angled-returns
walk_angled-returns t c =
    let s = c.args.stage in
    let vs = map value c.args.slots.now in
    let k = c.args.room in
    let d = c.args.depth in
    let p = c.args.places in
    let q = c.args.part in
    let e = c.args.action.now in
    let v = c.args.subscript.now in
    let found = c.in_ok-found.found.items in
    ok_then c.altered_ends.result _ _ (λ x h. angled_row (setting s) c.args.sparing k c.requires.room d (before s vs) (part_term q) p c.requires.grounds e v c.requires.form found x.items c.in_ok-found.ensures
    (subst (λ (at : Place). EndsAltered (setting s) d (before s vs) (changed_of at v) found x.items) c.part_place.ensures h)) c.altered_ends.ensures

pub walk_inside-walk_part-requires : goal.walk_inside-walk_part-requires
walk_inside-walk_part-requires t c =
    let s = c.args.stage in
    let vs = map value c.args.slots.now in
    let k = c.args.room in
    let d = c.args.depth in
    let p = c.args.places in
    let q = c.args.part in
    (omega (arith, c.decreases), (c.requires.room, inside_grounds s c.args.sparing vs k c.requires.room d p q c.requires.grounds c.args.inner.now c.requires.form))

pub walk_inside-returns : goal.walk_inside-returns
walk_inside-returns t c =
    let s = c.args.stage in
    let vs = map value c.args.slots.now in
    let k = c.args.room in
    let d = c.args.depth in
    let p = c.args.places in
    let q = c.args.part in
    ok_then c.walk_part.result _ _ (λ x h. inside_listed s c.args.sparing vs k c.requires.room d p q c.requires.grounds c.args.inner.now c.requires.form x.items h) c.walk_part.ensures

pub walk_branch-eval_truth-requires : goal.walk_branch-eval_truth-requires
walk_branch-eval_truth-requires t c =
    let s = c.args.stage in
    let vs = map value c.args.slots.now in
    let k = c.args.room in
    let d = c.args.depth in
    let p = c.args.places in
    let q = c.args.part in
    in_scene s vs p c.scene_at.result (λ ops x. Reads ops d x c.args.test.now) c.scene_at.ensures.table c.scene_at.ensures.context (branch_reads s c.args.sparing vs k c.requires.room d p q c.requires.grounds c.args.test.now c.args.holds.now c.args.other.now c.requires.form)

pub walk_branch-walk_part-requires : goal.walk_branch-walk_part-requires
walk_branch-walk_part-requires t c =
    let s = c.args.stage in
    let vs = map value c.args.slots.now in
    let k = c.args.room in
    let d = c.args.depth in
    let p = c.args.places in
    let q = c.args.part in
    let there = on_stage s vs p c.scene_at.result (λ ops x. TruthOf (Evaluates ops d) x c.args.test.now (Ok c.in-Ok-true.field-0)) c.scene_at.ensures.table c.scene_at.ensures.context c.in-Ok-true.ensures in
    let told = subst (λ (b : Bool). TruthOf (Evaluates s.operators.now d) (at_next s.which (before s vs) p) c.args.test.now (Ok b)) c.in-Ok-true.field-0-test there in
    (omega (arith, c.decreases), (c.requires.room, branch_grounds s c.args.sparing vs k c.requires.room d p q c.requires.grounds c.args.test.now c.args.holds.now c.args.other.now true c.requires.form told))

pub walk_branch-returns-in-Ok-true : goal.walk_branch-returns-in-Ok-true
walk_branch-returns-in-Ok-true t c =
    let s = c.args.stage in
    let vs = map value c.args.slots.now in
    let k = c.args.room in
    let d = c.args.depth in
    let p = c.args.places in
    let q = c.args.part in
    let there = on_stage s vs p c.scene_at.result (λ ops x. TruthOf (Evaluates ops d) x c.args.test.now (Ok c.in-Ok-true.field-0)) c.scene_at.ensures.table c.scene_at.ensures.context c.in-Ok-true.ensures in
    let told = subst (λ (b : Bool). TruthOf (Evaluates s.operators.now d) (at_next s.which (before s vs) p) c.args.test.now (Ok b)) c.in-Ok-true.field-0-test there in
    ok_then c.walk_part.result _ _ (λ x h. branch_listed s c.args.sparing vs k c.requires.room d p q c.requires.grounds c.args.test.now c.args.holds.now c.args.other.now true c.requires.form told x.items h) c.walk_part.ensures

pub walk_branch-walk_part-requires-in-Ok-false : goal.walk_branch-walk_part-requires-in-Ok-false
walk_branch-walk_part-requires-in-Ok-false t c =
    let s = c.args.stage in
    let vs = map value c.args.slots.now in
    let k = c.args.room in
    let d = c.args.depth in
    let p = c.args.places in
    let q = c.args.part in
    let there = on_stage s vs p c.scene_at.result (λ ops x. TruthOf (Evaluates ops d) x c.args.test.now (Ok c.in-Ok-false.field-0)) c.scene_at.ensures.table c.scene_at.ensures.context c.in-Ok-false.ensures in
    let told = subst (λ (b : Bool). TruthOf (Evaluates s.operators.now d) (at_next s.which (before s vs) p) c.args.test.now (Ok b)) c.in-Ok-false.field-0-test there in
    (omega (arith, c.decreases), (c.requires.room, branch_grounds s c.args.sparing vs k c.requires.room d p q c.requires.grounds c.args.test.now c.args.holds.now c.args.other.now false c.requires.form told))

pub walk_branch-returns-in-Ok-false : goal.walk_branch-returns-in-Ok-false
walk_branch-returns-in-Ok-false t c =
    let s = c.args.stage in
    let vs = map value c.args.slots.now in
    let k = c.args.room in
    let d = c.args.depth in
    let p = c.args.places in
    let q = c.args.part in
    let there = on_stage s vs p c.scene_at.result (λ ops x. TruthOf (Evaluates ops d) x c.args.test.now (Ok c.in-Ok-false.field-0)) c.scene_at.ensures.table c.scene_at.ensures.context c.in-Ok-false.ensures in
    let told = subst (λ (b : Bool). TruthOf (Evaluates s.operators.now d) (at_next s.which (before s vs) p) c.args.test.now (Ok b)) c.in-Ok-false.field-0-test there in
    ok_then c.walk_part-in-Ok-false.result _ _ (λ x h. branch_listed s c.args.sparing vs k c.requires.room d p q c.requires.grounds c.args.test.now c.args.holds.now c.args.other.now false c.requires.form told x.items h) c.walk_part-in-Ok-false.ensures

pub walk_branch-returns-in_ok-end-in-Err : goal.walk_branch-returns-in_ok-end-in-Err
walk_branch-returns-in_ok-end-in-Err t c =
    let s = c.args.stage in
    let vs = map value c.args.slots.now in
    let k = c.args.room in
    let d = c.args.depth in
    let p = c.args.places in
    let q = c.args.part in
    let there = on_stage s vs p c.scene_at.result (λ ops x. Tells {A = Bool} (Err c.in-Err.fault) (TruthOf (Evaluates ops d) x c.args.test.now)) c.scene_at.ensures.table c.scene_at.ensures.context c.in-Err.ensures in
    ok_then c.one_end.result _ _ (λ x h. branch_refused s c.args.sparing vs k c.requires.room d p q c.requires.grounds c.args.test.now c.args.holds.now c.args.other.now c.in-Err.fault c.in_ok-end-in-Err.end x.items c.requires.form there c.in_ok-end-in-Err.ensures h) c.one_end.ensures

pub walk_case-chosen_arm-requires : goal.walk_case-chosen_arm-requires
walk_case-chosen_arm-requires t c =
    let s = c.args.stage in
    let vs = map value c.args.slots.now in
    let k = c.args.room in
    let d = c.args.depth in
    let p = c.args.places in
    let q = c.args.part in
    let cs = arms_list c.args.cases.now in
    let other = option_copied c.args.other in
    in_scene s vs p c.scene_at-scene.result (λ ops x. ReadsEach (Reads ops d) x (map (λ y. y.0) cs)) c.scene_at-scene.ensures.table c.scene_at-scene.ensures.context (arms_reads s c.args.sparing vs k c.requires.room d p q c.requires.grounds cs other c.requires.form)

pub walk_case-walk_part-requires : goal.walk_case-walk_part-requires
walk_case-walk_part-requires t c =
    let s = c.args.stage in
    let vs = map value c.args.slots.now in
    let k = c.args.room in
    let d = c.args.depth in
    let p = c.args.places in
    let q = c.args.part in
    let cs = arms_list c.args.cases.now in
    let other = option_copied c.args.other in
    let there = on_stage s vs p c.scene_at-scene.result (λ ops x. Chosen (TruthOf (Evaluates ops d) x) c.part_place.result cs other (Ok c.in-Ok.term.now)) c.scene_at-scene.ensures.table c.scene_at-scene.ensures.context c.in-Ok.ensures.chosen in
    let told = subst (λ (at : Place). Chosen (TruthOf (Evaluates s.operators.now d) (at_next s.which (before s vs) p)) at cs other (Ok c.in-Ok.term.now)) c.part_place.ensures there in
    (omega (arith, c.decreases), (c.requires.room, arms_grounds s c.args.sparing vs k c.requires.room d p q c.requires.grounds cs other c.in-Ok.term.now c.requires.form told))

pub walk_case-returns-in-Ok : goal.walk_case-returns-in-Ok
walk_case-returns-in-Ok t c =
    let s = c.args.stage in
    let vs = map value c.args.slots.now in
    let k = c.args.room in
    let d = c.args.depth in
    let p = c.args.places in
    let q = c.args.part in
    let cs = arms_list c.args.cases.now in
    let other = option_copied c.args.other in
    let there = on_stage s vs p c.scene_at-scene.result (λ ops x. Chosen (TruthOf (Evaluates ops d) x) c.part_place.result cs other (Ok c.in-Ok.term.now)) c.scene_at-scene.ensures.table c.scene_at-scene.ensures.context c.in-Ok.ensures.chosen in
    let told = subst (λ (at : Place). Chosen (TruthOf (Evaluates s.operators.now d) (at_next s.which (before s vs) p)) at cs other (Ok c.in-Ok.term.now)) c.part_place.ensures there in
    ok_then c.walk_part.result _ _ (λ x h. arms_listed s c.args.sparing vs k c.requires.room d p q c.requires.grounds cs other c.in-Ok.term.now c.requires.form told x.items h) c.walk_part.ensures

pub walk_case-returns-in_ok-end-in-Err : goal.walk_case-returns-in_ok-end-in-Err
walk_case-returns-in_ok-end-in-Err t c =
    let s = c.args.stage in
    let vs = map value c.args.slots.now in
    let k = c.args.room in
    let d = c.args.depth in
    let p = c.args.places in
    let q = c.args.part in
    let cs = arms_list c.args.cases.now in
    let other = option_copied c.args.other in
    let here = on_stage s vs p c.scene_at-scene.result (λ ops x. Stops (Chosen (TruthOf (Evaluates ops d) x) c.part_place.result cs other) c.in-Err.fault) c.scene_at-scene.ensures.table c.scene_at-scene.ensures.context c.in-Err.ensures.fault in
    let there = subst (λ (at : Place). Stops (Chosen (TruthOf (Evaluates s.operators.now d) (at_next s.which (before s vs) p)) at cs other) c.in-Err.fault) c.part_place.ensures here in
    ok_then c.one_end.result _ _ (λ x h. arms_refused s c.args.sparing vs k c.requires.room d p q c.requires.grounds cs other c.in-Err.fault c.in_ok-end-in-Err.end x.items c.requires.form there c.in_ok-end-in-Err.ensures h) c.one_end.ensures

pub walk_call-eval_each-requires : goal.walk_call-eval_each-requires
walk_call-eval_each-requires t c =
    let s = c.args.stage in
    let vs = map value c.args.slots.now in
    let k = c.args.room in
    let d = c.args.depth in
    let p = c.args.places in
    let q = c.args.part in
    let j = c.args.number.0 in
    let ts = terms_list c.args.arguments.now in
    in_scene s vs p c.scene_at.result (λ ops x. ReadsEach (Reads ops d) x ts) c.scene_at.ensures.table c.scene_at.ensures.context (call_reads s c.args.sparing vs k c.requires.room d p q c.requires.grounds j ts c.requires.form)

pub walk_call-walk_body-requires : goal.walk_call-walk_body-requires
walk_call-walk_body-requires t c =
    let s = c.args.stage in
    let vs = map value c.args.slots.now in
    let k = c.args.room in
    let d = c.args.depth in
    let p = c.args.places in
    let q = c.args.part in
    let j = c.args.number.0 in
    let ts = terms_list c.args.arguments.now in
    let there = on_stage s vs p c.scene_at.result (λ ops x. Each (Evaluates ops d x) ts (Ok c.in-Ok.values.items)) c.scene_at.ensures.table c.scene_at.ensures.context c.in-Ok.ensures.values in
    let told = subst (λ (us : List Val). Each (Evaluates s.operators.now d (at_next s.which (before s vs) p)) ts (Ok us)) (sym c.deref.ensures.value) there in
    (omega (arith, c.decreases), (c.requires.room, call_grounds s c.args.sparing vs k c.requires.room d p q c.requires.grounds j ts c.deref.result.now c.requires.form told))

pub walk_call-returns-in-Ok : goal.walk_call-returns-in-Ok
walk_call-returns-in-Ok t c =
    let s = c.args.stage in
    let vs = map value c.args.slots.now in
    let k = c.args.room in
    let d = c.args.depth in
    let p = c.args.places in
    let q = c.args.part in
    let j = c.args.number.0 in
    let ts = terms_list c.args.arguments.now in
    let there = on_stage s vs p c.scene_at.result (λ ops x. Each (Evaluates ops d x) ts (Ok c.in-Ok.values.items)) c.scene_at.ensures.table c.scene_at.ensures.context c.in-Ok.ensures.values in
    let told = subst (λ (us : List Val). Each (Evaluates s.operators.now d (at_next s.which (before s vs) p)) ts (Ok us)) (sym c.deref.ensures.value) there in
    ok_then c.walk_body.result _ _ (λ x h. call_listed s c.args.sparing vs k c.requires.room d p q c.requires.grounds j ts c.deref.result.now c.requires.form told x.items h) c.walk_body.ensures

pub walk_call-returns-in_ok-end-in-Err : goal.walk_call-returns-in_ok-end-in-Err
walk_call-returns-in_ok-end-in-Err t c =
    let s = c.args.stage in
    let vs = map value c.args.slots.now in
    let k = c.args.room in
    let d = c.args.depth in
    let p = c.args.places in
    let q = c.args.part in
    let j = c.args.number.0 in
    let ts = terms_list c.args.arguments.now in
    let there = on_stage s vs p c.scene_at.result (λ ops x. Stops (Each (Evaluates ops d x) ts) c.in-Err.fault) c.scene_at.ensures.table c.scene_at.ensures.context c.in-Err.ensures.fault in
    ok_then c.one_end.result _ _ (λ x h. call_refused s c.args.sparing vs k c.requires.room d p q c.requires.grounds j ts c.in-Err.fault c.in_ok-end-in-Err.end x.items c.requires.form there c.in_ok-end-in-Err.ensures h) c.one_end.ensures

pub walk_exists-eval_bounds-requires : goal.walk_exists-eval_bounds-requires
walk_exists-eval_bounds-requires t c =
    let s = c.args.stage in
    let vs = map value c.args.slots.now in
    let k = c.args.room in
    let d = c.args.depth in
    let p = c.args.places in
    let q = c.args.part in
    let bs = c.args.bounds.now in
    let e = c.args.body.now in
    in_scene s vs p c.scene_at.result (λ ops x. BoundsRead (Reads ops d) x bs) c.scene_at.ensures.table c.scene_at.ensures.context (some_reads s c.args.sparing vs k c.requires.room d p q c.requires.grounds bs e c.requires.form)

pub walk_exists-walk_over-requires : goal.walk_exists-walk_over-requires
walk_exists-walk_over-requires t c =
    let s = c.args.stage in
    let vs = map value c.args.slots.now in
    let k = c.args.room in
    let d = c.args.depth in
    let p = c.args.places in
    let q = c.args.part in
    let bs = c.args.bounds.now in
    let e = c.args.body.now in
    let all = combinations (ranges (map bound_members c.deref.result.now)) in
    let there = on_stage s vs p c.scene_at.result (λ ops x. BoundValues (Evaluates ops d) x bs (Ok (combinations (ranges (map bound_members c.in-Ok.sets.items))))) c.scene_at.ensures.table c.scene_at.ensures.context c.in-Ok.ensures.values in
    let told = subst (λ (sets : List BoundSet). BoundValues (Evaluates s.operators.now d) (at_next s.which (before s vs) p) bs (Ok (combinations (ranges (map bound_members sets))))) (sym c.deref.ensures.value) there in
    (omega (arith, c.decreases), (c.requires.room, some_grounds s c.args.sparing vs k c.requires.room d p q c.requires.grounds bs e all c.requires.form told))

pub walk_exists-returns-in-Ok : goal.walk_exists-returns-in-Ok
walk_exists-returns-in-Ok t c =
    let s = c.args.stage in
    let vs = map value c.args.slots.now in
    let k = c.args.room in
    let d = c.args.depth in
    let p = c.args.places in
    let q = c.args.part in
    let bs = c.args.bounds.now in
    let e = c.args.body.now in
    let all = combinations (ranges (map bound_members c.deref.result.now)) in
    let there = on_stage s vs p c.scene_at.result (λ ops x. BoundValues (Evaluates ops d) x bs (Ok (combinations (ranges (map bound_members c.in-Ok.sets.items))))) c.scene_at.ensures.table c.scene_at.ensures.context c.in-Ok.ensures.values in
    let told = subst (λ (sets : List BoundSet). BoundValues (Evaluates s.operators.now d) (at_next s.which (before s vs) p) bs (Ok (combinations (ranges (map bound_members sets))))) (sym c.deref.ensures.value) there in
    ok_then c.or_no_member.result _ _ (λ x h. some_listed s c.args.sparing vs k c.requires.room d p q c.requires.grounds bs e all c.requires.form told c.in_ok-ends-in-Ok.ends.items x.items c.in_ok-ends-in-Ok.ensures
    (subst (λ (at : Place). OrNoMember at c.in_ok-ends-in-Ok.ends.items x.items) c.part_place.ensures h)) c.or_no_member.ensures

pub walk_exists-returns : goal.walk_exists-returns
walk_exists-returns t c =
    let s = c.args.stage in
    let vs = map value c.args.slots.now in
    let k = c.args.room in
    let d = c.args.depth in
    let p = c.args.places in
    let q = c.args.part in
    let bs = c.args.bounds.now in
    let e = c.args.body.now in
    let there = on_stage s vs p c.scene_at.result (λ ops x. Stops (BoundValues (Evaluates ops d) x bs) c.in-Err.fault) c.scene_at.ensures.table c.scene_at.ensures.context c.in-Err.ensures.fault in
    ok_then c.one_end.result _ _ (λ x h. some_refused s c.args.sparing vs k c.requires.room d p q c.requires.grounds bs e c.in-Err.fault c.in_ok-end-in-Err.end x.items c.requires.form there c.in_ok-end-in-Err.ensures h) c.one_end.ensures

pub walk_over-walk_combinations-requires : goal.walk_over-walk_combinations-requires
walk_over-walk_combinations-requires t c =
    let g = setting c.args.stage in
    let ctx = before c.args.stage (map value c.args.slots.now) in
    let d = c.args.depth in
    let p = c.args.places.now in
    let same = ap (map members) c.deref.ensures.value ∙ c.in_ok-lists.ensures.members in
    (omega (arith, c.decreases), (c.requires.room, subst (λ (ls : List (List Val)). AnyGrounded g d p (under ctx c.args.body.now (combinations ls))) (sym same) c.requires.grounds))

pub walk_over-returns : goal.walk_over-returns
walk_over-returns t c =
    let g = setting c.args.stage in
    let ctx = before c.args.stage (map value c.args.slots.now) in
    let k = c.args.room in
    let d = c.args.depth in
    let p = c.args.places.now in
    let same = ap (map members) c.deref.ensures.value ∙ c.in_ok-lists.ensures.members in
    ok_then c.walk_combinations.result _ _ (λ x h. subst (λ (ls : List (List Val)). AnyListed g c.args.sparing k d p (under ctx c.args.body.now (combinations ls)) x.items) same h) c.walk_combinations.ensures

pub walk_under-walk_copy-requires : goal.walk_under-walk_copy-requires
walk_under-walk_copy-requires t c =
    let g = setting c.args.stage in
    let d = c.args.depth in
    let p = c.args.places.now in
    let same = ap (map value) c.deref.ensures.value ∙ c.in_ok-inner.ensures in
    (omega (arith, c.decreases), (c.requires.room, subst (λ (us : List Val). WhyGrounded g d (before c.args.stage us) c.args.body.now p) (sym same) c.requires.grounds))

pub walk_under-returns : goal.walk_under-returns
walk_under-returns t c =
    let g = setting c.args.stage in
    let k = c.args.room in
    let d = c.args.depth in
    let p = c.args.places.now in
    let same = ap (map value) c.deref.ensures.value ∙ c.in_ok-inner.ensures in
    ok_then c.walk_copy.result _ _ (λ x h. subst (λ (us : List Val). IsListed g c.args.sparing k d (before c.args.stage us) c.args.body.now p x.items) same h) c.walk_copy.ensures

pub walk_combinations-loop-more-init : goal.walk_combinations-loop-more-init
walk_combinations-loop-more-init t c =
    let g = setting c.args.stage in
    let ctx = before c.args.stage (map value c.args.slots.now) in
    let k = c.args.room in
    let d = c.args.depth in
    let p = c.args.places.now in
    let e = c.args.body.now in
    let lists = map members c.args.lists.now in
    let more = c.has_combination-more.result in
    let places = c.in_ok-indices.indices.items in
    let begun = left_begins lists more places c.in_ok-indices.ensures c.has_combination-more.ensures in
    (under_start g c.args.sparing k d p ctx e (combinations lists) (left_from more lists places) c.new-all.result.items begun c.new-all.ensures.items, within_begins lists more places c.in_ok-indices.ensures c.has_combination-more.ensures)

pub walk_combinations-returns-then-len-room : goal.walk_combinations-returns-then-len-room
walk_combinations-returns-then-len-room t c =
    let g = setting c.args.stage in
    let ctx = before c.args.stage (map value c.args.slots.now) in
    let k = c.args.room in
    let d = c.args.depth in
    let p = c.args.places.now in
    let e = c.args.body.now in
    let lists = map members c.args.lists.now in
    let more = c.loop-more.more in
    let places = c.loop-more.indices.items in
    let full : k ≤ length c.loop-more.all.items = omega arith in
    under_ends g c.args.sparing k d p ctx e (combinations lists) (left_from more lists places) c.loop-more.all.items c.requires.room full c.loop-more.invariant.0

pub walk_combinations-walk_under-requires : goal.walk_combinations-walk_under-requires
walk_combinations-walk_under-requires t c =
    let g = setting c.args.stage in
    let ctx = before c.args.stage (map value c.args.slots.now) in
    let k = c.args.room in
    let d = c.args.depth in
    let p = c.args.places.now in
    let e = c.args.body.now in
    let lists = map members c.args.lists.now in
    let more = c.loop-more.more in
    let places = c.loop-more.indices.items in
    let left = some_left more lists places c.loop-more-test.true (c.loop-more.invariant.1 c.loop-more-test.true) in
    let within = subst (λ (ps : List ℕ). AreWithin lists ps) (sym c.deref.ensures.value) (c.loop-more.invariant.1 c.loop-more-test.true) in
    let grounds = under_ground g c.args.sparing k d p ctx e (combinations lists) (left_from more lists places) (at_places lists places) left.0 c.loop-more.all.items left.1 c.requires.grounds c.loop-more.invariant.0 in
    let room : 1 ≤ c.args.room - c.len-in-loop-more.result = omega arith in
    (omega (arith, c.decreases), (room, (subst (λ (ps : List ℕ). WhyGrounded g d (bind ctx (at_places lists ps)) e p) (sym c.deref.ensures.value) grounds, within)))

pub walk_combinations-advance-more-requires : goal.walk_combinations-advance-more-requires
walk_combinations-advance-more-requires t c =
    c.loop-more.invariant.1 c.loop-more-test.true

pub walk_combinations-loop-more-smaller : goal.walk_combinations-loop-more-smaller
walk_combinations-loop-more-smaller t c =
    let e = c.args.body.now in
    let lists = map members c.args.lists.now in
    let more = c.loop-more.more in
    let places = c.loop-more.indices.items in
    let again = c.advance-more.result in
    let new = c.advance-more.new.places.items in
    fewer (left_from more lists places) (left_from again lists new) (at_places lists places) (left_is more again lists places new c.loop-more-test.true c.advance-more.ensures.left)

pub walk_combinations-loop-more-preserved : goal.walk_combinations-loop-more-preserved
walk_combinations-loop-more-preserved t c =
    let g = setting c.args.stage in
    let ctx = before c.args.stage (map value c.args.slots.now) in
    let k = c.args.room in
    let d = c.args.depth in
    let p = c.args.places.now in
    let e = c.args.body.now in
    let lists = map members c.args.lists.now in
    let more = c.loop-more.more in
    let places = c.loop-more.indices.items in
    let again = c.advance-more.result in
    let new = c.advance-more.new.places.items in
    let left = left_is more again lists places new c.loop-more-test.true c.advance-more.ensures.left in
    let few : length c.loop-more.all.items < k = omega arith in
    let same : c.len-in-loop-more.result ≡ length c.loop-more.all.items = omega arith in
    let here = subst (λ (ps : List ℕ). IsListed g c.args.sparing (k - c.len-in-loop-more.result) d (bind ctx (at_places lists ps)) e p c.in-Ok.further.items) c.deref.ensures.value c.in-Ok.ensures in
    let there = subst (λ (n : ℕ). IsListed g c.args.sparing (k - n) d (bind ctx (at_places lists places)) e p c.in-Ok.further.items) same here in
    (under_step g c.args.sparing k d p ctx e (combinations lists) (left_from more lists places) (at_places lists places) (left_from again lists new) c.loop-more.all.items c.in-Ok.further.items c.append.new.all.items left few there c.in_ok-append-in-Ok.ensures c.loop-more.invariant.0, c.advance-more.ensures.within)

pub walk_combinations-returns : goal.walk_combinations-returns
walk_combinations-returns t c =
    let g = setting c.args.stage in
    let ctx = before c.args.stage (map value c.args.slots.now) in
    let k = c.args.room in
    let d = c.args.depth in
    let p = c.args.places.now in
    let e = c.args.body.now in
    let lists = map members c.args.lists.now in
    let more = c.loop-more.more in
    let places = c.loop-more.indices.items in
    under_done g c.args.sparing k d p ctx e (combinations lists) (left_from more lists places) c.loop-more.all.items (none_more more lists places c.loop-more-test.false) c.loop-more.invariant.0

pub walk_all-loop-part-init : goal.walk_all-loop-part-init
walk_all-loop-part-init t c =
    let g = setting c.args.stage in
    let ctx = before c.args.stage (map value c.args.slots.now) in
    let k = c.args.room in
    let d = c.args.depth in
    let p = c.args.places in
    all_start g c.args.sparing k d p (parts_of ctx c.args.parts.now) c.in_ok-found.found.items c.requires.room c.in_ok-found.ensures

pub walk_all-walk_on-requires : goal.walk_all-walk_on-requires
walk_all-walk_on-requires t c =
    let g = setting c.args.stage in
    let ctx = before c.args.stage (map value c.args.slots.now) in
    let k = c.args.room in
    let d = c.args.depth in
    let p = c.args.places in
    let es = parts_of ctx c.args.parts.now in
    let i = c.loop-part.part-index in
    let e : Context × Term = (ctx, part_term c.part-item.result) in
    let below : c.loop-part.part-index < length c.args.parts.now = omega arith in
    let cut = apart es i e (cut_mapped (λ (q : Part). (ctx, part_term q)) c.args.parts.now i c.part-item.result (cut_at c.args.parts.now i c.part-item.result below c.part-item.is)) in
    (omega (arith, c.decreases), (c.requires.room, all_ground g c.args.sparing k d p es i e c.loop-part.found.items cut c.requires.grounds c.loop-part.invariant))

pub walk_all-loop-part-preserved : goal.walk_all-loop-part-preserved
walk_all-loop-part-preserved t c =
    let g = setting c.args.stage in
    let ctx = before c.args.stage (map value c.args.slots.now) in
    let k = c.args.room in
    let d = c.args.depth in
    let p = c.args.places in
    let es = parts_of ctx c.args.parts.now in
    let i = c.loop-part.part-index in
    let e : Context × Term = (ctx, part_term c.part-item.result) in
    let below : c.loop-part.part-index < length c.args.parts.now = omega arith in
    let cut = apart es i e (cut_mapped (λ (q : Part). (ctx, part_term q)) c.args.parts.now i c.part-item.result (cut_at c.args.parts.now i c.part-item.result below c.part-item.is)) in
    all_step g c.args.sparing k d p es i e c.loop-part.found.items c.in-Ok.further.items c.requires.room cut c.in-Ok.ensures c.loop-part.invariant

pub walk_all-returns : goal.walk_all-returns
walk_all-returns t c =
    let g = setting c.args.stage in
    let ctx = before c.args.stage (map value c.args.slots.now) in
    let k = c.args.room in
    let d = c.args.depth in
    let p = c.args.places in
    let es = parts_of ctx c.args.parts.now in
    let i = c.loop-part.part-index in
    let passed : length c.args.parts.now ≤ c.loop-part.part-index = omega arith in
    let over : length es ≤ i = omega (arith, passed, length-map {B = Context × Term} c.args.parts.now (λ (q : Part). (ctx, part_term q))) in
    all_done g c.args.sparing k d p es i c.loop-part.found.items over c.loop-part.invariant

pub walk_any-loop-part-init : goal.walk_any-loop-part-init
walk_any-loop-part-init t c =
    let g = setting c.args.stage in
    let ctx = before c.args.stage (map value c.args.slots.now) in
    let k = c.args.room in
    let d = c.args.depth in
    let p = c.args.places.now in
    any_start g c.args.sparing k d p (parts_of ctx c.args.parts.now) c.new-all.result.items c.new-all.ensures.items

pub walk_any-returns-then-len-room : goal.walk_any-returns-then-len-room
walk_any-returns-then-len-room t c =
    let g = setting c.args.stage in
    let ctx = before c.args.stage (map value c.args.slots.now) in
    let k = c.args.room in
    let d = c.args.depth in
    let p = c.args.places.now in
    let es = parts_of ctx c.args.parts.now in
    let i = c.loop-part.part-index in
    let e : Context × Term = (ctx, part_term c.part-item.result) in
    let below : c.loop-part.part-index < length c.args.parts.now = omega arith in
    let cut = apart es i e (cut_mapped (λ (q : Part). (ctx, part_term q)) c.args.parts.now i c.part-item.result (cut_at c.args.parts.now i c.part-item.result below c.part-item.is)) in
    let full : k ≤ length c.loop-part.all.items = omega arith in
    any_ends g c.args.sparing k d p es i e c.loop-part.all.items c.requires.room full cut c.loop-part.invariant

pub walk_any-walk_copy-requires : goal.walk_any-walk_copy-requires
walk_any-walk_copy-requires t c =
    let g = setting c.args.stage in
    let ctx = before c.args.stage (map value c.args.slots.now) in
    let k = c.args.room in
    let d = c.args.depth in
    let p = c.args.places.now in
    let es = parts_of ctx c.args.parts.now in
    let i = c.loop-part.part-index in
    let e : Context × Term = (ctx, part_term c.part-item.result) in
    let below : c.loop-part.part-index < length c.args.parts.now = omega arith in
    let cut = apart es i e (cut_mapped (λ (q : Part). (ctx, part_term q)) c.args.parts.now i c.part-item.result (cut_at c.args.parts.now i c.part-item.result below c.part-item.is)) in
    let room : 1 ≤ c.args.room - c.len-in-loop-part.result = omega arith in
    (omega (arith, c.decreases), (room, any_ground g c.args.sparing k d p es i e cut c.requires.grounds))

pub walk_any-loop-part-preserved : goal.walk_any-loop-part-preserved
walk_any-loop-part-preserved t c =
    let g = setting c.args.stage in
    let ctx = before c.args.stage (map value c.args.slots.now) in
    let k = c.args.room in
    let d = c.args.depth in
    let p = c.args.places.now in
    let es = parts_of ctx c.args.parts.now in
    let i = c.loop-part.part-index in
    let e : Context × Term = (ctx, part_term c.part-item.result) in
    let below : c.loop-part.part-index < length c.args.parts.now = omega arith in
    let cut = apart es i e (cut_mapped (λ (q : Part). (ctx, part_term q)) c.args.parts.now i c.part-item.result (cut_at c.args.parts.now i c.part-item.result below c.part-item.is)) in
    let few : length c.loop-part.all.items < k = omega arith in
    let same : c.len-in-loop-part.result ≡ length c.loop-part.all.items = omega arith in
    any_step g c.args.sparing k d p es i e c.loop-part.all.items c.in-Ok.more.items c.append.new.all.items few cut (subst (λ (n : ℕ). IsListed g c.args.sparing (k - n) d ctx (part_term c.part-item.result) p c.in-Ok.more.items) same c.in-Ok.ensures) c.in_ok-append-in-Ok.ensures c.loop-part.invariant

pub walk_any-returns : goal.walk_any-returns
walk_any-returns t c =
    let g = setting c.args.stage in
    let ctx = before c.args.stage (map value c.args.slots.now) in
    let k = c.args.room in
    let d = c.args.depth in
    let p = c.args.places.now in
    let es = parts_of ctx c.args.parts.now in
    let i = c.loop-part.part-index in
    let passed : length c.args.parts.now ≤ c.loop-part.part-index = omega arith in
    let over : length es ≤ i = omega (arith, passed, length-map {B = Context × Term} c.args.parts.now (λ (q : Part). (ctx, part_term q))) in
    any_done g c.args.sparing k d p es i c.loop-part.all.items over c.loop-part.invariant

pub walk_copy-walk_part-requires : goal.walk_copy-walk_part-requires
walk_copy-walk_part-requires t c =
    let g = setting c.args.stage in
    let ctx = before c.args.stage (map value c.args.slots.now) in
    let d = c.args.depth in
    (omega (arith, c.decreases), (c.requires.room, subst (λ (p : Places). WhyGrounded g d ctx (part_term c.args.part) p) (sym c.in_ok-same.ensures) c.requires.grounds))

pub walk_copy-returns : goal.walk_copy-returns
walk_copy-returns t c =
    let g = setting c.args.stage in
    let ctx = before c.args.stage (map value c.args.slots.now) in
    let k = c.args.room in
    let d = c.args.depth in
    ok_then c.walk_part.result _ _ (λ x h. subst (λ (p : Places). IsListed g c.args.sparing k d ctx (part_term c.args.part) p x.items) c.in_ok-same.ensures h) c.walk_part.ensures

pub walk_end-walk_part-requires : goal.walk_end-walk_part-requires
walk_end-walk_part-requires t c =
    let g = setting c.args.stage in
    let ctx = before c.args.stage (map value c.args.slots.now) in
    let d = c.args.depth in
    let e : Context × Term = (ctx, part_term c.args.part) in
    (omega (arith, c.decreases), (c.requires.room, subst (λ (n : Ended). EndGrounded g d e n) c.in-Passed.is c.requires.grounds))

pub walk_end-returns-in_ok-ends-in-Passed : goal.walk_end-returns-in_ok-ends-in-Passed
walk_end-returns-in_ok-ends-in-Passed t c =
    let g = setting c.args.stage in
    let ctx = before c.args.stage (map value c.args.slots.now) in
    let k = c.args.room in
    let d = c.args.depth in
    let e : Context × Term = (ctx, part_term c.args.part) in
    ok_then c.behind.result _ _ (λ x h. subst (λ (n : Ended). IsAfter g c.args.sparing k d e n x.items) (sym c.in-Passed.is)
    (after_place g c.args.sparing k d ctx (part_term c.args.part) c.in-Passed.places c.in-Passed.spared c.in_ok-ends-in-Passed.ends.items x.items h
    (subst (λ (sp : Sparing). IsListed g sp k d ctx (part_term c.args.part) c.in-Passed.places c.in_ok-ends-in-Passed.ends.items) c.after_first-open.ensures c.in_ok-ends-in-Passed.ensures))) c.behind.ensures

pub walk_end-returns-in-Ends : goal.walk_end-returns-in-Ends
walk_end-returns-in-Ends t c =
    let g = setting c.args.stage in
    let ctx = before c.args.stage (map value c.args.slots.now) in
    let k = c.args.room in
    let d = c.args.depth in
    let e : Context × Term = (ctx, part_term c.args.part) in
    ok_then c.one_end.result _ _ (λ x h. subst (λ (n : Ended). IsAfter g c.args.sparing k d e n x.items) (sym c.in-Ends.is) (after_end g c.args.sparing k d e c.in-Ends.why x.items c.requires.room h)) c.one_end.ensures

pub walk_on-loop-end-init : goal.walk_on-loop-end-init
walk_on-loop-end-init t c =
    let g = setting c.args.stage in
    let ctx = before c.args.stage (map value c.args.slots.now) in
    let k = c.args.room in
    let d = c.args.depth in
    let e : Context × Term = (ctx, part_term c.args.part) in
    let ps = c.args.found.items in
    let gives = c.into_iter-end-iterator.ensures.into_iter_gives in
    record {
      ahead = (0, ahead_first ps ∙ sym gives.0, on_start g c.args.sparing k d e ps c.new-all.result.items c.new-all.ensures.items);
      len = omega (arith, gives.1, ap length gives.0, c.args.found.ok.0);
    }

pub walk_on-walk_end-requires : goal.walk_on-walk_end-requires
walk_on-walk_end-requires t c =
    let g = setting c.args.stage in
    let ctx = before c.args.stage (map value c.args.slots.now) in
    let k = c.args.room in
    let d = c.args.depth in
    let e : Context × Term = (ctx, part_term c.args.part) in
    let ps = c.args.found.items in
    let ahead = c.loop-end.invariant.ahead in
    let i = ahead.0 in
    let left = into_iter_items c.next.new.self in
    let step = c.in-Some.ensures.steps in
    let cut = ahead_at ps (into_iter_items c.loop-end.end-iterator) i c.in-Some.end left ahead.1 step.0 in
    let room : 1 ≤ c.args.room - c.len-then-len-room.result = omega arith in
    (omega (arith, c.decreases), (room, c.requires.grounds c.in-Some.end (within ps i c.in-Some.end cut)))

pub walk_on-loop-end-preserved-in-Continue-1 : goal.walk_on-loop-end-preserved-in-Continue-1
walk_on-loop-end-preserved-in-Continue-1 t c =
    let g = setting c.args.stage in
    let ctx = before c.args.stage (map value c.args.slots.now) in
    let k = c.args.room in
    let d = c.args.depth in
    let e : Context × Term = (ctx, part_term c.args.part) in
    let ps = c.args.found.items in
    let ahead = c.loop-end.invariant.ahead in
    let i = ahead.0 in
    let left = into_iter_items c.next.new.self in
    let step = c.in-Some.ensures.steps in
    let cut = ahead_at ps (into_iter_items c.loop-end.end-iterator) i c.in-Some.end left ahead.1 step.0 in
    let few : length c.loop-end.all.items < k = omega arith in
    let same : c.len-then-len-room.result ≡ length c.loop-end.all.items = omega arith in
    let more = on_step g c.args.sparing k d e ps i c.in-Some.end c.loop-end.all.items c.in-Ok.more.items c.append.new.all.items few cut
    (subst (λ (n : ℕ). IsAfter g c.args.sparing (k - n) d e c.in-Some.end c.in-Ok.more.items) same c.in-Ok.ensures) c.in_ok-append-in-Ok.ensures ahead.2 in
    record {
      ahead = (i + 1, ahead_next ps (into_iter_items c.loop-end.end-iterator) i c.in-Some.end left ahead.1 step.0, more);
      len = omega (arith, step.1, c.loop-end.invariant.len, ap length step.0);
    }

pub walk_on-loop-end-preserved : goal.walk_on-loop-end-preserved
walk_on-loop-end-preserved t c =
    let g = setting c.args.stage in
    let ctx = before c.args.stage (map value c.args.slots.now) in
    let k = c.args.room in
    let d = c.args.depth in
    let e : Context × Term = (ctx, part_term c.args.part) in
    let ps = c.args.found.items in
    let ahead = c.loop-end.invariant.ahead in
    let i = ahead.0 in
    let left = into_iter_items c.next.new.self in
    let step = c.in-Some.ensures.steps in
    let cut = ahead_at ps (into_iter_items c.loop-end.end-iterator) i c.in-Some.end left ahead.1 step.0 in
    let full : k ≤ length c.loop-end.all.items = omega arith in
    let more = on_pass g c.args.sparing k d e ps i c.in-Some.end c.loop-end.all.items full cut ahead.2 in
    record {
      ahead = (i + 1, ahead_next ps (into_iter_items c.loop-end.end-iterator) i c.in-Some.end left ahead.1 step.0, more);
      len = omega (arith, step.1, c.loop-end.invariant.len, ap length step.0);
    }

pub walk_on-returns : goal.walk_on-returns
walk_on-returns t c =
    let g = setting c.args.stage in
    let ctx = before c.args.stage (map value c.args.slots.now) in
    let k = c.args.room in
    let d = c.args.depth in
    let e : Context × Term = (ctx, part_term c.args.part) in
    let ps = c.args.found.items in
    let ahead = c.loop-end.invariant.ahead in
    let over = ahead_over ps (into_iter_items c.loop-end.end-iterator) ahead.0 ahead.1 (sym c.loop-end.invariant.len ∙ c.in-None.ensures.steps.0) in
    on_done g c.args.sparing k d e ps ahead.0 c.loop-end.all.items over ahead.2

pub walk_body-definition-operator-requires : goal.walk_body-definition-operator-requires
walk_body-definition-operator-requires t c =
    (c.requires.grounds.0, c.requires.grounds.1)

pub walk_body-slots_and-requires : goal.walk_body-slots_and-requires
walk_body-slots_and-requires t c =
    let g = setting c.args.stage in
    let ctx = before c.args.stage (map value c.args.slots.now) in
    let d = c.args.depth in
    let p = c.args.places in
    let j = c.args.number.0 in
    let us = c.args.values.now in
    let o = c.definition-operator.result.now in
    let body = body_here g d p ctx j us o c.definition-operator.ensures c.requires.grounds in
    let many : c.definition-operator.result.now.outer ≤ length c.args.slots.now = omega (arith, body.0, length-map c.args.slots.now value) in
    many

pub walk_body-walk_part-requires : goal.walk_body-walk_part-requires
walk_body-walk_part-requires t c =
    let g = setting c.args.stage in
    let ctx = before c.args.stage (map value c.args.slots.now) in
    let d = c.args.depth in
    let p = c.args.places in
    let j = c.args.number.0 in
    let us = c.args.values.now in
    let o = c.definition-operator.result.now in
    let body = body_here g d p ctx j us o c.definition-operator.ensures c.requires.grounds in
    let same = ap (map value) c.deref.ensures.value ∙ c.in_ok-inner.ensures in
    (omega (arith, c.decreases), (c.requires.room, subst (λ (vs : List Val). WhyGrounded g d (before c.args.stage vs) o.body p) (sym same) body.1))

pub walk_body-returns : goal.walk_body-returns
walk_body-returns t c =
    let g = setting c.args.stage in
    let ctx = before c.args.stage (map value c.args.slots.now) in
    let k = c.args.room in
    let d = c.args.depth in
    let p = c.args.places in
    let j = c.args.number.0 in
    let us = c.args.values.now in
    let o = c.definition-operator.result.now in
    let same = ap (map value) c.deref.ensures.value ∙ c.in_ok-inner.ensures in
    ok_then c.walk_part.result _ _ (λ x h. body_listed g c.args.sparing k d p ctx j us o x.items c.definition-operator.ensures (subst (λ (vs : List Val). IsListed g c.args.sparing k d (before c.args.stage vs) o.body p x.items) same h)) c.walk_part.ensures
