use Rattle.std.proofs.Common.{◌≡◌, ℕ, suc, ◌-◌, ◌+◌, ◌<◌, ◌≤◌, List, length, drop, Bool, true, false, Ok, sym, subst, ap, map, take, ◌∙◌, [], ◌∷◌, refl, arith}
use Rattle.std.specs.Prelude.{option_copied}
use Rattle.std.proofs.lemmas.List.{length-map}
use Rattle.base_core.specs.declared.place.Place.{Place}
use Rattle.values_core.specs.Data.{Val}
use Rattle.names_terms.specs.Lists.{arms_list, terms_list}
use Rattle.names_terms.specs.Terms.{Term, place_of}
use Rattle.eval_meanings.specs.Answers.{Tells}
use Rattle.eval_meanings.specs.Binders.{BoundValues, combinations, ranges}
use Rattle.eval_meanings.specs.Contexts.{Context, bind, enter, within}
use Rattle.eval_meanings.specs.Evaluates.{Evaluates}
use Rattle.eval_meanings.specs.Outcomes.{Each}
use Rattle.eval_meanings.specs.Unchanged.{TruthOf, changed_of, unchanged_of}
use Rattle.actions_meanings.specs.Forms.{Setting, form}
use Rattle.actions_meanings.specs.Holds.{Chosen}
use Rattle.eval_meanings.specs.Reads.{Reads}
use Rattle.eval_parts.specs.Scenes.{Stops, with_slots}
use Rattle.steps_found_states.specs.Parts.{Parts}
use Rattle.actions_rows.specs.declared.part.Part.TheVariants as part
use Rattle.eval_parts.proofs.Loops.{Cut, cut_at, cut_mapped}
use Rattle.actions_rows.specs.Rows.{form_of, part_term}
use Rattle.actions_rows.specs.declared.part.Part.{Part}
use Rattle.actions_rows.specs.declared.row.Row.{Row}
use Rattle.judge_truth.specs.Pairs.{at, setting}
use Rattle.eval_parts.specs.BoundSets.{bound_members}
use Rattle.judge_truth.specs.Deciding.{AllDecided, AllReady, AnyDecided, AnyReady, EachGrounded, IsDecided, IsForm, Ready, parts_at, under}
use Rattle.eval_parts.specs.declared.bound_values.BoundSet.{BoundSet}
use Rattle.judge_truth.proofs.Choices.{any_ends, any_ground, any_more, any_start, any_stops, chosen_of, first_and_rest, first_ground, members_end, members_more, members_start, members_stop, no_lists_decided, no_lists_ground, rest_length, under_one}
use Rattle.judge_truth.proofs.Conjunctions.{all_ends, all_fails, all_ground, all_start, all_step, all_stops}
use Rattle.judge_truth.proofs.Opening.{decided_at, grounded_at, nested_decided}
use Rattle.judge_truth.proofs.Taken.{angled_decided, angled_not, angled_read, angled_ready, angled_stop, arms_decided, arms_read, arms_ready, arms_stop, body_decided, body_here, both_decided, both_ready, branch_decided, branch_reads, branch_ready, branch_stops, call_decided, call_reads, call_ready, call_stops, either_decided, either_ready, inside_decided, inside_ready, narrowed_decided, narrowed_ready, of_pair, some_decided, some_read, some_ready, some_stops, to_pair}
use Rattle.judge_truth.proofs.deciding.+decide.Goals as goal
use denote.Ref.{Bor}

abbrev value : Bor Val → Val
value x = x.now

abbrev members : Bor (List Val) → List Val
members x = x.now

pub decide_part-returns-then-depth-eq0 : goal.decide_part-returns-then-depth-eq0
decide_part-returns-then-depth-eq0 t c =
    let s = c.args.pair in
    let d = c.args.depth in
    let q = c.args.part in
    nested_decided (setting s) d (at s).next (at s) (part_term q) c.part_place.result c.if-depth-eq0.true c.part_place.ensures

pub decide_part-decide_row-requires : goal.decide_part-decide_row-requires
decide_part-decide_row-requires t c =
    let s = c.args.pair in
    let d = c.args.depth in
    let q = c.args.part in
    let few : c.args.depth - 1 < 4294967295 = omega (arith, c.ranges.depth.fits) in
    let same : c.args.depth ≡ suc (c.args.depth - 1) = omega (arith, c.if-depth-eq0.false) in
    let slots : length c.args.pair.scene.slots.now ≡ length (at c.args.pair).slots = sym (length-map c.args.pair.scene.slots.now value) in
    let row : form_of (place_of (part_term q)) c.row_of-row.result ≡ form (setting s) (length c.args.pair.scene.slots.now) (part_term q) =
    subst (λ (g : Setting). form_of (place_of (part_term q)) c.row_of-row.result ≡ form g (length c.args.pair.scene.slots.now) (part_term q)) c.stage_of.ensures.setting c.row_of-row.ensures in
    (omega (arith, c.if-depth-eq0.false, c.decreases), (few, (row ∙ ap (λ (n : ℕ). form (setting s) n (part_term q)) slots, (c.requires.0, grounded_at (setting s) d (suc (d - 1)) (at s).next (at s) (part_term q) same c.requires.1))))

pub decide_part-returns : goal.decide_part-returns
decide_part-returns t c =
    let s = c.args.pair in
    let d = c.args.depth in
    let q = c.args.part in
    let same : suc (c.args.depth - 1) ≡ c.args.depth = omega (arith, c.if-depth-eq0.false) in
    decided_at (setting s) (suc (d - 1)) d (at s).next (at s) (part_term q) c.decide_row.result same c.decide_row.ensures

pub decide_row-decide_test-requires : goal.decide_row-decide_test-requires
decide_row-decide_test-requires t c =
    let R : Row → Type 0 = λ r. IsForm c.args.pair c.args.part (form_of (place_of (part_term c.args.part)) r) in
    record { few = c.requires.few; form = subst R c.in-Test.is c.requires.row; ready = c.requires.ready }

pub decide_row-decide_assign-requires : goal.decide_row-decide_assign-requires
decide_row-decide_assign-requires t c =
    let R : Row → Type 0 = λ r. IsForm c.args.pair c.args.part (form_of (place_of (part_term c.args.part)) r) in
    record { form = subst R c.in-Assign.is c.requires.row; ready = c.requires.ready }

pub decide_row-decide_keep-requires : goal.decide_row-decide_keep-requires
decide_row-decide_keep-requires t c =
    let R : Row → Type 0 = λ r. IsForm c.args.pair c.args.part (form_of (place_of (part_term c.args.part)) r) in
    record { form = subst R c.in-Keep.is c.requires.row; ready = c.requires.ready }

pub decide_row-decide_choose-requires : goal.decide_row-decide_choose-requires
decide_row-decide_choose-requires t c =
    let R : Row → Type 0 = λ r. IsForm c.args.pair c.args.part (form_of (place_of (part_term c.args.part)) r) in
    record { form = subst R c.in-Choose.is c.requires.row; ready = c.requires.ready }

pub decide_row-decide_both-requires : goal.decide_row-decide_both-requires
decide_row-decide_both-requires t c =
    let R : Row → Type 0 = λ r. IsForm c.args.pair c.args.part (form_of (place_of (part_term c.args.part)) r) in
    (omega (arith, c.decreases), (subst R c.in-Both.is c.requires.row, c.requires.ready))

pub decide_row-decide_unchanged-requires : goal.decide_row-decide_unchanged-requires
decide_row-decide_unchanged-requires t c =
    let R : Row → Type 0 = λ r. IsForm c.args.pair c.args.part (form_of (place_of (part_term c.args.part)) r) in
    (omega (arith, c.decreases), (subst R c.in-Unchanged.is c.requires.row, c.requires.ready))

pub decide_row-decide_either-requires : goal.decide_row-decide_either-requires
decide_row-decide_either-requires t c =
    let R : Row → Type 0 = λ r. IsForm c.args.pair c.args.part (form_of (place_of (part_term c.args.part)) r) in
    (omega (arith, c.decreases), (subst R c.in-Either.is c.requires.row, c.requires.ready))

pub decide_row-decide_boxed-requires : goal.decide_row-decide_boxed-requires
decide_row-decide_boxed-requires t c =
    let R : Row → Type 0 = λ r. IsForm c.args.pair c.args.part (form_of (place_of (part_term c.args.part)) r) in
    (omega (arith, c.decreases), (subst R c.in-Boxed.is c.requires.row, c.requires.ready))

pub decide_row-decide_angled-requires : goal.decide_row-decide_angled-requires
decide_row-decide_angled-requires t c =
    let R : Row → Type 0 = λ r. IsForm c.args.pair c.args.part (form_of (place_of (part_term c.args.part)) r) in
    (omega (arith, c.decreases), (subst R c.in-Angled.is c.requires.row, c.requires.ready))

pub decide_row-decide_exists-requires : goal.decide_row-decide_exists-requires
decide_row-decide_exists-requires t c =
    let R : Row → Type 0 = λ r. IsForm c.args.pair c.args.part (form_of (place_of (part_term c.args.part)) r) in
    (omega (arith, c.decreases), (subst R c.in-Exists.is c.requires.row, c.requires.ready))

pub decide_row-decide_branch-requires : goal.decide_row-decide_branch-requires
decide_row-decide_branch-requires t c =
    let R : Row → Type 0 = λ r. IsForm c.args.pair c.args.part (form_of (place_of (part_term c.args.part)) r) in
    (omega (arith, c.decreases), (subst R c.in-Branch.is c.requires.row, c.requires.ready))

pub decide_row-decide_case-requires : goal.decide_row-decide_case-requires
decide_row-decide_case-requires t c =
    let R : Row → Type 0 = λ r. IsForm c.args.pair c.args.part (form_of (place_of (part_term c.args.part)) r) in
    (omega (arith, c.decreases), (subst R c.in-Case.is c.requires.row, c.requires.ready))

pub decide_row-decide_inside-requires : goal.decide_row-decide_inside-requires
decide_row-decide_inside-requires t c =
    let R : Row → Type 0 = λ r. IsForm c.args.pair c.args.part (form_of (place_of (part_term c.args.part)) r) in
    (omega (arith, c.decreases), (subst R c.in-Inside.is c.requires.row, c.requires.ready))

pub decide_row-decide_call-requires : goal.decide_row-decide_call-requires
decide_row-decide_call-requires t c =
    let R : Row → Type 0 = λ r. IsForm c.args.pair c.args.part (form_of (place_of (part_term c.args.part)) r) in
    (omega (arith, c.decreases), (subst R c.in-Call.is c.requires.row, c.requires.ready))

pub decide_both-decide_all-requires : goal.decide_both-decide_all-requires
decide_both-decide_all-requires t c =
    let s = c.args.pair in
    let d = c.args.depth in
    let q = c.args.part in
    let same = ap (map part_term) c.deref.ensures.value ∙ c.in_ok-parts.ensures in
    (omega (arith, c.decreases), both_ready s d q (terms_list c.args.terms.now) c.deref.result.now same c.requires.form c.requires.ready)

pub decide_both-returns : goal.decide_both-returns
decide_both-returns t c =
    let s = c.args.pair in
    let d = c.args.depth in
    let q = c.args.part in
    let same = ap (map part_term) c.deref.ensures.value ∙ c.in_ok-parts.ensures in
    both_decided s d q (terms_list c.args.terms.now) c.deref.result.now c.decide_all.result same c.requires.form c.decide_all.ensures

pub decide_unchanged-decide_all-requires : goal.decide_unchanged-decide_all-requires
decide_unchanged-decide_all-requires t c =
    let s = c.args.pair in
    let d = c.args.depth in
    let q = c.args.part in
    let ts = map (unchanged_of (place_of (part_term q))) (terms_list c.args.terms.now) in
    let same = ap (map part_term) c.deref.ensures.value ∙ c.in_ok-parts.ensures ∙ ap (λ (at : Place). map (unchanged_of at) (terms_list c.args.terms.now)) c.part_place.ensures in
    let ready = narrowed_ready s d q c.args.kept ts c.deref.result.now same c.requires.form c.requires.ready in
    (omega (arith, c.decreases), to_pair s c.narrowed.result (λ g x. AllReady g d x (parts_at x c.deref.result.now)) (within c.args.kept (at s)) c.narrowed.ensures.setting c.narrowed.ensures.context ready)

pub decide_unchanged-returns : goal.decide_unchanged-returns
decide_unchanged-returns t c =
    let s = c.args.pair in
    let d = c.args.depth in
    let q = c.args.part in
    let ts = map (unchanged_of (place_of (part_term q))) (terms_list c.args.terms.now) in
    let same = ap (map part_term) c.deref.ensures.value ∙ c.in_ok-parts.ensures ∙ ap (λ (at : Place). map (unchanged_of at) (terms_list c.args.terms.now)) c.part_place.ensures in
    let r = c.decide_all.result in
    let told = of_pair s c.narrowed.result (λ g x. AllDecided g d x.next (parts_at x c.deref.result.now) r) (within c.args.kept (at s)) c.narrowed.ensures.setting c.narrowed.ensures.context c.decide_all.ensures in
    narrowed_decided s d q c.args.kept ts c.deref.result.now r same c.requires.form told

pub decide_either-decide_any-requires : goal.decide_either-decide_any-requires
decide_either-decide_any-requires t c =
    let s = c.args.pair in
    let d = c.args.depth in
    let q = c.args.part in
    let same = ap (map part_term) c.deref.ensures.value ∙ c.in_ok-parts.ensures in
    (omega (arith, c.decreases), either_ready s d q (terms_list c.args.terms.now) c.deref.result.now same c.requires.form c.requires.ready)

pub decide_either-returns : goal.decide_either-returns
decide_either-returns t c =
    let s = c.args.pair in
    let d = c.args.depth in
    let q = c.args.part in
    let same = ap (map part_term) c.deref.ensures.value ∙ c.in_ok-parts.ensures in
    either_decided s d q (terms_list c.args.terms.now) c.deref.result.now c.decide_any.result same c.requires.form c.decide_any.ensures

pub decide_boxed-decide_any-requires : goal.decide_boxed-decide_any-requires
decide_boxed-decide_any-requires t c =
    let s = c.args.pair in
    let d = c.args.depth in
    let q = c.args.part in
    let ts = c.args.action.now ∷ unchanged_of (place_of (part_term q)) c.args.subscript.now ∷ [] in
    let qs = part.Plain c.args.action ∷ part.Unchanged c.part_place.result c.args.subscript ∷ [] in
    let same : map part_term qs ≡ ts = ap (λ (at : Place). c.args.action.now ∷ unchanged_of at c.args.subscript.now ∷ []) c.part_place.ensures in
    (omega (arith, c.decreases), either_ready s d q ts qs same c.requires.form c.requires.ready)

pub decide_boxed-returns : goal.decide_boxed-returns
decide_boxed-returns t c =
    let s = c.args.pair in
    let d = c.args.depth in
    let q = c.args.part in
    let ts = c.args.action.now ∷ unchanged_of (place_of (part_term q)) c.args.subscript.now ∷ [] in
    let qs = part.Plain c.args.action ∷ part.Unchanged c.part_place.result c.args.subscript ∷ [] in
    let same : map part_term qs ≡ ts = ap (λ (at : Place). c.args.action.now ∷ unchanged_of at c.args.subscript.now ∷ []) c.part_place.ensures in
    either_decided s d q ts qs c.decide_any.result same c.requires.form c.decide_any.ensures

pub decide_angled-decide_part-requires : goal.decide_angled-decide_part-requires
decide_angled-decide_part-requires t c =
    let s = c.args.pair in
    let d = c.args.depth in
    let q = c.args.part in
    let e = c.args.action.now in
    let v = c.args.subscript.now in
    (omega (arith, c.decreases), angled_ready s d q c.growth_law.ensures e v c.requires.form c.requires.ready)

pub decide_angled-changed_truth-requires : goal.decide_angled-changed_truth-requires
decide_angled-changed_truth-requires t c =
    let s = c.args.pair in
    let d = c.args.depth in
    let q = c.args.part in
    let e = c.args.action.now in
    let v = c.args.subscript.now in
    subst (λ (x : Place). Reads (setting s).table d (at s) (changed_of x v)) (sym c.part_place.ensures) (angled_read s d q c.growth_law.ensures e v c.requires.form c.requires.ready)

pub decide_angled-returns-in-Ok-true : goal.decide_angled-returns-in-Ok-true
decide_angled-returns-in-Ok-true t c =
    let s = c.args.pair in
    let d = c.args.depth in
    let q = c.args.part in
    let e = c.args.action.now in
    let v = c.args.subscript.now in
    let told = subst (λ (b : Bool). IsDecided (setting s) d (at s).next (at s) e (Ok b)) c.in-Ok-true.field-0-test c.in-Ok-true.ensures in
    let r = c.changed_truth.result in
    let placed = subst (λ (x : Place). Tells r (TruthOf (Evaluates (setting s).table d) (at s) (changed_of x v))) c.part_place.ensures c.changed_truth.ensures in
    angled_decided s d q c.growth_law.ensures e v r c.requires.form c.requires.ready told placed

pub decide_angled-returns-in-Ok-false : goal.decide_angled-returns-in-Ok-false
decide_angled-returns-in-Ok-false t c =
    let s = c.args.pair in
    let d = c.args.depth in
    let q = c.args.part in
    let e = c.args.action.now in
    let v = c.args.subscript.now in
    let told = subst (λ (b : Bool). IsDecided (setting s) d (at s).next (at s) e (Ok b)) c.in-Ok-false.field-0-test c.in-Ok-false.ensures in
    angled_not s d q c.growth_law.ensures e v c.requires.form told

pub decide_angled-returns-in-Err : goal.decide_angled-returns-in-Err
decide_angled-returns-in-Err t c =
    let s = c.args.pair in
    let d = c.args.depth in
    let q = c.args.part in
    let e = c.args.action.now in
    let v = c.args.subscript.now in
    angled_stop s d q c.growth_law.ensures e v c.in-Err.fault c.requires.form c.in-Err.ensures

pub decide_branch-eval_truth-requires : goal.decide_branch-eval_truth-requires
decide_branch-eval_truth-requires t c =
    let s = c.args.pair in
    let d = c.args.depth in
    let q = c.args.part in
    let e = c.args.test.now in
    let x = c.args.holds.now in
    let y = c.args.other.now in
    branch_reads s d q e x y c.requires.form c.requires.ready

pub decide_branch-decide_part-requires : goal.decide_branch-decide_part-requires
decide_branch-decide_part-requires t c =
    let s = c.args.pair in
    let d = c.args.depth in
    let q = c.args.part in
    let e = c.args.test.now in
    let x = c.args.holds.now in
    let y = c.args.other.now in
    let told = subst (λ (b : Bool). TruthOf (Evaluates (setting s).table d) (at s) e (Ok b)) c.in-Ok-true.field-0-test c.in-Ok-true.ensures in
    (omega (arith, c.decreases), branch_ready s d q e x y true c.requires.form told c.requires.ready)

pub decide_branch-returns-in-Ok-true : goal.decide_branch-returns-in-Ok-true
decide_branch-returns-in-Ok-true t c =
    let s = c.args.pair in
    let d = c.args.depth in
    let q = c.args.part in
    let e = c.args.test.now in
    let x = c.args.holds.now in
    let y = c.args.other.now in
    let told = subst (λ (b : Bool). TruthOf (Evaluates (setting s).table d) (at s) e (Ok b)) c.in-Ok-true.field-0-test c.in-Ok-true.ensures in
    branch_decided s d q e x y true c.decide_part.result c.requires.form told c.requires.ready c.decide_part.ensures

pub decide_branch-decide_part-requires-in-Ok-false : goal.decide_branch-decide_part-requires-in-Ok-false
decide_branch-decide_part-requires-in-Ok-false t c =
    let s = c.args.pair in
    let d = c.args.depth in
    let q = c.args.part in
    let e = c.args.test.now in
    let x = c.args.holds.now in
    let y = c.args.other.now in
    let told = subst (λ (b : Bool). TruthOf (Evaluates (setting s).table d) (at s) e (Ok b)) c.in-Ok-false.field-0-test c.in-Ok-false.ensures in
    (omega (arith, c.decreases), branch_ready s d q e x y false c.requires.form told c.requires.ready)

pub decide_branch-returns-in-Ok-false : goal.decide_branch-returns-in-Ok-false
decide_branch-returns-in-Ok-false t c =
    let s = c.args.pair in
    let d = c.args.depth in
    let q = c.args.part in
    let e = c.args.test.now in
    let x = c.args.holds.now in
    let y = c.args.other.now in
    let told = subst (λ (b : Bool). TruthOf (Evaluates (setting s).table d) (at s) e (Ok b)) c.in-Ok-false.field-0-test c.in-Ok-false.ensures in
    branch_decided s d q e x y false c.decide_part-in-Ok-false.result c.requires.form told c.requires.ready c.decide_part-in-Ok-false.ensures

pub decide_branch-returns-in-Err : goal.decide_branch-returns-in-Err
decide_branch-returns-in-Err t c =
    let s = c.args.pair in
    let d = c.args.depth in
    let q = c.args.part in
    let e = c.args.test.now in
    let x = c.args.holds.now in
    let y = c.args.other.now in
    branch_stops s d q e x y c.in-Err.fault c.requires.form c.requires.ready c.in-Err.ensures

pub decide_case-chosen_arm-requires : goal.decide_case-chosen_arm-requires
decide_case-chosen_arm-requires t c =
    let s = c.args.pair in
    let d = c.args.depth in
    let q = c.args.part in
    let cs = arms_list c.args.cases.now in
    let other = option_copied c.args.other in
    arms_read s d q cs other c.requires.form c.requires.ready

pub decide_case-decide_part-requires : goal.decide_case-decide_part-requires
decide_case-decide_part-requires t c =
    let s = c.args.pair in
    let d = c.args.depth in
    let q = c.args.part in
    let cs = arms_list c.args.cases.now in
    let other = option_copied c.args.other in
    let told = subst (λ (x : Place). Chosen (TruthOf (Evaluates (setting s).table d) (at s)) x cs other (Ok c.in-Ok.term.now)) c.part_place.ensures c.in-Ok.ensures.chosen in
    (omega (arith, c.decreases), arms_ready s d q cs other c.in-Ok.term.now c.requires.form told c.requires.ready)

pub decide_case-returns-in-Ok : goal.decide_case-returns-in-Ok
decide_case-returns-in-Ok t c =
    let s = c.args.pair in
    let d = c.args.depth in
    let q = c.args.part in
    let cs = arms_list c.args.cases.now in
    let other = option_copied c.args.other in
    let told = subst (λ (x : Place). Chosen (TruthOf (Evaluates (setting s).table d) (at s)) x cs other (Ok c.in-Ok.term.now)) c.part_place.ensures c.in-Ok.ensures.chosen in
    arms_decided s d q cs other c.in-Ok.term.now c.decide_part.result c.requires.form told c.requires.ready c.decide_part.ensures

pub decide_case-returns-in-Err : goal.decide_case-returns-in-Err
decide_case-returns-in-Err t c =
    let s = c.args.pair in
    let d = c.args.depth in
    let q = c.args.part in
    let cs = arms_list c.args.cases.now in
    let other = option_copied c.args.other in
    let told = subst (λ (x : Place). Stops (Chosen (TruthOf (Evaluates (setting s).table d) (at s)) x cs other) c.in-Err.fault) c.part_place.ensures c.in-Err.ensures.fault in
    arms_stop s d q cs other c.in-Err.fault c.requires.form c.requires.ready told

pub decide_inside-decide_part-requires : goal.decide_inside-decide_part-requires
decide_inside-decide_part-requires t c =
    let s = c.args.pair in
    let d = c.args.depth in
    let q = c.args.part in
    (omega (arith, c.decreases), inside_ready s d q c.args.inner.now c.requires.form c.requires.ready)

pub decide_inside-returns : goal.decide_inside-returns
decide_inside-returns t c =
    let s = c.args.pair in
    let d = c.args.depth in
    let q = c.args.part in
    inside_decided s d q c.args.inner.now c.decide_part.result c.requires.form c.decide_part.ensures

pub decide_call-eval_each-requires : goal.decide_call-eval_each-requires
decide_call-eval_each-requires t c =
    let s = c.args.pair in
    let d = c.args.depth in
    let q = c.args.part in
    let k = c.args.number.0 in
    let ts = terms_list c.args.arguments.now in
    call_reads s d q k ts c.requires.form c.requires.ready

pub decide_call-decide_body-requires : goal.decide_call-decide_body-requires
decide_call-decide_body-requires t c =
    let s = c.args.pair in
    let d = c.args.depth in
    let q = c.args.part in
    let k = c.args.number.0 in
    let ts = terms_list c.args.arguments.now in
    let told = subst (λ (us : List Val). Each (Evaluates (setting s).table d (at s)) ts (Ok us)) (sym c.deref.ensures.value) c.in-Ok.ensures.values in
    (omega (arith, c.decreases), call_ready s d q k ts c.deref.result.now c.requires.form told c.requires.ready)

pub decide_call-returns-in-Ok : goal.decide_call-returns-in-Ok
decide_call-returns-in-Ok t c =
    let s = c.args.pair in
    let d = c.args.depth in
    let q = c.args.part in
    let k = c.args.number.0 in
    let ts = terms_list c.args.arguments.now in
    let told = subst (λ (us : List Val). Each (Evaluates (setting s).table d (at s)) ts (Ok us)) (sym c.deref.ensures.value) c.in-Ok.ensures.values in
    call_decided s d q k ts c.deref.result.now c.decide_body.result c.requires.form told c.requires.ready c.decide_body.ensures

pub decide_call-returns-in-Err : goal.decide_call-returns-in-Err
decide_call-returns-in-Err t c =
    let s = c.args.pair in
    let d = c.args.depth in
    let q = c.args.part in
    let k = c.args.number.0 in
    let ts = terms_list c.args.arguments.now in
    call_stops s d q k ts c.in-Err.fault c.requires.form c.requires.ready c.in-Err.ensures.fault

pub decide_exists-eval_bounds-requires : goal.decide_exists-eval_bounds-requires
decide_exists-eval_bounds-requires t c =
    let s = c.args.pair in
    let d = c.args.depth in
    let q = c.args.part in
    let bs = c.args.bounds.now in
    let e = c.args.body.now in
    some_read s d q bs e c.requires.form c.requires.ready

pub decide_exists-decide_ranges-requires : goal.decide_exists-decide_ranges-requires
decide_exists-decide_ranges-requires t c =
    let s = c.args.pair in
    let d = c.args.depth in
    let q = c.args.part in
    let bs = c.args.bounds.now in
    let e = c.args.body.now in
    let told = subst (λ (rs : List BoundSet). BoundValues (Evaluates (setting s).table d) (at s) bs (Ok (combinations (ranges (map bound_members rs))))) (sym c.deref.ensures.value) c.in-Ok.ensures.values in
    let all = combinations (ranges (map bound_members c.deref.result.now)) in
    (omega (arith, c.decreases), some_ready s d q bs e all c.requires.form told c.requires.ready)

pub decide_exists-returns-in-Ok : goal.decide_exists-returns-in-Ok
decide_exists-returns-in-Ok t c =
    let s = c.args.pair in
    let d = c.args.depth in
    let q = c.args.part in
    let bs = c.args.bounds.now in
    let e = c.args.body.now in
    let told = subst (λ (rs : List BoundSet). BoundValues (Evaluates (setting s).table d) (at s) bs (Ok (combinations (ranges (map bound_members rs))))) (sym c.deref.ensures.value) c.in-Ok.ensures.values in
    let all = combinations (ranges (map bound_members c.deref.result.now)) in
    some_decided s d q bs e all c.decide_ranges.result c.requires.form told c.requires.ready c.decide_ranges.ensures

pub decide_exists-returns-in-Err : goal.decide_exists-returns-in-Err
decide_exists-returns-in-Err t c =
    let s = c.args.pair in
    let d = c.args.depth in
    let q = c.args.part in
    let bs = c.args.bounds.now in
    let e = c.args.body.now in
    some_stops s d q bs e c.in-Err.fault c.requires.form c.requires.ready c.in-Err.ensures.fault

pub decide_body-definition-operator-requires : goal.decide_body-definition-operator-requires
decide_body-definition-operator-requires t c =
    let s = c.args.pair in
    let g = setting c.args.pair in
    let x = at c.args.pair in
    let d = c.args.depth in
    (c.requires.1.0, c.requires.1.1)

pub decide_body-slots_and-requires : goal.decide_body-slots_and-requires
decide_body-slots_and-requires t c =
    let s = c.args.pair in
    let g = setting c.args.pair in
    let x = at c.args.pair in
    let d = c.args.depth in
    let k = c.args.number.0 in
    let us = c.args.values.now in
    let o = c.definition-operator.result.now in
    let h = body_here g d x k us o c.definition-operator.ensures c.requires in
    let many : c.definition-operator.result.now.outer ≤ length c.args.pair.scene.slots.now = omega (arith, h.0, length-map c.args.pair.scene.slots.now value) in
    many

pub decide_body-decide_part-requires : goal.decide_body-decide_part-requires
decide_body-decide_part-requires t c =
    let s = c.args.pair in
    let g = setting c.args.pair in
    let x = at c.args.pair in
    let d = c.args.depth in
    let k = c.args.number.0 in
    let us = c.args.values.now in
    let o = c.definition-operator.result.now in
    let slots = ap (map value) c.deref.ensures.value ∙ c.in_ok-slots.ensures in
    let inner : at c.pair_with-inner.result ≡ enter o us x = c.pair_with-inner.ensures.context ∙ ap (λ (vs : List Val). with_slots x vs) slots in
    let h = body_here g d x k us o c.definition-operator.ensures c.requires in
    (omega (arith, c.decreases), to_pair s c.pair_with-inner.result (λ y z. Ready y d z o.body) (enter o us x) c.pair_with-inner.ensures.setting inner h.1)

pub decide_body-returns : goal.decide_body-returns
decide_body-returns t c =
    let s = c.args.pair in
    let g = setting c.args.pair in
    let x = at c.args.pair in
    let d = c.args.depth in
    let k = c.args.number.0 in
    let us = c.args.values.now in
    let o = c.definition-operator.result.now in
    let slots = ap (map value) c.deref.ensures.value ∙ c.in_ok-slots.ensures in
    let inner : at c.pair_with-inner.result ≡ enter o us x = c.pair_with-inner.ensures.context ∙ ap (λ (vs : List Val). with_slots x vs) slots in
    let r = c.decide_part.result in
    let told = of_pair s c.pair_with-inner.result (λ y z. IsDecided y d z.next z o.body r) (enter o us x) c.pair_with-inner.ensures.setting inner c.decide_part.ensures in
    body_decided g d x k us o r c.definition-operator.ensures told

pub decide_all-loop-part-init : goal.decide_all-loop-part-init
decide_all-loop-part-init t c =
    let s = c.args.pair in
    let g = setting c.args.pair in
    let x = at c.args.pair in
    let d = c.args.depth in
    all_start g d x.next (parts_at x c.args.parts.now) c.requires.1.0 c.requires.1.1

pub decide_all-decide_part-requires : goal.decide_all-decide_part-requires
decide_all-decide_part-requires t c =
    let s = c.args.pair in
    let g = setting c.args.pair in
    let x = at c.args.pair in
    let d = c.args.depth in
    let p = (at c.args.pair).next in
    let es = parts_at x c.args.parts.now in
    let i = c.loop-part.part-index in
    let e : Context × Term = (x, part_term c.part-item.result) in
    let below : c.loop-part.part-index < length c.args.parts.now = omega arith in
    let cut : Cut es i e = cut_mapped (λ (q : Part). (x, part_term q)) c.args.parts.now i c.part-item.result (cut_at c.args.parts.now i c.part-item.result below c.part-item.is) in
    (omega (arith, c.decreases), (c.requires.0, all_ground g d p es i e cut c.loop-part.invariant))

pub decide_all-loop-part-preserved : goal.decide_all-loop-part-preserved
decide_all-loop-part-preserved t c =
    let s = c.args.pair in
    let g = setting c.args.pair in
    let x = at c.args.pair in
    let d = c.args.depth in
    let p = (at c.args.pair).next in
    let es = parts_at x c.args.parts.now in
    let i = c.loop-part.part-index in
    let e : Context × Term = (x, part_term c.part-item.result) in
    let below : c.loop-part.part-index < length c.args.parts.now = omega arith in
    let cut : Cut es i e = cut_mapped (λ (q : Part). (x, part_term q)) c.args.parts.now i c.part-item.result (cut_at c.args.parts.now i c.part-item.result below c.part-item.is) in
    let told = subst (λ (b : Bool). IsDecided g d p x (part_term c.part-item.result) (Ok b)) c.in-Ok-true.field-0-test c.in-Ok-true.ensures in
    all_step c.growth_law.ensures g d p es i e cut told c.loop-part.invariant

pub decide_all-returns-in-Ok-false : goal.decide_all-returns-in-Ok-false
decide_all-returns-in-Ok-false t c =
    let s = c.args.pair in
    let g = setting c.args.pair in
    let x = at c.args.pair in
    let d = c.args.depth in
    let p = (at c.args.pair).next in
    let es = parts_at x c.args.parts.now in
    let i = c.loop-part.part-index in
    let e : Context × Term = (x, part_term c.part-item.result) in
    let below : c.loop-part.part-index < length c.args.parts.now = omega arith in
    let cut : Cut es i e = cut_mapped (λ (q : Part). (x, part_term q)) c.args.parts.now i c.part-item.result (cut_at c.args.parts.now i c.part-item.result below c.part-item.is) in
    let told = subst (λ (b : Bool). IsDecided g d p x (part_term c.part-item.result) (Ok b)) c.in-Ok-false.field-0-test c.in-Ok-false.ensures in
    all_fails g d p es i e cut told c.loop-part.invariant

pub decide_all-returns-in-Err : goal.decide_all-returns-in-Err
decide_all-returns-in-Err t c =
    let s = c.args.pair in
    let g = setting c.args.pair in
    let x = at c.args.pair in
    let d = c.args.depth in
    let p = (at c.args.pair).next in
    let es = parts_at x c.args.parts.now in
    let i = c.loop-part.part-index in
    let e : Context × Term = (x, part_term c.part-item.result) in
    let below : c.loop-part.part-index < length c.args.parts.now = omega arith in
    let cut : Cut es i e = cut_mapped (λ (q : Part). (x, part_term q)) c.args.parts.now i c.part-item.result (cut_at c.args.parts.now i c.part-item.result below c.part-item.is) in
    all_stops g d p es i e c.in-Err.fault cut c.in-Err.ensures c.loop-part.invariant

pub decide_all-returns : goal.decide_all-returns
decide_all-returns t c =
    let s = c.args.pair in
    let g = setting c.args.pair in
    let x = at c.args.pair in
    let d = c.args.depth in
    let p = (at c.args.pair).next in
    let es = parts_at x c.args.parts.now in
    let i = c.loop-part.part-index in
    let passed : length c.args.parts.now ≤ c.loop-part.part-index = omega arith in
    let over : length es ≤ c.loop-part.part-index = omega (arith, passed, length-map {B = Context × Term} c.args.parts.now (λ (q : Part). (x, part_term q))) in
    all_ends g d p es i over c.loop-part.invariant

pub decide_any-loop-part-init : goal.decide_any-loop-part-init
decide_any-loop-part-init t c =
    let s = c.args.pair in
    let g = setting c.args.pair in
    let x = at c.args.pair in
    let d = c.args.depth in
    any_start g d x.next (parts_at x c.args.parts.now) false refl

pub decide_any-decide_part-requires : goal.decide_any-decide_part-requires
decide_any-decide_part-requires t c =
    let s = c.args.pair in
    let g = setting c.args.pair in
    let x = at c.args.pair in
    let d = c.args.depth in
    let p = (at c.args.pair).next in
    let es = parts_at x c.args.parts.now in
    let i = c.loop-part.part-index in
    let e : Context × Term = (x, part_term c.part-item.result) in
    let below : c.loop-part.part-index < length c.args.parts.now = omega arith in
    let cut : Cut es i e = cut_mapped (λ (q : Part). (x, part_term q)) c.args.parts.now i c.part-item.result (cut_at c.args.parts.now i c.part-item.result below c.part-item.is) in
    (omega (arith, c.decreases), (c.requires.0, any_ground g d p es i e cut c.requires.1))

pub decide_any-loop-part-preserved : goal.decide_any-loop-part-preserved
decide_any-loop-part-preserved t c =
    let g = setting c.args.pair in
    let x = at c.args.pair in
    let d = c.args.depth in
    let p = (at c.args.pair).next in
    let es = parts_at x c.args.parts.now in
    let i = c.loop-part.part-index in
    let e : Context × Term = (x, part_term c.part-item.result) in
    let below : c.loop-part.part-index < length c.args.parts.now = omega arith in
    let cut : Cut es i e = cut_mapped (λ (q : Part). (x, part_term q)) c.args.parts.now i c.part-item.result (cut_at c.args.parts.now i c.part-item.result below c.part-item.is) in
    let more = any_more g d p es i e c.loop-part.holds c.in-Ok.more cut c.loop-part.invariant c.in-Ok.ensures in
    subst (λ (b : Bool). AnyDecided g d p (take (i + 1) es) (Ok b)) (sym c.one_holds-holds.ensures) more

pub decide_any-returns-in-Err : goal.decide_any-returns-in-Err
decide_any-returns-in-Err t c =
    let s = c.args.pair in
    let g = setting c.args.pair in
    let x = at c.args.pair in
    let d = c.args.depth in
    let p = (at c.args.pair).next in
    let es = parts_at x c.args.parts.now in
    let i = c.loop-part.part-index in
    let e : Context × Term = (x, part_term c.part-item.result) in
    let below : c.loop-part.part-index < length c.args.parts.now = omega arith in
    let cut : Cut es i e = cut_mapped (λ (q : Part). (x, part_term q)) c.args.parts.now i c.part-item.result (cut_at c.args.parts.now i c.part-item.result below c.part-item.is) in
    any_stops g d p es i e c.in-Err.fault cut c.in-Err.ensures

pub decide_any-returns : goal.decide_any-returns
decide_any-returns t c =
    let s = c.args.pair in
    let g = setting c.args.pair in
    let x = at c.args.pair in
    let d = c.args.depth in
    let p = (at c.args.pair).next in
    let es = parts_at x c.args.parts.now in
    let i = c.loop-part.part-index in
    let passed : length c.args.parts.now ≤ c.loop-part.part-index = omega arith in
    let over : length es ≤ c.loop-part.part-index = omega (arith, passed, length-map {B = Context × Term} c.args.parts.now (λ (q : Part). (x, part_term q))) in
    any_ends g d p es i c.loop-part.holds over c.loop-part.invariant

pub decide_ranges-decide_lists-requires : goal.decide_ranges-decide_lists-requires
decide_ranges-decide_lists-requires t c =
    let s = c.args.pair in
    let g = setting c.args.pair in
    let x = at c.args.pair in
    let d = c.args.depth in
    let e = c.args.body.now in
    let same = ap (map members) c.deref.ensures.value ∙ c.in_ok-lists.ensures.members in
    let many : length c.deref.result.now < 18446744073709551616 = c.deref.type_inv.0 in
    (omega (arith, c.decreases, many), subst (λ (ls : List (List Val)). AnyReady g d x (under x e (combinations ls))) (sym same) c.requires)

pub decide_ranges-returns : goal.decide_ranges-returns
decide_ranges-returns t c =
    let s = c.args.pair in
    let g = setting c.args.pair in
    let x = at c.args.pair in
    let d = c.args.depth in
    let e = c.args.body.now in
    let same = ap (map members) c.deref.ensures.value ∙ c.in_ok-lists.ensures.members in
    subst (λ (ls : List (List Val)). AnyDecided g d x.next (under x e (combinations ls)) c.decide_lists.result) same c.decide_lists.ensures

pub decide_lists-decide_part-requires : goal.decide_lists-decide_part-requires
decide_lists-decide_part-requires t c =
    let s = c.args.pair in
    let g = setting c.args.pair in
    let x = at c.args.pair in
    let d = c.args.depth in
    let e = c.args.body.now in
    let ls = map members c.args.lists.now in
    let none : length (map members c.args.lists.now) ≡ 0 = omega (arith, c.if-count-eq0.true, length-map c.args.lists.now members) in
    (omega (arith, c.decreases), (c.requires.0, no_lists_ground g d x.next x e ls none c.requires.1))

pub decide_lists-returns-then-count-eq0 : goal.decide_lists-returns-then-count-eq0
decide_lists-returns-then-count-eq0 t c =
    let s = c.args.pair in
    let g = setting c.args.pair in
    let x = at c.args.pair in
    let d = c.args.depth in
    let e = c.args.body.now in
    let ls = map members c.args.lists.now in
    let none : length (map members c.args.lists.now) ≡ 0 = omega (arith, c.if-count-eq0.true, length-map c.args.lists.now members) in
    no_lists_decided g d x.next x e ls c.decide_part.result none c.decide_part.ensures

pub decide_lists-decide_members-requires : goal.decide_lists-decide_members-requires
decide_lists-decide_members-requires t c =
    let s = c.args.pair in
    let g = setting c.args.pair in
    let x = at c.args.pair in
    let d = c.args.depth in
    let e = c.args.body.now in
    let ls = map members c.args.lists.now in
    let some : 0 < length c.args.lists.now = omega (arith, c.if-count-eq0.false) in
    let whole = first_and_rest members c.args.lists.now c.index-lists-0.result some c.index-lists-0.is in
    let shorter : suc (length (take (length c.args.lists.now - 1) (drop 1 c.args.lists.now))) ≡ length c.args.lists.now = rest_length c.args.lists.now some in
    (omega (arith, c.decreases, shorter), (c.requires.0, subst (λ (us : List (List Val)). EachGrounded g d x.next (under x e (combinations us))) whole c.requires.1))

pub decide_lists-returns : goal.decide_lists-returns
decide_lists-returns t c =
    let s = c.args.pair in
    let g = setting c.args.pair in
    let x = at c.args.pair in
    let d = c.args.depth in
    let e = c.args.body.now in
    let ls = map members c.args.lists.now in
    let some : 0 < length c.args.lists.now = omega (arith, c.if-count-eq0.false) in
    let whole = first_and_rest members c.args.lists.now c.index-lists-0.result some c.index-lists-0.is in
    subst (λ (us : List (List Val)). AnyDecided g d x.next (under x e (combinations us)) c.decide_members.result) (sym whole) c.decide_members.ensures

pub decide_members-loop-member-init : goal.decide_members-loop-member-init
decide_members-loop-member-init t c =
    let s = c.args.pair in
    let g = setting c.args.pair in
    let x = at c.args.pair in
    let d = c.args.depth in
    let e = c.args.body.now in
    let all = combinations (map members c.args.others.now) in
    let vs = c.args.members.now in
    members_start x e all g d x.next vs false refl

pub decide_members-decide_member-requires : goal.decide_members-decide_member-requires
decide_members-decide_member-requires t c =
    let s = c.args.pair in
    let g = setting c.args.pair in
    let x = at c.args.pair in
    let d = c.args.depth in
    let e = c.args.body.now in
    let all = combinations (map members c.args.others.now) in
    let vs = c.args.members.now in
    let i = c.loop-member.member-index in
    let v = c.member-item.result in
    let below : c.loop-member.member-index < length c.args.members.now = omega arith in
    let cut : Cut vs i c.member-item.result = cut_at vs i c.member-item.result below c.member-item.is in
    (omega (arith, c.decreases), (c.requires.0, first_ground x e all g d x.next vs i v cut c.requires.1))

pub decide_members-loop-member-preserved : goal.decide_members-loop-member-preserved
decide_members-loop-member-preserved t c =
    let g = setting c.args.pair in
    let x = at c.args.pair in
    let d = c.args.depth in
    let e = c.args.body.now in
    let all = combinations (map members c.args.others.now) in
    let vs = c.args.members.now in
    let i = c.loop-member.member-index in
    let v = c.member-item.result in
    let below : c.loop-member.member-index < length c.args.members.now = omega arith in
    let cut : Cut vs i c.member-item.result = cut_at vs i c.member-item.result below c.member-item.is in
    let more = members_more x e all g d x.next vs i v c.loop-member.holds c.in-Ok.more cut c.loop-member.invariant c.in-Ok.ensures in
    subst (λ (b : Bool). AnyDecided g d x.next (chosen_of x e all (take (i + 1) vs)) (Ok b)) (sym c.one_holds-holds.ensures) more

pub decide_members-returns-in-Err : goal.decide_members-returns-in-Err
decide_members-returns-in-Err t c =
    let s = c.args.pair in
    let g = setting c.args.pair in
    let x = at c.args.pair in
    let d = c.args.depth in
    let e = c.args.body.now in
    let all = combinations (map members c.args.others.now) in
    let vs = c.args.members.now in
    let i = c.loop-member.member-index in
    let v = c.member-item.result in
    let below : c.loop-member.member-index < length c.args.members.now = omega arith in
    let cut : Cut vs i c.member-item.result = cut_at vs i c.member-item.result below c.member-item.is in
    members_stop x e all g d x.next vs i v c.in-Err.fault cut c.in-Err.ensures

pub decide_members-returns : goal.decide_members-returns
decide_members-returns t c =
    let s = c.args.pair in
    let g = setting c.args.pair in
    let x = at c.args.pair in
    let d = c.args.depth in
    let e = c.args.body.now in
    let all = combinations (map members c.args.others.now) in
    let vs = c.args.members.now in
    let i = c.loop-member.member-index in
    let passed : length c.args.members.now ≤ c.loop-member.member-index = omega arith in
    members_end x e all g d x.next vs i c.loop-member.holds passed c.loop-member.invariant

pub decide_member-decide_lists-requires : goal.decide_member-decide_lists-requires
decide_member-decide_lists-requires t c =
    let s = c.args.pair in
    let g = setting c.args.pair in
    let x = at c.args.pair in
    let d = c.args.depth in
    let e = c.args.body.now in
    let all = combinations (map members c.args.others.now) in
    let v = c.args.member.now in
    let slots = ap (map value) c.deref.ensures.value ∙ c.in_ok-slots.ensures in
    let inner : at c.pair_with-inner.result ≡ bind x (v ∷ []) = c.pair_with-inner.ensures.context ∙ ap (λ (us : List Val). with_slots x us) slots in
    let ready : AnyReady g d (bind x (v ∷ [])) (under (bind x (v ∷ [])) e all) = (c.requires.0, subst (λ (us : Parts). EachGrounded g d x.next us) (sym (under_one x e v all)) c.requires.1) in
    (omega (arith, c.decreases), to_pair s c.pair_with-inner.result (λ y z. AnyReady y d z (under z e all)) (bind x (v ∷ [])) c.pair_with-inner.ensures.setting inner ready)

pub decide_member-returns : goal.decide_member-returns
decide_member-returns t c =
    let s = c.args.pair in
    let g = setting c.args.pair in
    let x = at c.args.pair in
    let d = c.args.depth in
    let e = c.args.body.now in
    let all = combinations (map members c.args.others.now) in
    let v = c.args.member.now in
    let slots = ap (map value) c.deref.ensures.value ∙ c.in_ok-slots.ensures in
    let inner : at c.pair_with-inner.result ≡ bind x (v ∷ []) = c.pair_with-inner.ensures.context ∙ ap (λ (us : List Val). with_slots x us) slots in
    let r = c.decide_lists.result in
    let told = of_pair s c.pair_with-inner.result (λ y z. AnyDecided y d z.next (under z e all) r) (bind x (v ∷ [])) c.pair_with-inner.ensures.setting inner c.decide_lists.ensures in
    subst (λ (us : Parts). AnyDecided g d x.next us r) (under_one x e v all) told
