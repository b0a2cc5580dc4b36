-- Actions that are a test, or that say a variable's value: what walking them finds.
use Rattle.std.proofs.Common.{◌≡◌, ◌⊎◌, ◌↔◌, inl, inr, refl, sym, ◌∙◌, ap, subst, ℕ, zero, suc, List, [], ◌∷◌, length, map}
use Rattle.std.specs.Prelude.{All, Bool, true, false, Option, None, Some, Result, Ok, Err, Contains, slice_get}
use Rattle.std.specs.List.{AllByRecursion}
use Rattle.base_core.specs.declared.place.Place.{Place}
use Rattle.values_core.specs.Data.{Val}
use Rattle.values_core.specs.IsValue.{IsValue}
use Rattle.values_core.specs.Sets.{items_of}
use Rattle.values_core.specs.declared.fault.EvalKind.TheVariants.{Nested}
use Rattle.states_core.specs.States.{Values}
use Rattle.states_core.specs.declared.fault.Fault.{Fault}
use Rattle.names_terms.specs.Terms.{Term, place_of}
use Rattle.values_sets.specs.DescribedSets.{Described, Listed}
use Rattle.values_sets.specs.Membership.{Belongs}
use Rattle.values_sets.specs.Listings.{IsListed, Lists}
use Rattle.values_sets.proofs.Collecting.{lists_its_members}
use Rattle.values_sets.proofs.Outcomes.{lists_one_way}
use Rattle.eval_meanings.specs.declared.fault.EvalFault.TheVariants.{Refused}
use Rattle.eval_meanings.specs.Contexts.{Context, Places}
use Rattle.eval_meanings.specs.Evaluates.{Evaluates, Describes}
use Rattle.eval_meanings.specs.Laws.{ReadsValues}
use Rattle.eval_meanings.specs.Outcomes.{fault}
use Rattle.eval_meanings.specs.Sets.{MeansSet, list_at, set_at}
use Rattle.eval_meanings.specs.Unchanged.{TruthOf}
use Rattle.eval_meanings.proofs.AtMostOne.{One, one_gives, one_then}
use Rattle.eval_laws.proofs.Keeping.{keeps_first}
use Rattle.eval_laws.proofs.OneAnswer.{HasOneAnswer}
use Rattle.eval_laws.proofs.Fine.{one_operated}
use Rattle.actions_meanings.specs.declared.which.Which.{Which}
use Rattle.actions_meanings.specs.declared.which.Which.TheVariants as which
use Rattle.actions_meanings.specs.Forms.{Setting, Form, form, test, assign, choose}
use Rattle.actions_meanings.specs.Reads.{VariableSet, with_variable}
use Rattle.actions_meanings.specs.Outcomes.{Fixes, form_outcome, outcome_within}
use Rattle.actions_meanings.specs.Holds.{FormHolds, Holds}
use Rattle.actions_meanings.specs.Fails.{Fails, FormFails}
use Rattle.logs_updates.specs.declared.update.See.{See}
use Rattle.actions_meanings.specs.Filled.{Completes, Fills, at_next}
use Rattle.steps_found_states.specs.Walks.{Agrees, FailsOf, Finds, HoldsOf, Meets, Walked}
use Rattle.steps_found_states.specs.Filling.{Gets, HasSuch}
use Rattle.steps_found_states.specs.Grounds.{Grounds}
use Rattle.steps_found_states.proofs.Lists.{place_by_all}
use Rattle.steps_found_states.proofs.Finding.{finds_here, finds_none, found_same, meets_here}
use Rattle.steps_found_states.proofs.Placed.{at_more, holds_values, reads_values, set_keeps, set_one, term_fine, term_keeps, truth_fine, truth_keeps}
use Rattle.steps_found_states.proofs.Filling.{get_of_map, get_in_map}
use Rattle.steps_found_states.proofs.Openings.{FormKnows}
use Rattle.steps_found_states.proofs.FormParts.{form_knows}
use Rattle.steps_found_states.proofs.FormFixes.{assign_fixes, choose_fixes, fixes_form, test_fixes}
use Rattle.steps_found_states.proofs.Opened.{failed_form, form_failed, form_held, held_form}

value_no_fault : {A : Type 0} (v : A) (f : Fault) → ◌≡◌ {A = Result A Fault} (Ok v) (Err f) → ⊥
value_no_fault v f e = cc

same_value : {A : Type 0} (v w : A) → ◌≡◌ {A = Result A Fault} (Ok v) (Ok w) → v ≡ w
same_value v w e = cc

same_fault : {A : Type 0} (f h : Fault) → ◌≡◌ {A = Result A Fault} (Err f) (Err h) → f ≡ h
same_fault f h e = cc

not_both : ◌≡◌ {A = Result Bool Fault} (Ok true) (Ok false) → ⊥
not_both e = cc

pub at_next_is : (w : Which) (c : Context) (q : Places) → (at_next w c q).next ≡ q
at_next_is which.Init c q = refl
at_next_is which.Action c q = refl

-- A term whose form is a test, within any number of evaluations.

module _ (g : Setting) (c : Context) (a : Term) (i : form g (length c.slots) a ≡ test) where
  holds_test : (d : ℕ) (q : Places) → Holds g d (at_next g.which c q) a → TruthOf (Evaluates g.table d) (at_next g.which c q) a (Ok true)
  holds_test zero q h = absurd h
  holds_test (suc d) q h = subst (λ (f : Form). FormHolds g d (Holds g d) (at_next g.which c q) a f) i (held_form g d c q a h)

  test_holds : (d : ℕ) (q : Places) → TruthOf (Evaluates g.table d) (at_next g.which c q) a (Ok true) → Holds g d (at_next g.which c q) a
  test_holds zero q (inl (v, h, k)) = absurd (value_no_fault v (fault Nested (place_of a)) h)
  test_holds zero q (inr (f, h, k)) = absurd (value_no_fault true f k)
  test_holds (suc d) q h = form_held g d c q a (subst (λ (f : Form). FormHolds g d (Holds g d) (at_next g.which c q) a f) (sym i) h)

  fails_test : (d : ℕ) (B : VariableSet) (q : Places) (f : Fault) → Fails g d B (at_next g.which c q) a f → TruthOf (Evaluates g.table d) (at_next g.which c q) a (Err f)
  fails_test zero B q f h = inr (f, ap (λ (x : Fault). Err x) h, refl)
  fails_test (suc d) B q f h = subst (λ (x : Form). FormFails g d (Holds g d) (Fails g d) B (at_next g.which c q) a x f) i (failed_form g d B c q a f h)

  test_fails : (d : ℕ) (B : VariableSet) (q : Places) (f : Fault) → TruthOf (Evaluates g.table d) (at_next g.which c q) a (Err f) → Fails g d B (at_next g.which c q) a f
  test_fails zero B q f (inl (v, h, k)) = absurd (value_no_fault v (fault Nested (place_of a)) h)
  test_fails zero B q f (inr (e, h, k)) = same_fault {A = Bool} f e k ∙ same_fault {A = Val} e (fault Nested (place_of a)) h
  test_fails (suc d) B q f h = form_failed g d B c q a f (subst (λ (x : Form). FormFails g d (Holds g d) (Fails g d) B (at_next g.which c q) a x f) (sym i) h)

  module _ (d : ℕ) (sees : List See) (B : VariableSet) (q : Places) (reads : (t : Values) → Completes q t → ReadsValues g.table (at_next g.which c (map Some t)) a) where
    at_each : (r : Result Bool Fault) → TruthOf (Evaluates g.table d) (at_next g.which c q) a r → (t : Values) → Completes q t → TruthOf (Evaluates g.table d) (at_next g.which c (map Some t)) a r
    at_each r h t k = truth_keeps g.table d (at_next g.which c q) (at_next g.which c (map Some t)) (at_more g.which c q (map Some t) k.has) a r h

    only_one : (r s : Result Bool Fault) → TruthOf (Evaluates g.table d) (at_next g.which c q) a r → (t : Values) → Completes q t → TruthOf (Evaluates g.table d) (at_next g.which c (map Some t)) a s → r ≡ s
    only_one r s h t k m = (truth_fine g.table d (at_next g.which c (map Some t)) a (reads t k)).one r s (at_each r h t k) m

    -- the places themselves where it is true, and nothing where it is false
    pub finds_true : (fixes : VariableSet → Type 0) → Agrees sees q → ((C : VariableSet) → fixes C → Fills C q) → TruthOf (Evaluates g.table d) (at_next g.which c q) a (Ok true)
        → Finds sees q fixes (HoldsOf g d c a) (FailsOf g d B c a) (q ∷ [])
    finds_true fixes agrees fills h = finds_here sees q fixes (HoldsOf g d c a) (FailsOf g d B c a) agrees fills
        (λ t k. test_holds d (map Some t) (at_each (Ok true) h t k))
        (λ t f k s m. value_no_fault true f (only_one (Ok true) (Err f) h t k (fails_test d B (map Some t) f m)))

    pub finds_false : (fixes : VariableSet → Type 0) → TruthOf (Evaluates g.table d) (at_next g.which c q) a (Ok false) → Finds sees q fixes (HoldsOf g d c a) (FailsOf g d B c a) []
    finds_false fixes h = finds_none sees q fixes (HoldsOf g d c a) (FailsOf g d B c a)
        (λ t k s m. not_both (sym (only_one (Ok false) (Ok true) h t k (holds_test d (map Some t) m))))
        (λ t f k s m. value_no_fault false f (only_one (Ok false) (Err f) h t k (fails_test d B (map Some t) f m)))

    pub meets_test : Agrees sees q → (f : Fault) → TruthOf (Evaluates g.table d) (at_next g.which c q) a (Err f) → Meets sees q (FailsOf g d B c a) f
    meets_test agrees f h = meets_here sees q (FailsOf g d B c a) f agrees (λ t k. test_fails d B (map Some t) f (at_each (Err f) h t k))

-- Sets.

one_listed : (v : Val) → HasOneAnswer (IsListed v)
one_listed v (Ok d) (Ok e) h g = inr (inr (ap Ok (h.1 ∙ sym g.1)))
one_listed v (Ok d) (Err f) h g = absurd (g.0 h.0)
one_listed v (Err e) (Ok d) h g = absurd (h.0 g.0)
one_listed v (Err e) (Err f) h g = inr (inr (ap Err (h.1 ∙ sym g.1)))

one_set_at : (at : Place) (S : Described) → One (set_at at S)
one_set_at at (Listed v) = one_operated (IsListed v) (λ n. at) (one_listed v)
one_set_at at S = one_gives S

one_list_at : (at : Place) (S : Described) → One (list_at at S)
one_list_at at (Listed v) = one_gives v
one_list_at at S = one_operated (Lists S) (λ n. at) (lists_one_way S)

-- the members of the list are the values that belong to the set
pub listed_belong : (at : Place) (S : Described) (u : Val) → list_at at S (Ok u) → (v : Val) → IsValue v → Belongs S v ↔ Contains (items_of u) v
listed_belong at (Listed w) u h v p = (λ m. subst (λ (x : Val). Contains (items_of x) v) (sym (same_value u w h)) m, λ m. subst (λ (x : Val). Contains (items_of x) v) (same_value u w h) m)
listed_belong at S u h v p = let s = (lists_its_members S u h).same v in (λ m. s.1 (p, m), λ m. (s.0 m).1)

-- What walking finds.

module _ (g : Setting) (d : ℕ) (sees : List See) (B : VariableSet) (p : Places) (c : Context) (a : Term) (gr : Grounds g (suc d) sees B p c a) where
  there : Values → Context
  there t = at_next g.which c (map Some t)

  form_known : (f : Form) → form g (length c.slots) a ≡ f → (t : Values) → Completes p t → FormKnows f
  form_known f i t k = let w = gr.reads t k in subst FormKnows i (form_knows g w.definitions (length c.slots) a w.known)

  outcome : (f : Form) → form g (length c.slots) a ≡ f → (C : VariableSet) → Fixes g a B C → (k : ℕ) × (form_outcome g k (outcome_within g k) a B f ≡ Ok C)
  outcome f i C x = let r = fixes_form g (length c.slots) a B C x in (r.0, subst (λ (y : Form). form_outcome g r.0 (outcome_within g r.0) a B y ≡ Ok C) i r.2)

  test_fills : form g (length c.slots) a ≡ test → (C : VariableSet) → Fixes g a B C → Fills C p
  test_fills i C x =
      let r = outcome test i C x in
      subst (λ (X : VariableSet). Fills X p) (sym (test_fixes g r.0 (outcome_within g r.0) a B C r.1)) gr.fills

  -- a test

  pub walked_true : form g (length c.slots) a ≡ test → TruthOf (Evaluates g.table (suc d)) (at_next g.which c p) a (Ok true) → Walked g (suc d) sees B p c a (Ok (p ∷ []))
  walked_true i h = finds_true g c a i (suc d) sees B p gr.reads (Fixes g a B) gr.agrees (test_fills i) h

  pub walked_false : form g (length c.slots) a ≡ test → TruthOf (Evaluates g.table (suc d)) (at_next g.which c p) a (Ok false) → Walked g (suc d) sees B p c a (Ok [])
  walked_false i h = finds_false g c a i (suc d) sees B p gr.reads (Fixes g a B) h

  pub walked_no_truth : form g (length c.slots) a ≡ test → (f : Fault) → TruthOf (Evaluates g.table (suc d)) (at_next g.which c p) a (Err f) → Walked g (suc d) sees B p c a (Err (Refused f.kind f.at))
  walked_no_truth i f h = meets_test g c a i (suc d) sees B p gr.reads gr.agrees f h

  -- x' = e

  module _ (x : ℕ) (e : Term) (i : form g (length c.slots) a ≡ assign x e) where
    assign_held : (t : Values) → HoldsOf g (suc d) c a t → (v : Val) × Evaluates g.table d (there t) e (Ok v) × (slice_get t x ≡ Some v)
    unfolding there
    assign_held t h =
        let r = subst (λ (f : Form). FormHolds g d (Holds g d) (there t) a f) i (held_form g d c (map Some t) a h) in
        (r.0, r.1, get_of_map t x r.0 (subst (λ (q : Places). slice_get q x ≡ Some (Some r.0)) (at_next_is g.which c (map Some t)) r.2))

    held_assign : (t : Values) (v : Val) → Evaluates g.table d (there t) e (Ok v) → slice_get t x ≡ Some v → HoldsOf g (suc d) c a t
    unfolding there
    held_assign t v h k = form_held g d c (map Some t) a (subst (λ (f : Form). FormHolds g d (Holds g d) (there t) a f) (sym i)
        (v, h, subst (λ (q : Places). slice_get q x ≡ Some (Some v)) (sym (at_next_is g.which c (map Some t))) (get_in_map t x v k)))

    term_at : (r : Result Val Fault) → Evaluates g.table d (at_next g.which c p) e r → (t : Values) → Completes p t → Evaluates g.table d (there t) e r
    unfolding there
    term_at r h t k = term_keeps g.table d (at_next g.which c p) (there t) (at_more g.which c p (map Some t) k.has) e r h

    one_term : (r s : Result Val Fault) → Evaluates g.table d (at_next g.which c p) e r → (t : Values) → Completes p t → Evaluates g.table d (there t) e s → r ≡ s
    unfolding there
    one_term r s h t k m =
        let w = gr.reads t k in
        (term_fine g.table d (there t) e (reads_values g.table (there t) e w.definitions (holds_values g.table (there t) a w) (form_known (assign x e) i t k))).one r s (term_at r h t k) m

    pub walked_assign : (v : Val) → Evaluates g.table d (at_next g.which c p) e (Ok v) → (qs : List Places) → Gets sees B p x (λ w. w ≡ v) qs → Walked g (suc d) sees B p c a (Ok qs)
    unfolding there
    walked_assign v h qs w = found_same sees p (λ C. C ≡ with_variable B x) (Fixes g a B) (HasSuch x (λ w. w ≡ v)) (HoldsOf g (suc d) c a) (λ t f. ⊥) (FailsOf g (suc d) B c a)
        (λ C y. (C, let r = outcome (assign x e) i C y in assign_fixes g r.0 (outcome_within g r.0) a B C x e r.1, λ q l f. f))
        (λ t k m. held_assign t v (term_at (Ok v) h t k) (m.1 ∙ ap Some m.2))
        (λ t k m. let r = assign_held t m in (r.0, r.2, sym (same_value v r.0 (one_term (Ok v) (Ok r.0) h t k r.1))))
        (λ t f k m. absurd m)
        (λ t f k m. value_no_fault v f (one_term (Ok v) (Err f) h t k (subst (λ (y : Form). FormFails g d (Holds g d) (Fails g d) B (there t) a y f) i (failed_form g d B c (map Some t) a f m))))
        (Ok qs) w

    pub walked_no_value : (f : Fault) → Evaluates g.table d (at_next g.which c p) e (Err f) → Walked g (suc d) sees B p c a (Err (Refused f.kind f.at))
    unfolding there
    walked_no_value f h = meets_here sees p (FailsOf g (suc d) B c a) (fault f.kind f.at) gr.agrees (λ t k.
        form_failed g d B c (map Some t) a f (subst (λ (y : Form). FormFails g d (Holds g d) (Fails g d) B (there t) a y f) (sym i) (term_at (Err f) h t k)))

  -- x' \in S

  module _ (x : ℕ) (e : Term) (i : form g (length c.slots) a ≡ choose x e) where
    set_there : (r : Result Described Fault) → MeansSet (Describes g.table d) (at_next g.which c p) e r → (t : Values) → Completes p t → MeansSet (Describes g.table d) (there t) e r
    unfolding there
    set_there r h t k = keeps_first (Describes g.table d (at_next g.which c p) e) (Describes g.table d (there t) e) (set_at (place_of e))
        (set_keeps g.table d (at_next g.which c p) (there t) (at_more g.which c p (map Some t) k.has) e) r h

    one_set : (r s : Result Described Fault) → MeansSet (Describes g.table d) (at_next g.which c p) e r → (t : Values) → Completes p t → MeansSet (Describes g.table d) (there t) e s → r ≡ s
    unfolding there
    one_set r s h t k m =
        let w = gr.reads t k in
        let one = set_one g.table d (there t) e (reads_values g.table (there t) e w.definitions (holds_values g.table (there t) a w) (form_known (choose x e) i t k)) in
        one_then (Describes g.table d (there t) e) (set_at (place_of e)) one (λ S n. one_set_at (place_of e) S) r s (set_there r h t k) m

    choose_held : (t : Values) → HoldsOf g (suc d) c a t → (v : Val) × (S : Described) × MeansSet (Describes g.table d) (there t) e (Ok S) × (slice_get t x ≡ Some v) × Belongs S v
    unfolding there
    choose_held t h =
        let r = subst (λ (f : Form). FormHolds g d (Holds g d) (there t) a f) i (held_form g d c (map Some t) a h) in
        (r.0, r.1, r.2, get_of_map t x r.0 (subst (λ (q : Places). slice_get q x ≡ Some (Some r.0)) (at_next_is g.which c (map Some t)) r.3), r.4)

    held_choose : (t : Values) (v : Val) (S : Described) → MeansSet (Describes g.table d) (there t) e (Ok S) → slice_get t x ≡ Some v → Belongs S v → HoldsOf g (suc d) c a t
    unfolding there
    held_choose t v S h k b = form_held g d c (map Some t) a (subst (λ (f : Form). FormHolds g d (Holds g d) (there t) a f) (sym i)
        (v, S, h, subst (λ (q : Places). slice_get q x ≡ Some (Some v)) (sym (at_next_is g.which c (map Some t))) (get_in_map t x v k), b))

    choose_failed : (t : Values) (f : Fault) → FailsOf g (suc d) B c a t f
        → MeansSet (Describes g.table d) (there t) e (Err f) ⊎ ((S : Described) × MeansSet (Describes g.table d) (there t) e (Ok S) × (B x ≡ false) × list_at (place_of e) S (Err f))
    unfolding there
    choose_failed t f m = subst (λ (y : Form). FormFails g d (Holds g d) (Fails g d) B (there t) a y f) i (failed_form g d B c (map Some t) a f m)

    failed_choose : (t : Values) (f : Fault)
        → MeansSet (Describes g.table d) (there t) e (Err f) ⊎ ((S : Described) × MeansSet (Describes g.table d) (there t) e (Ok S) × (B x ≡ false) × list_at (place_of e) S (Err f)) → FailsOf g (suc d) B c a t f
    unfolding there
    failed_choose t f m = form_failed g d B c (map Some t) a f (subst (λ (y : Form). FormFails g d (Holds g d) (Fails g d) B (there t) a y f) (sym i) m)

    -- the set can be listed, where the variable has no value yet
    abbrev pub CanList : Described → Type 0
    CanList S = (B x ≡ true) ⊎ ((u : Val) × list_at (place_of e) S (Ok u))

    true_false : B x ≡ true → B x ≡ false → ⊥
    true_false h k = cc

    pub walked_choose : (S : Described) → MeansSet (Describes g.table d) (at_next g.which c p) e (Ok S) → CanList S → (qs : List Places) → Gets sees B p x (Belongs S) qs → Walked g (suc d) sees B p c a (Ok qs)
    walked_choose S h l qs w = found_same sees p (λ C. C ≡ with_variable B x) (Fixes g a B) (HasSuch x (Belongs S)) (HoldsOf g (suc d) c a) (λ t f. ⊥) (FailsOf g (suc d) B c a)
        (λ C y. (C, let r = outcome (choose x e) i C y in choose_fixes g r.0 (outcome_within g r.0) a B C x e r.1, λ q l f. f))
        (λ t k m. held_choose t m.0 S (set_there (Ok S) h t k) m.1 m.2)
        (λ t k m. let r = choose_held t m in (r.0, r.3, subst (λ (X : Described). Belongs X r.0) (sym (same_value S r.1 (one_set (Ok S) (Ok r.1) h t k r.2))) r.4))
        (λ t f k m. absurd m)
        (λ t f k m. no_fault t f k (choose_failed t f m))
        (Ok qs) w
      where
        no_list : (T : Described) (f : Fault) → S ≡ T → B x ≡ false → list_at (place_of e) T (Err f) → CanList S → ⊥
        no_list T f s b n (inl y) = true_false y b
        no_list T f s b n (inr y) = value_no_fault y.0 f (one_list_at (place_of e) S (Ok y.0) (Err f) y.1 (subst (λ (X : Described). list_at (place_of e) X (Err f)) (sym s) n))

        no_fault : (t : Values) (f : Fault) → Completes p t
            → MeansSet (Describes g.table d) (there t) e (Err f) ⊎ ((T : Described) × MeansSet (Describes g.table d) (there t) e (Ok T) × (B x ≡ false) × list_at (place_of e) T (Err f)) → ⊥
        no_fault t f k (inl m) = value_no_fault S f (one_set (Ok S) (Err f) h t k m)
        no_fault t f k (inr m) = no_list m.0 f (same_value S m.0 (one_set (Ok S) (Ok m.0) h t k m.1)) m.2 m.3 l

    pub walked_no_set : (f : Fault) → MeansSet (Describes g.table d) (at_next g.which c p) e (Err f) → Walked g (suc d) sees B p c a (Err (Refused f.kind f.at))
    walked_no_set f h = meets_here sees p (FailsOf g (suc d) B c a) (fault f.kind f.at) gr.agrees (λ t k. failed_choose t f (inl (set_there (Err f) h t k)))

    -- where the variable has no value, and the set can not be listed
    pub walked_no_list : (S : Described) → MeansSet (Describes g.table d) (at_next g.which c p) e (Ok S) → B x ≡ false → (f : Fault) → list_at (place_of e) S (Err f) → Walked g (suc d) sees B p c a (Err (Refused f.kind f.at))
    walked_no_list S h b f l = meets_here sees p (FailsOf g (suc d) B c a) (fault f.kind f.at) gr.agrees (λ t k. failed_choose t f (inr (S, set_there (Ok S) h t k, b, l)))

-- a value in a state of values
value_at : (t : Values) (x : ℕ) (v : Val) → All IsValue t → slice_get t x ≡ Some v → IsValue v
value_at t x v a e = by_list t x (place_by_all IsValue t a) e
  where
    nothing : ◌≡◌ {A = Option Val} None (Some v) → ⊥
    nothing e = cc

    same_some : (w : Val) → ◌≡◌ {A = Option Val} (Some w) (Some v) → w ≡ v
    same_some w e = cc

    by_list : (t : Values) (x : ℕ) → AllByRecursion IsValue t → slice_get t x ≡ Some v → IsValue v
    by_list [] x a e = absurd (nothing e)
    by_list (w ∷ t) zero a e = subst IsValue (same_some w e) a.0
    by_list (w ∷ t) (suc x) a e = by_list t x a.1 e

-- from the list of its members to the set
pub gets_listed : (sees : List See) (B : VariableSet) (p : Places) (x : ℕ) (at : Place) (S : Described) (u : Val) (qs : List Places) → list_at at S (Ok u) → Gets sees B p x (Contains (items_of u)) qs → Gets sees B p x (Belongs S) qs
gets_listed sees B p x at S u qs l w = found_same sees p (λ C. C ≡ with_variable B x) (λ C. C ≡ with_variable B x) (HasSuch x (Contains (items_of u))) (HasSuch x (Belongs S)) (λ t f. ⊥) (λ t f. ⊥)
    (λ C y. (C, y, λ q l f. f)) (λ t k m. (m.0, m.1, (listed_belong at S u l m.0 (value_at t x m.0 k.values m.1)).1 m.2)) (λ t k m. (m.0, m.1, (listed_belong at S u l m.0 (value_at t x m.0 k.values m.1)).0 m.2))
    (λ t f k m. m) (λ t f k m. m) (Ok qs) w
