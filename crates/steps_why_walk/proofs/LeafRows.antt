-- Rows that are a test, or that say the value of a variable.
use Rattle.std.proofs.Common.{◌≡◌, inl, inr, refl, sym, ap, ◌∙◌, subst, ℕ, zero, suc, ◌<◌, ◌≤◌, List, [], ◌∷◌, length, arith}
use Rattle.std.specs.Prelude.{◌↔◌, IsTrue, Bool, true, false, Option, None, Some, Result, Ok, Err, slice_get, slice_set, if◌then◌else◌}
use Rattle.base_core.specs.declared.place.Place.{Place}
use Rattle.values_core.specs.Data.{Val}
use Rattle.states_core.specs.declared.fault.Fault.{Fault}
use Rattle.names_terms.specs.Terms.{Term, place_of}
use Rattle.values_sets.specs.DescribedSets.{Described}
use Rattle.values_sets.specs.Membership.{Belongs}
use Rattle.eval_meanings.specs.declared.fault.EvalFault.{EvalFault}
use Rattle.eval_meanings.specs.declared.fault.EvalFault.TheVariants.{Refused, NoMemory}
use Rattle.eval_meanings.specs.Answers.{Tells}
use Rattle.eval_meanings.specs.Contexts.{Context, Places}
use Rattle.eval_meanings.specs.Evaluates.{Evaluates, Describes}
use Rattle.eval_meanings.specs.Outcomes.{fault}
use Rattle.eval_meanings.specs.Sets.{MeansSet, list_at}
use Rattle.eval_meanings.specs.Unchanged.{TruthOf}
use Rattle.values_core.specs.Ascending.{head_in}
use Rattle.actions_meanings.specs.Forms.{Form, Setting, assign, choose, form, test}
use Rattle.actions_meanings.specs.Outcomes.{Fixes, form_outcome, outcome_within}
use Rattle.actions_meanings.specs.Reads.{VariableSet, with_variable}
use Rattle.logs_updates.specs.declared.update.See.{See}
use Rattle.actions_meanings.specs.Filled.{Fills, at_next}
use Rattle.steps_found_states.specs.Grounds.{Grounds}
use Rattle.steps_found_states.specs.Walks.{FailsOf, HoldsOf, Walked}
use Rattle.steps_found_states.proofs.Filling.{gets_same}
use Rattle.steps_found_states.proofs.Finding.{possible_itself, within_itself}
use Rattle.steps_found_states.proofs.FormFixes.{assign_fixes, choose_fixes, fixes_form, test_fixes}
use Rattle.steps_found_states.proofs.Lists.{all_by_place}
use Rattle.steps_found_states.proofs.Simple.{walked_assign, walked_choose, walked_true}
use Rattle.steps_filling.specs.Fillings.{Allows, Assigns, Chooses, IsEmpty, SeenIn}
use Rattle.steps_walk.proofs.Values.{can_list, gets_assigned, gets_chosen}
use Rattle.steps_why_branches.specs.PassedOver.{may_spare}
use Rattle.steps_why_branches.specs.Traces.{Trace, fails, faulted, here, spares, stops, why_at}
use Rattle.steps_why_branches.specs.declared.sparing.Spared.{Spared}
use Rattle.steps_why_branches.specs.declared.sparing.Sparing.{Sparing}
use Rattle.steps_why_branches.specs.Branches.{Assigned, Chosen, Equated, stood}
use Rattle.steps_why_branches.proofs.Found.{IsSingle, found_assign, found_given, found_test}
use Rattle.steps_why_branches.specs.declared.why.Ended.{Ended}
use Rattle.steps_why_branches.specs.declared.why.Ended.TheVariants.{Ends, Passed}
use Rattle.steps_why_branches.specs.declared.why.WhyKind.{WhyKind}
use Rattle.steps_why_branches.specs.declared.why.WhyKind.TheVariants as why
use Rattle.steps_why_walk.specs.Ends.{EndIf, IsEquated, IsFaultEnd, IsListedEnds, OfTruth, fail_end, kept}
use Rattle.steps_why_walk.specs.Walking.{EndAltered, IsListed, Passes, WhyGrounded}
use Rattle.steps_why_walk.proofs.Passing.{passes_ended, passes_found, passes_one}
use Rattle.steps_why_walk.proofs.Rows.{known_of, now_of}

-- by what the code has tested

pub end_by_test : (P : Type 0) (p : Places) (m n : Ended) (b : Bool) → IsTrue b ↔ P → n ≡ (if b then Passed p None else m) → EndIf P p m n
end_by_test P p m n true t e = inl (t.0 refl, e)
end_by_test P p m n false t e = inr ((λ h. let x : false ≡ true = t.1 h in cc), e)

pub end_by_truth : (there lacking n : Ended) (b : Bool) → n ≡ (if b then there else lacking) → OfTruth there lacking (Ok b) n
end_by_truth there lacking n true e = e
end_by_truth there lacking n false e = e

-- nothing is seen
nothing_seen : (x : ℕ) (v : Val) → SeenIn [] x v
nothing_seen x v = all_by_place (λ (see : See). Allows see x v) [] tt

-- a place that is there and has no value
pub empty_place : (p : Places) (x : ℕ) → x < length p → IsEmpty p x → slice_get p x ≡ Some None
empty_place [] x l m = absurd (omega (arith, l))
empty_place (None ∷ p) zero l m = refl
empty_place (Some v ∷ p) zero l m = absurd (m v refl)
empty_place (o ∷ p) (suc x) l m = empty_place p x (omega (arith, l)) m

module _ (g : Setting) (sp : Sparing) (k : ℕ) (room : 1 ≤ k) (d : ℕ) (c : Context) (a : Term) (p : Places) (gr : WhyGrounded g (suc d) c a p) where
  -- a part that does not hold, where what is fixed then is filled already
  fail_kept : (kind : WhyKind) (v : Option Val) → kept (fails sp p (stood (suc d) (c, a)) kind v ∷ []) ≡ fail_end sp p c.slots a kind v ∷ []
  fail_kept kind v = by_test (may_spare sp.at a)
    where
      by_test : (o : Bool) → kept ((if o then spares sp p (stood (suc d) (c, a)) kind v else stops p (stood (suc d) (c, a)) (place_of a) kind) ∷ [])
          ≡ (if o then Passed p (Some (record { why = why_at (place_of a) kind; call = sp.call; slots = c.slots; wanted = v })) else Ends (why_at (place_of a) kind)) ∷ []
      by_test true = refl
      by_test false = refl

  fail_passes : (kind : WhyKind) (v : Option Val) (B : VariableSet) → ((C : VariableSet) → Fixes g a B C → Fills C p) → Passes p (Fixes g a B) (fail_end sp p c.slots a kind v ∷ [])
  fail_passes kind v B h = by_test (may_spare sp.at a)
    where
      by_test : (o : Bool) → Passes p (Fixes g a B) ((if o then Passed p (Some (record { why = why_at (place_of a) kind; call = sp.call; slots = c.slots; wanted = v })) else Ends (why_at (place_of a) kind)) ∷ [])
      by_test true = passes_one p (Fixes g a B) p (Some (record { why = why_at (place_of a) kind; call = sp.call; slots = c.slots; wanted = v })) (refl, within_itself p, possible_itself p) h
      by_test false = passes_ended p (Fixes g a B) (why_at (place_of a) kind)

  one_alone : (n : Ended) (ends : List Ended) → ends ≡ n ∷ [] → IsListed g sp k (suc d) c a p (n ∷ []) → IsListed g sp k (suc d) c a p ends
  one_alone n ends z h = subst (λ (us : List Ended). IsListed g sp k (suc d) c a p us) (sym z) h

  -- a test

  abbrev Tests : Result Bool Fault → Ended → Type 0
  Tests r n = OfTruth (Passed p None) (fail_end sp p c.slots a why.TestFalse None) r n

  tested : (r : Result Bool Fault) → test ≡ form g (length c.slots) a → TruthOf (Evaluates g.table (suc d)) (at_next g.which c p) a r → (n : Ended) → Tests r n → IsListed g sp k (suc d) c a p (n ∷ [])
  tested (Ok true) i h n e = record {
    found = (here p ∷ [], found_test g sp k room d c a p (known_of g (suc d) c a p gr) (now_of g (suc d) c a p gr) (sym i) (Ok true) h (here p) refl, ap (λ (m : Ended). m ∷ []) (sym e));
    passes = λ B b. subst (λ (m : Ended). Passes p (Fixes g a B) (m ∷ [])) (sym e) (passes_found p (Fixes g a B) (HoldsOf g (suc d) c a) (FailsOf g (suc d) B c a) p (walked_true g d [] B p c a b (sym i) h));
  }
  tested (Ok false) i h n e = record {
    found = (
      fails sp p (stood (suc d) (c, a)) why.TestFalse None ∷ [],
      found_test g sp k room d c a p (known_of g (suc d) c a p gr) (now_of g (suc d) c a p gr) (sym i) (Ok false) h (fails sp p (stood (suc d) (c, a)) why.TestFalse None) refl,
      fail_kept why.TestFalse None ∙ ap (λ (m : Ended). m ∷ []) (sym e),
    );
    passes = λ B b. subst (λ (m : Ended). Passes p (Fixes g a B) (m ∷ [])) (sym e) (fail_passes why.TestFalse None B (λ C x. subst (λ (D : VariableSet). Fills D p) (sym (fixed B C x)) b.fills));
  }
    where
      fixed : (B C : VariableSet) → Fixes g a B C → C ≡ B
      fixed B C x =
          let r = fixes_form g (length c.slots) a B C x in
          test_fixes g r.0 (outcome_within g r.0) a B C (subst (λ (f : Form). form_outcome g r.0 (outcome_within g r.0) a B f ≡ Ok C) (sym i) r.2)
  tested (Err f) i h n e = record {
    found = (
      faulted p (stood (suc d) (c, a)) f ∷ [],
      found_test g sp k room d c a p (known_of g (suc d) c a p gr) (now_of g (suc d) c a p gr) (sym i) (Err f) h (faulted p (stood (suc d) (c, a)) f) refl,
      ap (λ (m : Ended). m ∷ []) (sym e),
    );
    passes = λ B b. subst (λ (m : Ended). Passes p (Fixes g a B) (m ∷ [])) (sym e) (passes_ended p (Fixes g a B) (why_at f.at (why.Fault f.kind)));
  }

  pub test_row : (b : Bool) (n : Ended) (ends : List Ended) → test ≡ form g (length c.slots) a → TruthOf (Evaluates g.table (suc d)) (at_next g.which c p) a (Ok b) → Tests (Ok b) n → ends ≡ n ∷ [] → IsListed g sp k (suc d) c a p ends
  test_row b n ends i h e z = one_alone n ends z (tested (Ok b) i h n e)

  pub untested_row : (x : EvalFault) (n : Ended) (ends : List Ended) → test ≡ form g (length c.slots) a → Tells {A = Bool} (Err x) (TruthOf (Evaluates g.table (suc d)) (at_next g.which c p) a) → IsFaultEnd x n → ends ≡ n ∷ []
      → IsListed g sp k (suc d) c a p ends
  untested_row (Refused kind at) n ends i h e z = one_alone n ends z (tested (Err (fault kind at)) i h n e)
  untested_row NoMemory n ends i h e z = absurd e

  -- a variable that has a value

  module _ (x : ℕ) (e : Term) (i : assign x e ≡ form g (length c.slots) a) where
    -- where it has a value already, no more is filled
    assign_filled : (B : VariableSet) (b : Grounds g (suc d) [] B p c a) (w : Val) → slice_get p x ≡ Some (Some w) → (C : VariableSet) → Fixes g a B C → Fills C p
    assign_filled B b w j C y = (gets_same [] B p x (λ u. u ≡ w) w b.fills b.agrees j refl).filled p C (head_in p []) (fixed y)
      where
        fixed : Fixes g a B C → C ≡ with_variable B x
        fixed y =
            let r = fixes_form g (length c.slots) a B C y in
            assign_fixes g r.0 (outcome_within g r.0) a B C x e (subst (λ (f : Form). form_outcome g r.0 (outcome_within g r.0) a B f ≡ Ok C) (sym i) r.2)

    gets_of : (B : VariableSet) (b : Grounds g (suc d) [] B p c a) (v : Val) → Evaluates g.table d (at_next g.which c p) e (Ok v) → x < length p → (q : Places) → Assigns [] x v p (q ∷ []) → Passes p (Fixes g a B) (Passed q None ∷ [])
    gets_of B b v h l q s = passes_found p (Fixes g a B) (HoldsOf g (suc d) c a) (FailsOf g (suc d) B c a) q (walked_assign g d [] B p c a b x e (sym i) v h (q ∷ []) (gets_assigned [] B p x b.fills b.agrees l v (q ∷ []) s))

    at_place : (v : Val) (o : Option (Option Val)) (y : Trace) → slice_get p x ≡ o → Equated sp p (stood (suc d) (c, a)) x v o y → Assigned sp p (stood (suc d) (c, a)) x (Ok v) y
    at_place v o y w h = subst (λ (u : Option (Option Val)). Equated sp p (stood (suc d) (c, a)) x v u y) (sym w) h

    equated : (v : Val) → Evaluates g.table d (at_next g.which c p) e (Ok v) → x < length p → (n : Ended) → IsEquated sp c.slots a x v p n → IsListed g sp k (suc d) c a p (n ∷ [])
    equated v h l n (inl (w, j, inl (s, z))) = record {
      found = (here p ∷ [], found_assign g sp k room d c a p (known_of g (suc d) c a p gr) (now_of g (suc d) c a p gr) x e (sym i) (Ok v) h (here p) (at_place v (Some (Some w)) (here p) j (inl (s, refl))), ap (λ (m : Ended). m ∷ []) (sym z));
      passes = λ B b. subst (λ (m : Ended). Passes p (Fixes g a B) (m ∷ [])) (sym z) (gets_of B b v h l p (inl (w, j, inl (s, refl))));
    }
    equated v h l n (inl (w, j, inr (s, z))) =
        let y = fails sp p (stood (suc d) (c, a)) (why.Differs (record { 0 = x })) (Some v) in
        record {
          found = (
            y ∷ [],
            found_assign g sp k room d c a p (known_of g (suc d) c a p gr) (now_of g (suc d) c a p gr) x e (sym i) (Ok v) h y (at_place v (Some (Some w)) y j (inr (s, refl))),
            fail_kept (why.Differs (record { 0 = x })) (Some v) ∙ ap (λ (m : Ended). m ∷ []) (sym z),
          );
          passes = λ B b. subst (λ (m : Ended). Passes p (Fixes g a B) (m ∷ [])) (sym z) (fail_passes (why.Differs (record { 0 = x })) (Some v) B (assign_filled B b w j));
        }
    equated v h l n (inr (m, t, z)) =
        let q = slice_set p x (Some v) in
        record {
          found = (here q ∷ [], found_assign g sp k room d c a p (known_of g (suc d) c a p gr) (now_of g (suc d) c a p gr) x e (sym i) (Ok v) h (here q) (at_place v (Some None) (here q) (empty_place p x l m) refl), ap (λ (m : Ended). m ∷ []) (sym z));
          passes = λ B b. subst (λ (m : Ended). Passes p (Fixes g a B) (m ∷ [])) (sym z) (gets_of B b v h l q (inr (m, t, inl (nothing_seen x v, refl))));
        }

    pub equated_row : (v : Val) (n : Ended) (ends : List Ended) → x < length p → Evaluates g.table d (at_next g.which c p) e (Ok v) → IsEquated sp c.slots a x v p n → ends ≡ n ∷ [] → IsListed g sp k (suc d) c a p ends
    equated_row v n ends l h q z = one_alone n ends z (equated v h l n q)

    refused : (f : Fault) → Evaluates g.table d (at_next g.which c p) e (Err f) → (n : Ended) → n ≡ Ends (why_at f.at (why.Fault f.kind)) → IsListed g sp k (suc d) c a p (n ∷ [])
    refused f h n z =
        let y = faulted p (stood (suc d) (c, a)) f in
        record {
          found = (y ∷ [], found_assign g sp k room d c a p (known_of g (suc d) c a p gr) (now_of g (suc d) c a p gr) x e (sym i) (Err f) h y refl, ap (λ (m : Ended). m ∷ []) (sym z));
          passes = λ B b. subst (λ (m : Ended). Passes p (Fixes g a B) (m ∷ [])) (sym z) (passes_ended p (Fixes g a B) (why_at f.at (why.Fault f.kind)));
        }

    pub unequated_row : (y : EvalFault) (n : Ended) (ends : List Ended) → Tells {A = Val} (Err y) (Evaluates g.table d (at_next g.which c p) e) → IsFaultEnd y n → ends ≡ n ∷ [] → IsListed g sp k (suc d) c a p ends
    unequated_row (Refused kind at) n ends h q z = one_alone n ends z (refused (fault kind at) h n q)
    unequated_row NoMemory n ends h q z = absurd q

  -- a variable that has a member of a set, and has a value already

  module _ (x : ℕ) (e : Term) (i : choose x e ≡ form g (length c.slots) a) where
    choose_filled : (B : VariableSet) (b : Grounds g (suc d) [] B p c a) (w : Val) → slice_get p x ≡ Some (Some w) → (C : VariableSet) → Fixes g a B C → Fills C p
    choose_filled B b w j C y = (gets_same [] B p x (λ u. u ≡ w) w b.fills b.agrees j refl).filled p C (head_in p []) (fixed y)
      where
        fixed : Fixes g a B C → C ≡ with_variable B x
        fixed y =
            let r = fixes_form g (length c.slots) a B C y in
            choose_fixes g r.0 (outcome_within g r.0) a B C x e (subst (λ (f : Form). form_outcome g r.0 (outcome_within g r.0) a B f ≡ Ok C) (sym i) r.2)

    given_at : (S : Described) (w : Val) (y : Trace) → slice_get p x ≡ Some (Some w) → Chosen sp p (stood (suc d) (c, a)) x (place_of e) (Ok S) (Some (Some w)) y → Chosen sp p (stood (suc d) (c, a)) x (place_of e) (Ok S) (slice_get p x) y
    given_at S w y j h = subst (λ (u : Option (Option Val)). Chosen sp p (stood (suc d) (c, a)) x (place_of e) (Ok S) u y) (sym j) h

    single_at : (S : Described) (w : Val) → slice_get p x ≡ Some (Some w) → IsSingle g sp k room d c a p (known_of g (suc d) c a p gr) (now_of g (suc d) c a p gr) (Ok S) (slice_get p x)
    single_at S w j = subst (λ (u : Option (Option Val)). IsSingle g sp k room d c a p (known_of g (suc d) c a p gr) (now_of g (suc d) c a p gr) (Ok S) u) (sym j) tt

    pub given_row : (S : Described) (w : Val) (n : Ended) (ends : List Ended) → x < length p → MeansSet (Describes g.table d) (at_next g.which c p) e (Ok S) → slice_get p x ≡ Some (Some w) → EndIf (Belongs S w) p (fail_end sp p c.slots a (why.NotIn (record { 0 = x })) None) n → ends ≡ n ∷ []
        → IsListed g sp k (suc d) c a p ends
    given_row S w n ends l h j (inl (s, z)) u = one_alone n ends u (record {
      found = (here p ∷ [], found_given g sp k room d c a p (known_of g (suc d) c a p gr) (now_of g (suc d) c a p gr) x e (sym i) (Ok S) h (single_at S w j) (here p) (given_at S w (here p) j (inl (s, refl))), ap (λ (m : Ended). m ∷ []) (sym z));
      passes = λ B b. subst (λ (m : Ended). Passes p (Fixes g a B) (m ∷ [])) (sym z) (passes_found p (Fixes g a B) (HoldsOf g (suc d) c a) (FailsOf g (suc d) B c a) p (chosen_walk B b));
    })
      where
        chosen_walk : (B : VariableSet) (b : Grounds g (suc d) [] B p c a) → Walked g (suc d) [] B p c a (Ok (p ∷ []))
        chosen_walk B b =
            let q : Chooses [] x S (place_of e) p (p ∷ []) = inl (w, j, inl (s, refl)) in
            walked_choose g d [] B p c a b x e (sym i) S h (can_list [] B p x b.fills b.agrees l S e (p ∷ []) q) (p ∷ []) (gets_chosen [] B p x b.fills b.agrees l S e (p ∷ []) q)
    given_row S w n ends l h j (inr (s, z)) u =
        let y = fails sp p (stood (suc d) (c, a)) (why.NotIn (record { 0 = x })) None in
        one_alone n ends u (record {
          found = (
            y ∷ [],
            found_given g sp k room d c a p (known_of g (suc d) c a p gr) (now_of g (suc d) c a p gr) x e (sym i) (Ok S) h (single_at S w j) y (given_at S w y j (inr (s, refl))),
            fail_kept (why.NotIn (record { 0 = x })) None ∙ ap (λ (m : Ended). m ∷ []) (sym z),
          );
          passes = λ B b. subst (λ (m : Ended). Passes p (Fixes g a B) (m ∷ [])) (sym z) (fail_passes (why.NotIn (record { 0 = x })) None B (choose_filled B b w j));
        })

    no_set : (f : Fault) → MeansSet (Describes g.table d) (at_next g.which c p) e (Err f) → (n : Ended) → n ≡ Ends (why_at f.at (why.Fault f.kind)) → IsListed g sp k (suc d) c a p (n ∷ [])
    no_set f h n z =
        let y = faulted p (stood (suc d) (c, a)) f in
        record {
          found = (y ∷ [], found_given g sp k room d c a p (known_of g (suc d) c a p gr) (now_of g (suc d) c a p gr) x e (sym i) (Err f) h tt y refl, ap (λ (m : Ended). m ∷ []) (sym z));
          passes = λ B b. subst (λ (m : Ended). Passes p (Fixes g a B) (m ∷ [])) (sym z) (passes_ended p (Fixes g a B) (why_at f.at (why.Fault f.kind)));
        }

    pub no_set_row : (y : EvalFault) (n : Ended) (ends : List Ended) → Tells {A = Described} (Err y) (MeansSet (Describes g.table d) (at_next g.which c p) e) → IsFaultEnd y n → ends ≡ n ∷ [] → IsListed g sp k (suc d) c a p ends
    no_set_row (Refused kind at) n ends h q z = one_alone n ends z (no_set (fault kind at) h n q)
    no_set_row NoMemory n ends h q z = absurd q

-- the list of a set that can not be listed
pub list_refused : (k x : ℕ) (S : Described) (set_at at : Place) (p : Places) (y : EvalFault) (n : Ended) (ends : List Ended) → Tells {A = Val} (Err y) (list_at set_at S) → IsFaultEnd y n → ends ≡ n ∷ [] → IsListedEnds k x S set_at at p ends
list_refused k x S set_at at p (Refused kind place) n ends h e z = (Err (fault kind place), h, z ∙ ap (λ (m : Ended). m ∷ []) e)
list_refused k x S set_at at p NoMemory n ends h e z = absurd e

-- a test that is no part of the text
pub altered_refused : (g : Setting) (d : ℕ) (c : Context) (e : Term) (q : Places) (o : Option Spared) (y : EvalFault) (n : Ended) → Tells {A = Bool} (Err y) (TruthOf (Evaluates g.table d) (at_next g.which c q) e) → IsFaultEnd y n → EndAltered g d c e (Passed q o) n
altered_refused g d c e q o (Refused kind at) n h z = (Err (fault kind at), h, z)
altered_refused g d c e q o NoMemory n h z = absurd z
