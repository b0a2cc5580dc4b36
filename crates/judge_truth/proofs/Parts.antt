-- The parts to which a form opens have a form from the set from which the whole has one.
use Rattle.std.proofs.Common.{◌≡◌, inl, inr, sym, ap, subst, ℕ, List, [], ◌∷◌, ◌++◌, map}
use Rattle.std.specs.Prelude.{Bool, true, false, Option, None, Some, Result, Ok, Err, Contains, slice_get, if◌then◌else◌, option_to_list}
use Rattle.std.specs.List.{AllByRecursion}
use Rattle.base_core.specs.declared.place.Place.{Place}
use Rattle.values_core.specs.Ascending.{head_in, tail_in}
use Rattle.values_core.specs.Data.{Val}
use Rattle.states_core.specs.declared.fault.Fault.{Fault}
use Rattle.names_terms.specs.declared.operator.Operator.{Operator}
use Rattle.names_terms.specs.Terms.{Term, place_of}
use Rattle.names_term_parts.specs.Parts.{set_list}
use Rattle.eval_meanings.specs.Contexts.{Context, bind, enter}
use Rattle.eval_meanings.specs.Evaluates.{Evaluates}
use Rattle.eval_meanings.specs.Outcomes.{Outcome}
use Rattle.eval_meanings.specs.Unchanged.{TruthOf}
use Rattle.actions_meanings.specs.Forms.{Setting, Form, test, assign, choose, both, either, narrowed, some, branch, arms, inside, call, changing}
use Rattle.actions_meanings.specs.Reads.{VariableSet, body_of}
use Rattle.actions_meanings.specs.Outcomes.{Fixes, early, first_early, form_outcome, outcome_within, through}
use Rattle.actions_meanings.specs.Holds.{Chosen, Opened, Opens, all_of, one_of}
use Rattle.steps_found_states.specs.Grounds.{FixesWithin, TuplesFix, form_parts}
use Rattle.steps_found_states.specs.Parts.{Parts}
use Rattle.steps_found_states.proofs.Lists.{all_in, of_map, one_in}
use Rattle.steps_found_states.proofs.FormFixes.{arms_same, case_same, through_one, unless_ok}

abbrev pub parts_of : Result Opened Fault → Parts
parts_of (Ok (all_of es)) = es
parts_of (Ok (one_of es)) = es
parts_of (Err f) = []

no_opening : (o : Opened) (f : Fault) → ◌≡◌ {A = Result Opened Fault} (Ok o) (Err f) → ⊥
no_opening o f e = cc

one_no_all : (es fs : Parts) → ◌≡◌ {A = Result Opened Fault} (Ok (one_of es)) (Ok (all_of fs)) → ⊥
one_no_all es fs e = cc

chosen_term : (x y : Term) → ◌≡◌ {A = Result Term Fault} (Ok x) (Ok y) → x ≡ y
chosen_term x y e = cc

chosen_fault : (x : Term) (f : Fault) → ◌≡◌ {A = Result Term Fault} (Ok x) (Err f) → ⊥
chosen_fault x f e = cc

-- what a CASE comes to is one of the terms behind the tests
among : (truth : Term → Outcome Bool) (at : Place) (cs : List (Term × Term)) (other : Option Term) (x : Term) → Chosen truth at cs other (Ok x) → Contains (map (λ q. q.1) cs ++ option_to_list other) x
among truth at [] None x h = absurd (chosen_fault x _ h)
among truth at [] (Some e) x h = subst (λ (z : Term). Contains (e ∷ []) z) (sym (chosen_term x e h)) (head_in e [])
among truth at (q ∷ cs) other x (inl (true, m, h)) =
    subst (λ (z : Term). Contains (q.1 ∷ (map (λ q. q.1) cs ++ option_to_list other)) z) (sym (chosen_term x q.1 h)) (head_in q.1 (map (λ q. q.1) cs ++ option_to_list other))
among truth at (q ∷ cs) other x (inl (false, m, h)) = tail_in q.1 (map (λ q. q.1) cs ++ option_to_list other) x (among truth at cs other x h)
among truth at (q ∷ cs) other x (inr (f, m, h)) = absurd (chosen_fault x f h)

-- the part has a form from B, and so have the terms of tuples in it
abbrev pub HasForm : Setting → ℕ → VariableSet → Term → Type 0
HasForm g d B e = TuplesFix g d e × ((D : VariableSet) × Fixes g e B D)

module _ (g : Setting) (d k : ℕ) (B C : VariableSet) (c : Context) (a : Term) where
  -- what is known of the parts of a form
  record Known (f : Form) : Type 0 where
    outcome : form_outcome g k (outcome_within g k) a B f ≡ Ok C
    tuples : AllByRecursion (TuplesFix g d) (form_parts g (place_of a) f)
    fixes : AllByRecursion (FixesWithin g k) (form_parts g (place_of a) f)

  has_form : (f : Form) → Known f → (x : Term) → Contains (form_parts g (place_of a) f) x → (D : VariableSet) → outcome_within g k x B ≡ Ok D → HasForm g d B x
  has_form f h x m D q = (all_in (TuplesFix g d) (form_parts g (place_of a) f) h.tuples x m, (D, all_in (FixesWithin g k) (form_parts g (place_of a) f) h.fixes x m B D q))

  same_part : (es fs : Parts) → ◌≡◌ {A = Result Opened Fault} (Ok (one_of es)) (Ok (one_of fs)) → es ≡ fs
  same_part es fs e = ap parts_of e

  only : (es : Parts) (x : Context × Term) → ◌≡◌ {A = Result Opened Fault} (Ok (one_of es)) (Ok (one_of (x ∷ []))) → HasForm g d B x.1 → (e : Context × Term) → Contains es e → HasForm g d B e.1
  only es x i h e m = subst (λ (z : Context × Term). HasForm g d B z.1) (one_in x e (subst (λ (zs : Parts). Contains zs e) (same_part es (x ∷ []) i) m)) h

  of_branch : (q x y : Term) (b : Bool) → Known (branch q x y) → HasForm g d B (if b then x else y)
  of_branch q x y true h =
      let m = head_in x (y ∷ []) in
      let r = arms_same g k B C (x ∷ y ∷ []) (unless_ok (early g B k q) _ C h.outcome).1 x m in
      has_form (branch q x y) h x m r.0 r.1
  of_branch q x y false h =
      let m = tail_in x (y ∷ []) y (head_in y []) in
      let r = arms_same g k B C (x ∷ y ∷ []) (unless_ok (early g B k q) _ C h.outcome).1 y m in
      has_form (branch q x y) h y m r.0 r.1

  of_call : (j : ℕ) (xs : List Term) (o : Operator) → slice_get g.table j ≡ Some o → Known (call j xs) → HasForm g d B o.body
  of_call j xs o e h =
      let m = subst (λ (z : Option Operator). Contains (body_of z) o.body) (sym e) (head_in o.body []) in
      let r = (unless_ok (first_early (early g B k) xs) (through (outcome_within g k) (body_of (slice_get g.table j)) B) C h.outcome).1 in
      has_form (call j xs) h o.body m C (through_one g k (outcome_within g k) o.body B C (subst (λ (z : Option Operator). through (outcome_within g k) (body_of z) B ≡ Ok C) e r))

  pub one_has_form : (f : Form) (es : Parts) → Opens g.table d c (place_of a) f (Ok (one_of es)) → form_outcome g k (outcome_within g k) a B f ≡ Ok C → AllByRecursion (TuplesFix g d) (form_parts g (place_of a) f)
      → AllByRecursion (FixesWithin g k) (form_parts g (place_of a) f) → (e : Context × Term) → Contains es e → HasForm g d B e.1
  one_has_form f es h o t x = by_form f es h (record { outcome = o; tuples = t; fixes = x })
    where
      by_form : (f : Form) (es : Parts) → Opens g.table d c (place_of a) f (Ok (one_of es)) → Known f → (e : Context × Term) → Contains es e → HasForm g d B e.1
      by_form (both xs) es h w e m = absurd (one_no_all es _ h)
      by_form (narrowed n xs) es h w e m = absurd (one_no_all es _ h)
      by_form (changing x v) es h w e m = absurd (one_no_all es _ h)
      by_form test es h w e m = absurd h
      by_form (assign x y) es h w e m = absurd h
      by_form (choose x y) es h w e m = absurd h
      by_form (either xs) es h w e m =
          let r = of_map (λ (x : Term). (c, x)) xs e (subst (λ (zs : Parts). Contains zs e) (same_part es (map (λ x. (c, x)) xs) h) m) in
          let s = arms_same g k B C xs w.outcome r.0 r.1 in
          subst (λ (z : Context × Term). HasForm g d B z.1) r.2 (has_form (either xs) w r.0 r.1 s.0 s.1)
      by_form (some bs x) es (inl (all, h, i)) w e m =
          let r = of_map (λ (chosen : List Val). (bind c chosen, x)) all e (subst (λ (zs : Parts). Contains zs e) (same_part es (map (λ chosen. (bind c chosen, x)) all) i) m) in
          subst (λ (z : Context × Term). HasForm g d B z.1) r.2 (has_form (some bs x) w x (head_in x []) C (unless_ok (first_early (early g B k) (set_list bs)) (outcome_within g k x B) C w.outcome).1)
      by_form (some bs x) es (inr (f, h, i)) w e m = absurd (no_opening (one_of es) f i)
      by_form (branch q x y) es (inl (b, h, i)) w e m = only es (c, if b then x else y) i (of_branch q x y b w) e m
      by_form (branch q x y) es (inr (f, h, i)) w e m = absurd (no_opening (one_of es) f i)
      by_form (arms cs other) es (inl (x, h, i)) w e m =
          let n = among (TruthOf (Evaluates g.table d) c) (place_of a) cs other x h in
          let s = case_same g k (early g B k) B C cs other w.outcome x n in
          only es (c, x) i (has_form (arms cs other) w x n s.0 s.1) e m
      by_form (arms cs other) es (inr (f, h, i)) w e m = absurd (no_opening (one_of es) f i)
      by_form (inside x) es h w e m = only es (c, x) h (has_form (inside x) w x (head_in x []) C w.outcome) e m
      by_form (call j xs) es (inl (vs, h, (o, i, n))) w e m = only es (enter o vs c, o.body) n (of_call j xs o i w) e m
      by_form (call j xs) es (inr (f, h, i)) w e m = absurd (no_opening (one_of es) f i)
