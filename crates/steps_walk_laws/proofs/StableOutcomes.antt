-- What a term leaves fixed is the same for each number of levels that it is high at most, and for each number of slots.
use Rattle.std.proofs.Common.{◌≡◌, ◌∙◌, sym, refl, subst, ap, inl, inr, List, [], ◌∷◌}
use Rattle.std.specs.Prelude.{◌⊎◌, ◌+◌, ℕ, zero, suc, min, Bool, true, false, map, Option, Some, None, Result, Ok, if◌then◌else◌, length, option_to_list, slice_get}
use Rattle.std.specs.List.{AllByRecursion}
use Rattle.base_core.specs.declared.place.Place.{Place}
use Rattle.reading_trees.specs.declared.operators.PrefixOperator.TheVariants as prefix
use Rattle.reading_trees.specs.declared.operators.Quantifier.TheVariants as quantifier
use Rattle.names_terms.specs.declared.level.Level.{Level}
use Rattle.names_terms.specs.declared.level.Level.TheVariants as levels
use Rattle.names_terms.specs.declared.operator.Operator.{Operator}
use Rattle.names_terms.specs.Lists.{terms_list}
use Rattle.names_terms.specs.Terms as term
use Rattle.names_terms.specs.Terms.{Term, Placed, Meaning, level_of, place_of, width}
use Rattle.names_term_parts.specs.Limits.{is_above}
use Rattle.names_term_parts.specs.Parts.{set_list}
use Rattle.eval_meanings.specs.Unchanged.{behind, unchanged_of}
use Rattle.actions_meanings.specs.declared.fault.FormFault.{FormFault}
use Rattle.actions_meanings.specs.Forms.{Setting, Form, form, is_taken, meaning_form, unchanged_form, test, assign, choose, both, either, narrowed, some, branch, arms, inside, call, changing}
use Rattle.actions_meanings.specs.Outcomes.{Arm, FormOutcome, Fixes, arm, arms_of, case_arms, early, first_early, form_outcome, next, outcome_within, through, together, too_early, unless}
use Rattle.actions_meanings.specs.Reads.{VariableSet, body_of, with_variable}
use Rattle.steps_walk_laws.proofs.FormTerms.{Fact, FormTerms, IsMadeStill, OtherIs, form_terms}
use Rattle.steps_walk_laws.proofs.Rows.{Rows, Bodies}
use Rattle.steps_walk_laws.proofs.Stable.{IsStill, behind_constant, constant_early, early_same, first_same, no_variable, still_items, unfixed_same}
use Rattle.steps_walk_laws.proofs.TermsOfParts.{Each}

abbrev Part : Type 0
Part = Term → VariableSet → FormOutcome

next_same : {A B : Type 0} (r q : Result A FormFault) (f h : A → Result B FormFault) → r ≡ q → ((x : A) → f x ≡ h x) → next r f ≡ next q h
next_same {A} {B} r q f h e s =
    let all : ◌≡◌ {A = A → Result B FormFault} f h = λ i x. s x i in
    ap (λ (u : Result A FormFault). next u f) e ∙ ap (λ (k : A → Result B FormFault). next q k) all

unless_same : {A : Type 0} (o u : Option FormFault) (r q : Result A FormFault) → o ≡ u → r ≡ q → unless o r ≡ unless u q
unless_same {A} o u r q e s = ap (λ (x : Option FormFault). unless x r) e ∙ ap (λ (y : Result A FormFault). unless u y) s

abbrev SameOf : Part → Part → Term → Type 0
SameOf f h e = (B : VariableSet) → f e B ≡ h e B

through_same : (f h : Part) (es : List Term) → Each (SameOf f h) es → (B : VariableSet) → through f es B ≡ through h es B
through_same f h [] s B = refl
through_same f h (e ∷ es) s B = next_same (f e B) (h e B) (through f es) (through h es) (s.0 B) (through_same f h es s.1)

arms_same : (f h : Part) (B : VariableSet) (es : List Term) → Each (SameOf f h) es → arms_of f B es ≡ arms_of h B es
arms_same f h B [] s = refl
arms_same f h B (e ∷ es) s =
    next_same (f e B) (h e B) _ _ (s.0 B) (λ C. next_same (arms_of f B es) (arms_of h B es) (λ cs. Ok (arm e C ∷ cs)) (λ cs. Ok (arm e C ∷ cs)) (arms_same f h B es s.1) (λ cs. refl))

cases_same : (u v : Term → Option FormFault) (f h : Part) (B : VariableSet) (cs : List (Term × Term)) (other : Option Term)
    → AllByRecursion (λ c. (u c.0 ≡ v c.0) × SameOf f h c.1) cs → Each (SameOf f h) (option_to_list other) → case_arms u f B cs other ≡ case_arms v h B cs other
cases_same u v f h B [] other s t = arms_same f h B (option_to_list other) t
cases_same u v f h B (c ∷ cs) other s t =
    unless_same (u c.0) (v c.0) _ _ s.0.0 (next_same (f c.1 B) (h c.1 B) _ _ (s.0.1 B)
    (λ C. next_same (case_arms u f B cs other) (case_arms v h B cs other) (λ rest. Ok (arm c.1 C ∷ rest)) (λ rest. Ok (arm c.1 C ∷ rest)) (cases_same u v f h B cs other s.1 t) (λ rest. refl)))

-- the number of slots

module _ (g : Setting) where
  behind_same : (i m n : ℕ) (e : Term) → (behind g.table i m e).1 ≡ (behind g.table i n e).1
  behind_same zero m n e = refl
  behind_same (suc i) m n (Placed at levels.State (term.Use j term.NoTerms)) = by_use (slice_get g.table j) (λ o. behind_same i (min o.outer m) (min o.outer n) o.body)
    where
      by_use : (found : Option Operator) → ((o : Operator) → (behind g.table i (min o.outer m) o.body).1 ≡ (behind g.table i (min o.outer n) o.body).1)
          → (elim found as (λ x. ℕ × Term) [ None ↦ (m, Placed at levels.State (term.Use j term.NoTerms)) | Some o ↦ behind g.table i (min o.outer m) o.body ]).1
          ≡ (elim found as (λ x. ℕ × Term) [ None ↦ (n, Placed at levels.State (term.Use j term.NoTerms)) | Some o ↦ behind g.table i (min o.outer n) o.body ]).1
      by_use None f = refl
      by_use (Some o) f = f o
  behind_same (suc i) m n e = refl

  abbrev Outcome : ℕ → Term → VariableSet → Form → FormOutcome
  Outcome k a B f = form_outcome g k (outcome_within g k) a B f

  unchanged_slots : (k : ℕ) (a : Term) (B : VariableSet) (at : Place) (m n : ℕ) (f : Term) → Outcome k a B (unchanged_form at (m, f)) ≡ Outcome k a B (unchanged_form at (n, f))
  unchanged_slots k a B at m n (Placed p l (term.Variable x)) = refl
  unchanged_slots k a B at m n (Placed p l (term.Tuple ts)) = refl
  unchanged_slots k a B at m n f = refl

  meaning_slots : (k n : ℕ) (a : Term) (B : VariableSet) (at : Place) (m : Meaning) → Outcome k a B (meaning_form g zero at m) ≡ Outcome k a B (meaning_form g n at m)
  meaning_slots k n a B at (term.Prefix prefix.Unchanged e) =
      unchanged_slots k a B at (behind g.table (length g.table) zero e).0 (behind g.table (length g.table) n e).0 (behind g.table (length g.table) zero e).1
      ∙ ap (λ (f : Term). Outcome k a B (unchanged_form at ((behind g.table (length g.table) n e).0, f))) (behind_same (length g.table) zero n e)
  meaning_slots k n a B at (term.Quantified quantifier.Exists bs e) = refl
  meaning_slots k n a B at (term.Infix o (term.First e) x) = refl
  meaning_slots k n a B at m = refl

  if_slots : (k : ℕ) (a : Term) (B : VariableSet) (t : Bool) (f h : Form) → Outcome k a B f ≡ Outcome k a B h → Outcome k a B (if t then f else test) ≡ Outcome k a B (if t then h else test)
  if_slots k a B true f h s = s
  if_slots k a B false f h s = refl

  pub form_slots : (k n : ℕ) (a e : Term) (B : VariableSet) → form_outcome g k (outcome_within g k) a B (form g zero e) ≡ form_outcome g k (outcome_within g k) a B (form g n e)
  form_slots k n a (Placed at l m) B = if_slots k a B (is_taken g.which l) (meaning_form g zero at m) (meaning_form g n at m) (meaning_slots k n a B at m)

module _ (g : Setting) (Q : ℕ → Type 0) (bodies : Bodies g.variables g.table Q) where
  abbrev Run : ℕ → Part
  Run k = outcome_within g k

  abbrev Made : ℕ → Term → VariableSet → Form → FormOutcome
  Made k a B f = form_outcome g k (outcome_within g k) a B f

  -- UNCHANGED of a constant leaves fixed what was

  still_through : (k : ℕ) (at : Place) (B : VariableSet) → ((e : Term) → IsStill g Q bodies e → outcome_within g k (unchanged_of at e) B ≡ Ok B) → (es : List Term) → Each (IsStill g Q bodies) es
      → through (outcome_within g k) (map (unchanged_of at) es) B ≡ Ok B
  still_through k at B ih [] h = refl
  still_through k at B ih (e ∷ es) h = ap (λ (r : FormOutcome). next r (through (outcome_within g k) (map (unchanged_of at) es))) (ih e h.0) ∙ still_through k at B ih es h.1

  still_test : (k : ℕ) (at : Place) (B : VariableSet) (e : Term) → IsStill g Q bodies e → Made k (unchanged_of at e) B test ≡ Ok B
  still_test k at B e h = ap (λ (o : Option FormFault). unless {A = VariableSet} o (Ok B)) (constant_early g Q bodies B (suc k) at e h)

  still_found : (k : ℕ) (at : Place) (B : VariableSet) (e f : Term) → IsStill g Q bodies e → IsStill g Q bodies f → ((es : List Term) → Each (IsStill g Q bodies) es → through (outcome_within g k) (map (unchanged_of at) es) B ≡ Ok B) → (m : ℕ)
      → Made k (unchanged_of at e) B (unchanged_form at (m, f)) ≡ Ok B
  still_found k at B e (Placed p l (term.Variable x)) h w rest m = absurd (no_variable g Q bodies l w.0.1.0.0.2 w.1)
  still_found k at B e (Placed p l (term.Tuple ts)) h w rest m = rest (terms_list ts) (still_items g Q bodies w.0.0 p l ts w.0.1 w.1)
  still_found k at B e f h w rest m = still_test k at B e h

  if_both : (k : ℕ) (a : Term) (B : VariableSet) (r : FormOutcome) (t : Bool) (f : Form) → Made k a B f ≡ r → Made k a B test ≡ r → Made k a B (if t then f else test) ≡ r
  if_both k a B r true f h w = h
  if_both k a B r false f h w = w

  pub still_outcome : (k : ℕ) (at : Place) (e : Term) (B : VariableSet) → IsStill g Q bodies e → outcome_within g k (unchanged_of at e) B ≡ Ok B
  still_outcome zero at e B h = refl
  still_outcome (suc k) at e B h =
      if_both k (unchanged_of at e) B (Ok B) (is_taken g.which levels.Action) (unchanged_form at (behind g.table (length g.table) zero e))
      (subst (λ (f : Term). Made k (unchanged_of at e) B (unchanged_form at ((behind g.table (length g.table) zero e).0, f)) ≡ Ok B) (sym (behind_constant g Q bodies (length g.table) zero e h.1))
      (still_found k at B e e h h (still_through k at B (λ x t. still_outcome k at x B t)) (behind g.table (length g.table) zero e).0))
      (still_test k at B e h)

  module _ (L : Level) where
    abbrev Is : ℕ → ℕ → Term → Type 0
    Is k n e = Fact g Q bodies L k n e

    abbrev Outcomes : ℕ → Type 0
    Outcomes k = (j n : ℕ) (a : Term) (B : VariableSet) → Is k n a → Is j n a → outcome_within g k a B ≡ outcome_within g j a B

    pub early_here : (B : VariableSet) (k j n : ℕ) (e : Term) → Is k n e → Is j n e → early g B k e ≡ early g B j e
    early_here B k j n e f h = early_same g Q bodies B k j e (n, f.0) f.2 h.2

    each_early : (B : VariableSet) (k j n : ℕ) (es : List Term) → Each (Is k n) es → Each (Is j n) es → Each (λ e. early g B k e ≡ early g B j e) es
    each_early B k j n [] f h = tt
    each_early B k j n (e ∷ es) f h = (early_here B k j n e f.0 h.0, each_early B k j n es f.1 h.1)

    all_early : (B : VariableSet) (k j n : ℕ) (es : List Term) → Each (Is k n) es → Each (Is j n) es → first_early (early g B k) es ≡ first_early (early g B j) es
    all_early B k j n es f h = first_same (early g B k) (early g B j) es (each_early B k j n es f h)

    each_run : (k : ℕ) → Outcomes k → (j n : ℕ) (es : List Term) → Each (Is k n) es → Each (Is j n) es → Each (SameOf (Run k) (Run j)) es
    each_run k ih j n [] f h = tt
    each_run k ih j n (e ∷ es) f h = (λ B. ih j n e B f.0 h.0, each_run k ih j n es f.1 h.1)

    still_run : (k j n : ℕ) (e : Term) → IsMadeStill g Q bodies L n e → SameOf (Run k) (Run j) e
    still_run k j n e s B =
        let still : IsStill g Q bodies s.1 = ((n, s.3), s.4) in
        subst (λ (x : Term). outcome_within g k x B ≡ outcome_within g j x B) (sym s.2) (still_outcome k s.0 s.1 B still ∙ sym (still_outcome j s.0 s.1 B still))

    some_run : (k : ℕ) → Outcomes k → (j n : ℕ) (e : Term) → Is k n e ⊎ IsMadeStill g Q bodies L n e → Is j n e ⊎ IsMadeStill g Q bodies L n e → SameOf (Run k) (Run j) e
    some_run k ih j n e (inr s) h = still_run k j n e s
    some_run k ih j n e (inl f) (inr s) = still_run k j n e s
    some_run k ih j n e (inl f) (inl h) = λ B. ih j n e B f h

    each_some_run : (k : ℕ) → Outcomes k → (j n : ℕ) (es : List Term) → Each (λ e. Is k n e ⊎ IsMadeStill g Q bodies L n e) es → Each (λ e. Is j n e ⊎ IsMadeStill g Q bodies L n e) es → Each (SameOf (Run k) (Run j)) es
    each_some_run k ih j n [] f h = tt
    each_some_run k ih j n (e ∷ es) f h = (some_run k ih j n e f.0 h.0, each_some_run k ih j n es f.1 h.1)

    each_case : (B : VariableSet) (k : ℕ) → Outcomes k → (j n : ℕ) (cs : List (Term × Term)) → AllByRecursion (λ c. Is k n c.0 × Is k n c.1) cs → AllByRecursion (λ c. Is j n c.0 × Is j n c.1) cs
        → AllByRecursion (λ c. (early g B k c.0 ≡ early g B j c.0) × SameOf (Run k) (Run j) c.1) cs
    each_case B k ih j n [] f h = tt
    each_case B k ih j n (c ∷ cs) f h = ((early_here B k j n c.0 f.0.0 h.0.0, λ C. ih j n c.1 C f.0.1 h.0.1), each_case B k ih j n cs f.1 h.1)

    other_run : (k : ℕ) → Outcomes k → (j n : ℕ) (other : Option Term) → OtherIs g Q bodies L k n other → OtherIs g Q bodies L j n other → Each (SameOf (Run k) (Run j)) (option_to_list other)
    other_run k ih j n None f h = tt
    other_run k ih j n (Some e) f h = (λ B. ih j n e B f h, tt)

    same_some : (o u : Operator) → Some o ≡ Some u → o ≡ u
    same_some o u e = cc

    form_same : (k : ℕ) → Outcomes k → (j n : ℕ) (a : Term) (B : VariableSet) (f : Form) → Is (suc k) n a → Is (suc j) n a → FormTerms g Q bodies L k n f → FormTerms g Q bodies L j n f → Made k a B f ≡ Made j a B f
    form_same k ih j n a B test u w f h = ap (λ (o : Option FormFault). unless {A = VariableSet} o (Ok B)) (early_here B (suc k) (suc j) n a u w)
    form_same k ih j n a B (assign x e) u w f h = ap (λ (o : Option FormFault). unless {A = VariableSet} o (Ok (with_variable B x))) (early_here B k j n e f.1 h.1)
    form_same k ih j n a B (choose x e) u w f h = ap (λ (o : Option FormFault). unless {A = VariableSet} o (Ok (with_variable B x))) (early_here B k j n e f.1 h.1)
    form_same k ih j n a B (both es) u w f h = through_same (Run k) (Run j) es (each_run k ih j n es f h) B
    form_same k ih j n a B (narrowed m es) u w f h = through_same (Run k) (Run j) es (each_some_run k ih j m es f.1 h.1) B
    form_same k ih j n a B (either es) u w f h = ap (λ (r : Result (List Arm) FormFault). next r (together g.variables B)) (arms_same (Run k) (Run j) B es (each_run k ih j n es f h))
    form_same k ih j n a B (some bs e) u w f h = unless_same _ _ _ _ (all_early B k j n (set_list bs) f.1 h.1) (ih j (n + width bs) e B f.2 h.2)
    form_same k ih j n a B (branch p e r) u w f h =
        unless_same (early g B k p) (early g B j p) _ _ (early_here B k j n p f.0 h.0)
        (ap (λ (r : Result (List Arm) FormFault). next r (together g.variables B)) (arms_same (Run k) (Run j) B (e ∷ r ∷ []) (each_run k ih j n (e ∷ r ∷ []) (f.1, (f.2, tt)) (h.1, (h.2, tt)))))
    form_same k ih j n a B (arms cs other) u w f h =
        ap (λ (r : Result (List Arm) FormFault). next r (together g.variables B))
        (cases_same (early g B k) (early g B j) (Run k) (Run j) B cs other (each_case B k ih j n cs f.0 h.0) (other_run k ih j n other f.1 h.1))
    form_same k ih j n a B (inside e) u w f h = ih j n e B f h
    form_same k ih j n a B (call i es) u w f h =
        let s : f.0 ≡ h.0 = same_some f.0 h.0 (sym f.1 ∙ h.1) in
        let last : Is j (f.0.outer + f.0.params) f.0.body = subst (λ (o : Operator). Is j (o.outer + o.params) o.body) (sym s) h.5 in
        let body : Each (SameOf (Run k) (Run j)) (body_of (slice_get g.table i)) = subst (λ (r : Option Operator). Each (SameOf (Run k) (Run j)) (body_of r)) (sym f.1) (λ C. ih j (f.0.outer + f.0.params) f.0.body C f.5 last, tt) in
        unless_same _ _ _ _ (all_early B k j n es f.4 h.4) (through_same (Run k) (Run j) (body_of (slice_get g.table i)) body B)
    form_same k ih j n a B (changing e v) u w f h =
        next_same (outcome_within g k e B) (outcome_within g j e B) _ _ (ih j n e B f.0 h.0)
        (λ C. ap (λ (o : Option ℕ). unless {A = VariableSet} (too_early (place_of a) o) (Ok C)) (unfixed_same g Q bodies C k j v term.NoSteps f.3 h.3 tt tt))

    pub outcome_same : (k : ℕ) → Outcomes k
    outcome_same zero j n a B u w = absurd (u.2)
    outcome_same (suc k) zero n a B u w = absurd (w.2)
    outcome_same (suc k) (suc j) n a B u w =
        form_slots g k n a a B ∙ form_same k (outcome_same k) j n a B (form g n a) u w (form_terms g Q bodies L k n a u) (form_terms g Q bodies L j n a w) ∙ sym (form_slots g j n a a B)

    same_set : (C D : VariableSet) → ◌≡◌ {A = FormOutcome} (Ok C) (Ok D) → C ≡ D
    same_set C D e = cc

    pub one_set : (n : ℕ) (a : Term) (B C D : VariableSet) → Rows g.variables g.table Q n a → is_above (level_of a) L ≡ false → Fixes g a B C → Fixes g a B D → C ≡ D
    one_set n a B C D here low (k, e, q) (j, w, r) = same_set C D (sym q ∙ outcome_same k j n a B (here, low, e) (here, low, w) ∙ r)
