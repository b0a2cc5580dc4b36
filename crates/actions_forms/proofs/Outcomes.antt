-- What a term leaves fixed does not depend on how many levels are allowed.
use Rattle.std.proofs.Common.{◌≡◌, ◌∙◌, inl, inr, ap, sym, refl, subst, List, [], ◌∷◌, map, length}
use Rattle.std.specs.Prelude.{ℕ, zero, suc, Bool, true, false, Option, Some, Result, Ok, Err, if◌then◌else◌, option_to_list, slice_get}
use Rattle.std.specs.List.{AllByRecursion as Each}
use Rattle.base_core.specs.declared.place.Place.{Place}
use Rattle.reading_trees.specs.declared.operators.PrefixOperator.TheVariants as prefix
use Rattle.reading_trees.specs.declared.operators.InfixOperator.{InfixOperator}
use Rattle.reading_trees.specs.declared.operators.InfixOperator.TheVariants as infix_operator
use Rattle.reading_trees.specs.declared.operators.Quantifier.TheVariants as quantifier
use Rattle.names_terms.specs.declared.level.Level.{Level}
use Rattle.names_terms.specs.declared.level.Level.TheVariants as levels
use Rattle.names_terms.specs.Lists.{terms_list, arms_list}
use Rattle.names_terms.specs.Terms as term
use Rattle.names_terms.specs.Terms.{Term, Placed, Meaning, Terms, Arms, place_of}
use Rattle.names_term_parts.specs.Parts.{set_list, arm_list}
use Rattle.names_term_parts.proofs.Contained.{contains_nothing}
use Rattle.eval_meanings.specs.Unchanged.{behind, unchanged_of}
use Rattle.actions_meanings.specs.declared.fault.FormFault.{FormFault}
use Rattle.actions_meanings.specs.Forms.{Setting, Form, form, is_taken, target, infix_form, unchanged_form, meaning_form, test, assign, choose, both, either, narrowed, some, branch, arms, inside, call, changing}
use Rattle.actions_meanings.specs.Reads.{VariableSet, Ends, body_of, terms_in, reads_primed, with_variable}
use Rattle.actions_meanings.specs.Outcomes.{FormOutcome, Arm, next, unless, least, outside, too_early, first_early, early, arm, through, arms_of, case_arms, together, form_outcome, outcome_within}
use Rattle.actions_early_reads.specs.Orderly.{IsSoundThroughout, itself}
use Rattle.actions_forms.specs.Laws.{HasOneFormOutcome, HasFormOutcome}
use Rattle.actions_early_reads.proofs.Each.{each-left, each-right, each-both, each-map, each-weaker}
use Rattle.actions_early_reads.proofs.Rows.{arms-hold}
use Rattle.actions_early_reads.proofs.Ends.{ends-in, ends-of, ends-behind, ends-items, unchange, behind-constant, orderly-of, orderly-terms, orderly-stays, orderly-behind}
use Rattle.actions_early_reads.proofs.Heights.{primed-same, height, some-height}
use Rattle.actions_early_reads.proofs.Early.{not_constant, action-taken, if-taken, firsts-same, IsStill, still-items, early-still, early-same}

pub next-same : {A B : Type 0} (r s : Result A FormFault) (go on : A → Result B FormFault) → r ≡ s → ((x : A) → go x ≡ on x) → next r go ≡ next s on
next-same {A} {B} r s go on q h = ap (λ (z : Result A FormFault). next z go) q ∙ inside s
  where
    inside : (z : Result A FormFault) → next z go ≡ next z on
    inside (Ok x) = h x
    inside (Err f) = refl

pub unless-same : {A : Type 0} (o p : Option FormFault) (r s : Result A FormFault) → o ≡ p → r ≡ s → unless o r ≡ unless p s
unless-same o p r s q e = ap (λ (z : Option FormFault). unless z r) q ∙ ap (unless p) e

pub form-of : (g : Setting) (n : ℕ) (at : Place) (l : Level) (m : Meaning) → is_taken g.which l ≡ true → form g n (Placed at l m) ≡ meaning_form g n at m
form-of g n at l m t = if-taken (is_taken g.which l) (meaning_form g n at m) test t

-- CONSTANT TERMS

through-still : (part : Term → VariableSet → FormOutcome) (es : List Term) (B : VariableSet) → Each (λ e. (D : VariableSet) → part e D ≡ Ok D) es → through part es B ≡ Ok B
through-still part [] B h = refl
through-still part (e ∷ es) B h = rw (h.0 B) (through-still part es B h.1)

outcome_row : (g : Setting) (k : ℕ) (at p : Place) (m : Meaning) (B : VariableSet) → ((e : Term) (D : VariableSet) → IsStill g e → outcome_within g k (unchanged_of at e) D ≡ Ok D) → IsSoundThroughout g.table g.variables (Placed p levels.Constant m) → form_outcome g k (outcome_within g k) (unchanged_of at (Placed p levels.Constant m)) B (unchanged_form at (zero, Placed p levels.Constant m)) ≡ Ok B
outcome_row g k at p (term.Variable x) B ih o = absurd (o (Placed p levels.Constant (term.Variable x)) (itself (Placed p levels.Constant (term.Variable x)))).0
outcome_row g k at p (term.Tuple ts) B ih o =
    through-still (outcome_within g k) (map (unchanged_of at) (terms_list ts)) B (each-map (λ e. (D : VariableSet) → outcome_within g k e D ≡ Ok D) (unchanged_of at) (terms_list ts) (each-weaker (IsStill g) (λ e. (D : VariableSet) → outcome_within g k (unchanged_of at e) D ≡ Ok D) (λ e s D. ih e D s) (terms_list ts) (still-items g p ts o)))
outcome_row g k at p m B ih o = ap (λ (z : Option FormFault). unless z (Ok B)) (early-still g B (suc k) at (Placed p levels.Constant m) (refl, o))

pub outcome-still : (g : Setting) (k : ℕ) (at : Place) (e : Term) (B : VariableSet) → IsStill g e → outcome_within g k (unchanged_of at e) B ≡ Ok B
outcome-still g zero at e B h = refl
outcome-still g (suc k) at (Placed p l m) B h =
    let q : l ≡ levels.Constant = h.0 in
    let o : IsSoundThroughout g.table g.variables (Placed p levels.Constant m) = subst (λ (z : Level). IsSoundThroughout g.table g.variables (Placed p z m)) q h.1 in
    let found : form g zero (unchanged_of at (Placed p levels.Constant m)) ≡ unchanged_form at (zero, Placed p levels.Constant m) =
    form-of g zero at levels.Action (term.Prefix prefix.Unchanged (Placed p levels.Constant m)) (action-taken g.which) ∙ ap (unchanged_form at) (behind-constant g.table (length g.table) zero p m) in
    let here : outcome_within g (suc k) (unchanged_of at (Placed p levels.Constant m)) B ≡ Ok B =
    ap (form_outcome g k (outcome_within g k) (unchanged_of at (Placed p levels.Constant m)) B) found ∙ outcome_row g k at p m B (outcome-still g k at) o in
    subst (λ (z : Level). outcome_within g (suc k) (unchanged_of at (Placed p z m)) B ≡ Ok B) (sym q) here

-- THE SAME AT ALL NUMBERS THAT SUFFICE

abbrev pub OutcomeSame : Setting → ℕ → ℕ → Type 0
OutcomeSame g k j = (e : Term) (B : VariableSet) → IsSoundThroughout g.table g.variables e → Ends g.table k e → Ends g.table j e → outcome_within g k e B ≡ outcome_within g j e B

module _ (g : Setting) (k j : ℕ) where
  abbrev pub OutcomeAt : Term → Type 0
  OutcomeAt e = (B : VariableSet) → outcome_within g k e B ≡ outcome_within g j e B

  abbrev pub EarlyAt : Term → Type 0
  EarlyAt e = (B : VariableSet) → early g B k e ≡ early g B j e

  abbrev pub FormSame : Form → Type 0
  FormSame test = Unit {0}
  FormSame (assign x e) = EarlyAt e
  FormSame (choose x e) = EarlyAt e
  FormSame (both es) = Each OutcomeAt es
  FormSame (narrowed m es) = Each OutcomeAt es
  FormSame (either es) = Each OutcomeAt es
  FormSame (some bs e) = Each EarlyAt (set_list bs) × OutcomeAt e
  FormSame (branch p e f) = EarlyAt p × OutcomeAt e × OutcomeAt f
  FormSame (arms cs other) = Each (λ (c : Term × Term). EarlyAt c.0 × OutcomeAt c.1) cs × Each OutcomeAt (option_to_list other)
  FormSame (inside e) = OutcomeAt e
  FormSame (call i es) = Each EarlyAt es × Each OutcomeAt (body_of (slice_get g.table i))
  FormSame (changing e v) = OutcomeAt e × (reads_primed g.table k v term.NoSteps ≡ reads_primed g.table j v term.NoSteps)

  through-same : (es : List Term) (B : VariableSet) → Each OutcomeAt es → through (outcome_within g k) es B ≡ through (outcome_within g j) es B
  through-same [] B h = refl
  through-same (e ∷ es) B h = next-same (outcome_within g k e B) (outcome_within g j e B) (through (outcome_within g k) es) (through (outcome_within g j) es) (h.0 B) (λ D. through-same es D h.1)

  arms-same : (B : VariableSet) (es : List Term) → Each OutcomeAt es → arms_of (outcome_within g k) B es ≡ arms_of (outcome_within g j) B es
  arms-same B [] h = refl
  arms-same B (e ∷ es) h =
      next-same (outcome_within g k e B) (outcome_within g j e B) (λ C. next (arms_of (outcome_within g k) B es) (λ cs. Ok (arm e C ∷ cs))) (λ C. next (arms_of (outcome_within g j) B es) (λ cs. Ok (arm e C ∷ cs))) (h.0 B) (λ C. ap (λ (z : Result (List Arm) FormFault). next z (λ cs. Ok (arm e C ∷ cs))) (arms-same B es h.1))

  case-same : (B : VariableSet) (cs : List (Term × Term)) (other : Option Term) → Each (λ (c : Term × Term). EarlyAt c.0 × OutcomeAt c.1) cs → Each OutcomeAt (option_to_list other) → case_arms (early g B k) (outcome_within g k) B cs other ≡ case_arms (early g B j) (outcome_within g j) B cs other
  case-same B [] other h o = arms-same B (option_to_list other) o
  case-same B (c ∷ cs) other h o =
      unless-same (early g B k c.0) (early g B j c.0) (next (outcome_within g k c.1 B) (λ C. next (case_arms (early g B k) (outcome_within g k) B cs other) (λ arms. Ok (arm c.1 C ∷ arms)))) (next (outcome_within g j c.1 B) (λ C. next (case_arms (early g B j) (outcome_within g j) B cs other) (λ arms. Ok (arm c.1 C ∷ arms)))) (h.0.0 B)
      (next-same (outcome_within g k c.1 B) (outcome_within g j c.1 B) (λ C. next (case_arms (early g B k) (outcome_within g k) B cs other) (λ arms. Ok (arm c.1 C ∷ arms))) (λ C. next (case_arms (early g B j) (outcome_within g j) B cs other) (λ arms. Ok (arm c.1 C ∷ arms))) (h.0.1 B) (λ C. ap (λ (z : Result (List Arm) FormFault). next z (λ arms. Ok (arm c.1 C ∷ arms))) (case-same B cs other h.1 o)))

  form-same : (f : Form) (a : Term) (B : VariableSet) → early g B (suc k) a ≡ early g B (suc j) a → FormSame f → form_outcome g k (outcome_within g k) a B f ≡ form_outcome g j (outcome_within g j) a B f
  form-same test a B q h = ap (λ (z : Option FormFault). unless z (Ok B)) q
  form-same (assign x e) a B q h = ap (λ (z : Option FormFault). unless z (Ok (with_variable B x))) (h B)
  form-same (choose x e) a B q h = ap (λ (z : Option FormFault). unless z (Ok (with_variable B x))) (h B)
  form-same (both es) a B q h = through-same es B h
  form-same (narrowed m es) a B q h = through-same es B h
  form-same (either es) a B q h = ap (λ (z : Result (List Arm) FormFault). next z (together g.variables B)) (arms-same B es h)
  form-same (some bs e) a B q h = unless-same (first_early (early g B k) (set_list bs)) (first_early (early g B j) (set_list bs)) (outcome_within g k e B) (outcome_within g j e B) (firsts-same (early g B k) (early g B j) (set_list bs) (each-weaker EarlyAt (λ e. early g B k e ≡ early g B j e) (λ e x. x B) (set_list bs) h.0)) (h.1 B)
  form-same (branch p e f) a B q h =
      unless-same (early g B k p) (early g B j p) (next (arms_of (outcome_within g k) B (e ∷ f ∷ [])) (together g.variables B)) (next (arms_of (outcome_within g j) B (e ∷ f ∷ [])) (together g.variables B)) (h.0 B) (ap (λ (z : Result (List Arm) FormFault). next z (together g.variables B)) (arms-same B (e ∷ f ∷ []) (h.1, (h.2, tt))))
  form-same (arms cs other) a B q h = ap (λ (z : Result (List Arm) FormFault). next z (together g.variables B)) (case-same B cs other h.0 h.1)
  form-same (inside e) a B q h = h B
  form-same (call i es) a B q h =
      unless-same (first_early (early g B k) es) (first_early (early g B j) es) (through (outcome_within g k) (body_of (slice_get g.table i)) B) (through (outcome_within g j) (body_of (slice_get g.table i)) B) (firsts-same (early g B k) (early g B j) es (each-weaker EarlyAt (λ e. early g B k e ≡ early g B j e) (λ e x. x B) es h.0)) (through-same (body_of (slice_get g.table i)) B h.1)
  form-same (changing e v) a B q h =
      next-same (outcome_within g k e B) (outcome_within g j e B) (λ C. unless (too_early (place_of a) (least g.variables (outside C (reads_primed g.table k v term.NoSteps)))) (Ok C)) (λ C. unless (too_early (place_of a) (least g.variables (outside C (reads_primed g.table j v term.NoSteps)))) (Ok C)) (h.0 B) (λ C. ap (λ (R : VariableSet). unless (too_early (place_of a) (least g.variables (outside C R))) (Ok C)) h.1)

  module _ (ih : OutcomeSame g k j) where
    abbrev Ready : Term → Type 0
    Ready e = IsSoundThroughout g.table g.variables e × Ends g.table k e × Ends g.table j e

    outcome-at : (e : Term) → Ready e → OutcomeAt e
    outcome-at e r B = ih e B r.0 r.1 r.2

    early-at : (e : Term) → Ready e → EarlyAt e
    early-at e r B = early-same g B k j e r.0 r.1 r.2

    outcomes-at : (es : List Term) → Each Ready es → Each OutcomeAt es
    outcomes-at es h = each-weaker Ready OutcomeAt outcome-at es h

    earlies-at : (es : List Term) → Each Ready es → Each EarlyAt es
    earlies-at es h = each-weaker Ready EarlyAt early-at es h

    infix-good : (o : InfixOperator) (x : Option ℕ) (e : Term) → Ready e → FormSame (infix_form o x e)
    infix-good infix_operator.Equal (Some x) e h = early-at e h
    infix-good infix_operator.Member (Some x) e h = early-at e h
    infix-good o x e h = tt

    variable-ready : (i : ℕ) (at p : Place) (l : Level) (x : ℕ) → Ends g.table i (Placed p l (term.Variable x)) → Ends g.table i (Placed at levels.State (term.Variable x))
    variable-ready zero at p l x h = absurd h
    variable-ready (suc i) at p l x h = ends-of g.table i at levels.State (term.Variable x) tt

    unchanged-good : (at : Place) (found : ℕ × Term) → IsSoundThroughout g.table g.variables found.1 → Ends g.table k found.1 → Ends g.table j found.1 → FormSame (unchanged_form at found)
    unchanged-good at (m, Placed p l (term.Variable x)) o h t =
        let own : IsSoundThroughout g.table g.variables (Placed at levels.State (term.Variable x)) = orderly-of g.table g.variables (Placed at levels.State (term.Variable x)) (tt, (o (Placed p l (term.Variable x)) (itself (Placed p l (term.Variable x)))).1) (λ q c. absurd (contains_nothing q c)) (λ i ts r e s. absurd (cc)) in
        early-at (Placed at levels.State (term.Variable x)) (own, variable-ready k at p l x h, variable-ready j at p l x t)
    unchanged-good at (m, Placed p l (term.Tuple ts)) o h t = elim (ends-items g.table k at p l ts h) [
      | inl q ↦ constant q
      | inr hs ↦ elim (ends-items g.table j at p l ts t) [
        | inl q ↦ constant q
        | inr us ↦ each-map OutcomeAt (unchanged_of at) (terms_list ts)
            (each-both (λ e. IsSoundThroughout g.table g.variables e × Ends g.table k (unchanged_of at e)) (λ e. Ends g.table j (unchanged_of at e)) (λ e. OutcomeAt (unchanged_of at e)) (λ e x y. outcome-at (unchanged_of at e) (orderly-stays g.table g.variables at e x.0, x.1, y)) (terms_list ts)
            (each-both (IsSoundThroughout g.table g.variables) (λ e. Ends g.table k (unchanged_of at e)) (λ e. IsSoundThroughout g.table g.variables e × Ends g.table k (unchanged_of at e)) (λ e x y. (x, y)) (terms_list ts) (orderly-terms g.table g.variables p l (term.Tuple ts) o) hs) us)
      ]
    ]
      where
        constant : l ≡ levels.Constant → Each OutcomeAt (map (unchanged_of at) (terms_list ts))
        constant q =
            each-map OutcomeAt (unchanged_of at) (terms_list ts) (each-weaker (IsStill g) (λ e. OutcomeAt (unchanged_of at e)) (λ e s B. outcome-still g k at e B s ∙ sym (outcome-still g j at e B s)) (terms_list ts) (still-items g p ts (subst (λ (z : Level). IsSoundThroughout g.table g.variables (Placed p z (term.Tuple ts))) q o)))
    unchanged-good at (m, f) o h t = tt

    case-good : (cs : Arms) → Each Ready (arm_list cs) → Each (λ (c : Term × Term). EarlyAt c.0 × OutcomeAt c.1) (arms_list cs)
    case-good cs h = each-weaker (λ (c : Term × Term). Ready c.0 × Ready c.1) (λ (c : Term × Term). EarlyAt c.0 × OutcomeAt c.1) (λ c r. (early-at c.0 r.0, outcome-at c.1 r.1)) (arms_list cs) (arms-hold Ready cs h)

    meaning-good : (at : Place) (m : Meaning) → Each Ready (terms_in g.table at m) → FormSame (meaning_form g zero at m)
    meaning-good at (term.All ts) h = outcomes-at (terms_list ts) h
    meaning-good at (term.Any ts) h = outcomes-at (terms_list ts) h
    meaning-good at (term.Quantified quantifier.Exists bs e) h =
        let last : Each Ready (e ∷ []) = each-right Ready (set_list bs) (e ∷ []) h in
        (earlies-at (set_list bs) (each-left Ready (set_list bs) (e ∷ []) h), outcome-at e last.0)
    meaning-good at (term.If p e f) h = (early-at p h.0, outcome-at e h.1.0, outcome-at f h.1.1.0)
    meaning-good at (term.Case cs) h = (case-good cs h, tt)
    meaning-good at (term.CaseOther cs e) h =
        let last : Each Ready (e ∷ []) = each-right Ready (arm_list cs) (e ∷ []) h in
        (case-good cs (each-left Ready (arm_list cs) (e ∷ []) h), (outcome-at e last.0, tt))
    meaning-good at (term.Scoped ks e) h = outcome-at e h.0
    meaning-good at (term.Parenthesized e) h = outcome-at e h.0
    meaning-good at (term.Use i ts) h = (earlies-at (terms_list ts) (each-left Ready (terms_list ts) (body_of (slice_get g.table i)) h), outcomes-at (body_of (slice_get g.table i)) (each-right Ready (terms_list ts) (body_of (slice_get g.table i)) h))
    meaning-good at (term.BoxAction e v) h = outcomes-at (e ∷ unchanged_of at v ∷ []) h
    meaning-good at (term.AngleAction e v) h = (outcome-at e h.0, primed-same g.table k j v term.NoSteps (unchange g.table k at v h.1.0.1) (unchange g.table j at v h.1.0.2) tt tt)
    meaning-good at (term.Prefix prefix.Unchanged e) h =
        unchanged-good at (behind g.table (length g.table) zero e) (orderly-behind g.table g.variables (length g.table) zero e h.0.0) (ends-behind g.table k (length g.table) zero e h.0.1) (ends-behind g.table j (length g.table) zero e h.0.2)
    meaning-good at (term.Infix o (term.First e) f) h = infix-good o (target g.which e) f h.1.0
    meaning-good at m h = tt

    form-good : (b : Bool) (at : Place) (l : Level) (m : Meaning) → is_taken g.which l ≡ b → IsSoundThroughout g.table g.variables (Placed at l m) → Ends g.table (suc k) (Placed at l m) → Ends g.table (suc j) (Placed at l m) → FormSame (if b then meaning_form g zero at m else test)
    form-good false at l m q o h t = tt
    form-good true at l m q o h t = elim (ends-in g.table k at l m h) [
      | inl c ↦ absurd (not_constant g.which l q c)
      | inr hs ↦ elim (ends-in g.table j at l m t) [
        | inl c ↦ absurd (not_constant g.which l q c)
        | inr us ↦ meaning-good at m (each-both (λ e. IsSoundThroughout g.table g.variables e × Ends g.table k e) (Ends g.table j) Ready (λ e x y. (x.0, x.1, y)) (terms_in g.table at m)
            (each-both (IsSoundThroughout g.table g.variables) (Ends g.table k) (λ e. IsSoundThroughout g.table g.variables e × Ends g.table k e) (λ e x y. (x, y)) (terms_in g.table at m) (orderly-terms g.table g.variables at l m o) hs) us)
      ]
    ]

    whole-outcome : (at : Place) (l : Level) (m : Meaning) (B : VariableSet) → IsSoundThroughout g.table g.variables (Placed at l m) → Ends g.table (suc k) (Placed at l m) → Ends g.table (suc j) (Placed at l m) → outcome_within g (suc k) (Placed at l m) B ≡ outcome_within g (suc j) (Placed at l m) B
    whole-outcome at l m B o h t = form-same (form g zero (Placed at l m)) (Placed at l m) B (early-same g B (suc k) (suc j) (Placed at l m) o h t) (form-good (is_taken g.which l) at l m refl o h t)

pub outcome-same : (g : Setting) (k j : ℕ) → OutcomeSame g k j
outcome-same g zero j e B o h t = absurd h
outcome-same g (suc k) zero e B o h t = absurd t
outcome-same g (suc k) (suc j) (Placed at l m) B o h t = whole-outcome g k j (outcome-same g k j) at l m B o h t

pub one-form-outcome : HasOneFormOutcome
one-form-outcome g a B r q o h t = sym h.2 ∙ outcome-same g h.0 t.0 a B o h.1 t.1 ∙ t.2

pub form-outcome : HasFormOutcome
form-outcome g a B smaller below =
    let k : ℕ = height g.table (length g.table) a in
    (outcome_within g k a B, (k, some-height g.table smaller (length g.table) a below, refl))
