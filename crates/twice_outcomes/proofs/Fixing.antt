-- What alike actions leave fixed is the same, and so is what is wrong with their form.
use Rattle.std.proofs.Common.{◌≡◌, ◌∙◌, ap, ap₂, refl, sym, List, [], ◌∷◌}
use Rattle.std.specs.Prelude.{ℕ, zero, suc, not, Option, Result, Ok, option_to_list, slice_get}
use Rattle.std.specs.List.{AllZip}
use Rattle.base_core.specs.declared.place.Place.{Place}
use Rattle.names_terms.specs.Terms as term
use Rattle.names_terms.specs.Terms.{Term, place_of}
use Rattle.names_term_parts.specs.Parts.{set_list}
use Rattle.eval_meanings.specs.Contexts.{Table}
use Rattle.actions_meanings.specs.declared.fault.FormFault.{FormFault}
use Rattle.actions_meanings.specs.declared.which.Which.{Which}
use Rattle.actions_meanings.specs.Forms.{Setting, Form, form}
use Rattle.actions_meanings.specs.Outcomes.{Arm, FormOutcome, IsOutcome, IsWholeOutcome, arm, arms_of, case_arms, early, first_early, form_outcome, least, next, not_fixed, outcome_within, outside, through, together, too_early, unless, wholly}
use Rattle.actions_meanings.specs.Reads.{VariableSet, body_of, reads_primed, with_variable}
use Rattle.twice_terms.specs.Alike.{Alike, no_steps_alike}
use Rattle.twice_terms.specs.Laws.{AreOne}
use Rattle.twice_terms.proofs.Inverted.{same_place}
use Rattle.twice_outcomes.specs.Alikes.{AreAlikeLists, AreAlikeArms}
use Rattle.twice_outcomes.proofs.Ending.{ends_alike}
use Rattle.twice_outcomes.proofs.Forms.{FoundAlike, AlikeOther, no_other, with_other, AlikeForms, test_forms, assign_forms, choose_forms, both_forms, either_forms, narrowed_forms, some_forms, branch_forms, arms_forms, inside_forms, call_forms, changing_forms, forms_alike}
use Rattle.twice_outcomes.proofs.Lists.{sets_zip, body_zip}
use Rattle.twice_outcomes.proofs.Timely.{Faults, FaultsSame, early_same, first_same, least_same}

next_same : {A B : Type 0} (r s : Result A FormFault) (go to : A → Result B FormFault) → r ≡ s → ((x : A) → go x ≡ to x) → next r go ≡ next s to
next_same {A = A} {B = B} r s go to e same = ap₂ (λ (t : Result A FormFault) (f : A → Result B FormFault). next t f) e (λ i x. same x i)

abbrev Outcomes : Type 0
Outcomes = Term → VariableSet → FormOutcome

-- said of alike terms it is the same
abbrev OutcomesSame : Table → Table → Outcomes → Outcomes → Type 0
OutcomesSame ops all pa pb = (e f : Term) → Alike AreOne ops all e f → (B : VariableSet) → pa e B ≡ pb f B

module _ (ops all : Table) (pa pb : Outcomes) (same : OutcomesSame ops all pa pb) where
  through_same : (es fs : List Term) → AreAlikeLists ops all es fs → (B : VariableSet) → through pa es B ≡ through pb fs B
  through_same [] [] z B = refl
  through_same [] (f ∷ fs) z B = absurd z
  through_same (e ∷ es) [] z B = absurd z
  through_same (e ∷ es) (f ∷ fs) z B = next_same (pa e B) (pb f B) (through pa es) (through pb fs) (same e f z.0 B) (through_same es fs z.1)

  arm_same : (e f : Term) → Alike AreOne ops all e f → (C : VariableSet) → arm e C ≡ arm f C
  arm_same e f a C = ap (λ (at : Place). let c : Arm = record { at = at; set = C } in c) (same_place AreOne ops all e f a)

  -- one arm before others
  abbrev before : Term → Result (List Arm) FormFault → VariableSet → Result (List Arm) FormFault
  before e rest C = next rest (λ cs. Ok (arm e C ∷ cs))

  before_same : (e f : Term) → Alike AreOne ops all e f → (r s : Result (List Arm) FormFault) → r ≡ s → (C : VariableSet) → before e r C ≡ before f s C
  before_same e f a r s q C =
      next_same r s (λ cs. Ok (arm e C ∷ cs)) (λ cs. Ok (arm f C ∷ cs)) q (λ cs. ap (λ (c : Arm). let x : Result (List Arm) FormFault = Ok (c ∷ cs) in x) (arm_same e f a C))

  arms_same : (B : VariableSet) (es fs : List Term) → AreAlikeLists ops all es fs → arms_of pa B es ≡ arms_of pb B fs
  arms_same B [] [] z = refl
  arms_same B [] (f ∷ fs) z = absurd z
  arms_same B (e ∷ es) [] z = absurd z
  arms_same B (e ∷ es) (f ∷ fs) z =
      next_same (pa e B) (pb f B) (before e (arms_of pa B es)) (before f (arms_of pb B fs)) (same e f z.0 B)
      (before_same e f z.0 (arms_of pa B es) (arms_of pb B fs) (arms_same B es fs z.1))

  other_zip : (e f : Option Term) → AlikeOther ops all e f → AreAlikeLists ops all (option_to_list e) (option_to_list f)
  other_zip _ _ no_other = tt
  other_zip _ _ (with_other e f a) = (a, tt)

  case_same : (ua ub : Faults) → FaultsSame ops all ua ub → (B : VariableSet) (ps qs : List (Term × Term)) (e f : Option Term) → AllZip (AreAlikeArms ops all) ps qs → AlikeOther ops all e f
      → case_arms ua pa B ps e ≡ case_arms ub pb B qs f
  case_same ua ub unread B [] [] e f z o = arms_same B (option_to_list e) (option_to_list f) (other_zip e f o)
  case_same ua ub unread B [] (q ∷ qs) e f z o = absurd z
  case_same ua ub unread B (p ∷ ps) [] e f z o = absurd z
  case_same ua ub unread B (p ∷ ps) (q ∷ qs) e f z o =
      ap₂ unless (unread p.0 q.0 z.0.0)
      (next_same (pa p.1 B) (pb q.1 B) (before p.1 (case_arms ua pa B ps e)) (before q.1 (case_arms ub pb B qs f)) (same p.1 q.1 z.0.1 B)
      (before_same p.1 q.1 z.0.1 (case_arms ua pa B ps e) (case_arms ub pb B qs f) (case_same ua ub unread B ps qs e f z.1 o)))

module _ (w : Which) (v : ℕ) (ops all : Table) (found : FoundAlike ops all) where
  abbrev here : Setting
  here = record { which = w; variables = v; table = ops }

  abbrev there : Setting
  there = record { which = w; variables = v; table = all }

  -- the set after a change, unless what changes is read too early
  abbrev changed_after : Table → ℕ → Term → Term → VariableSet → FormOutcome
  changed_after table k a e C = unless (too_early (place_of a) (least v (outside C (reads_primed table k e term.NoSteps)))) (Ok C)

  changed_same : (k : ℕ) (a b e f : Term) → Alike AreOne ops all a b → Alike AreOne ops all e f → (C : VariableSet) → changed_after ops k a e C ≡ changed_after all k b f C
  changed_same k a b e f ab ef C =
      ap₂ (λ (at : Place) (x : Option ℕ). let r : FormOutcome = unless (too_early at x) (Ok C) in r) (same_place AreOne ops all a b ab)
      (least_same w v ops all found C k e f term.NoSteps term.NoSteps ef no_steps_alike)

  module _ (k : ℕ) (pa pb : Outcomes) (same : OutcomesSame ops all pa pb) where
    unread : (B : VariableSet) (j : ℕ) (e f : Term) → Alike AreOne ops all e f → (r s : FormOutcome) → r ≡ s → unless (early here B j e) r ≡ unless (early there B j f) s
    unread B j e f a r s q = ap₂ unless (early_same w v ops all found B j e f a) q

    all_unread : (B : VariableSet) (es fs : List Term) → AreAlikeLists ops all es fs → (r s : FormOutcome) → r ≡ s
        → unless (first_early (early here B k) es) r ≡ unless (first_early (early there B k) fs) s
    all_unread B es fs z r s q = ap₂ unless (first_same ops all (early here B k) (early there B k) (early_same w v ops all found B k) es fs z) q

    together_same : (B : VariableSet) (r s : Result (List Arm) FormFault) → r ≡ s → next r (together v B) ≡ next s (together v B)
    together_same B r s q = ap (λ (t : Result (List Arm) FormFault). next t (together v B)) q

    form_same : (a b : Term) → Alike AreOne ops all a b → (B : VariableSet) (F G : Form) → AlikeForms ops all F G → form_outcome here k pa a B F ≡ form_outcome there k pb b B G
    form_same a b ab B _ _ test_forms = unread B (suc k) a b ab (Ok B) (Ok B) refl
    form_same a b ab B _ _ (assign_forms x e f ef) = unread B k e f ef (Ok (with_variable B x)) (Ok (with_variable B x)) refl
    form_same a b ab B _ _ (choose_forms x e f ef) = unread B k e f ef (Ok (with_variable B x)) (Ok (with_variable B x)) refl
    form_same a b ab B _ _ (both_forms es fs z) = through_same ops all pa pb same es fs z B
    form_same a b ab B _ _ (either_forms es fs z) = together_same B (arms_of pa B es) (arms_of pb B fs) (arms_same ops all pa pb same B es fs z)
    form_same a b ab B _ _ (narrowed_forms n es fs z) = through_same ops all pa pb same es fs z B
    form_same a b ab B _ _ (some_forms bs cs e f t ef) = all_unread B (set_list bs) (set_list cs) (sets_zip ops all bs cs t) (pa e B) (pb f B) (same e f ef B)
    form_same a b ab B _ _ (branch_forms p q s t e f x y z) =
        unread B k p q x (next (arms_of pa B (s ∷ e ∷ [])) (together v B)) (next (arms_of pb B (t ∷ f ∷ [])) (together v B))
        (together_same B (arms_of pa B (s ∷ e ∷ [])) (arms_of pb B (t ∷ f ∷ [])) (arms_same ops all pa pb same B (s ∷ e ∷ []) (t ∷ f ∷ []) (y, (z, tt))))
    form_same a b ab B _ _ (arms_forms ps qs e f z o) =
        together_same B (case_arms (early here B k) pa B ps e) (case_arms (early there B k) pb B qs f)
        (case_same ops all pa pb same (early here B k) (early there B k) (early_same w v ops all found B k) B ps qs e f z o)
    form_same a b ab B _ _ (inside_forms e f ef) = same e f ef B
    form_same a b ab B _ _ (call_forms i j es fs r z) =
        all_unread B es fs z (through pa (body_of (slice_get ops i)) B) (through pb (body_of (slice_get all j)) B)
        (through_same ops all pa pb same (body_of (slice_get ops i)) (body_of (slice_get all j)) (body_zip ops all i j r) B)
    form_same a b ab B _ _ (changing_forms e f s t ef st) =
        next_same (pa e B) (pb f B) (changed_after ops k a s) (changed_after all k b t) (same e f ef B) (changed_same k a b s t ab st)

  pub within_same : (k : ℕ) (a b : Term) → Alike AreOne ops all a b → (B : VariableSet) → outcome_within here k a B ≡ outcome_within there k b B
  within_same zero a b ab B = refl
  within_same (suc k) a b ab B =
      form_same k (outcome_within here k) (outcome_within there k) (within_same k) a b ab B (form here zero a) (form there zero b) (forms_alike w v ops all found zero a b ab)

  pub outcome_alike : (a b : Term) → Alike AreOne ops all a b → (B : VariableSet) (r : FormOutcome) → IsOutcome here a B r → IsOutcome there b B r
  outcome_alike a b ab B r h = (h.0, ends_alike ops all h.0 a b ab h.1, sym (within_same h.0 a b ab B) ∙ h.2)

  whole_same : (a b : Term) → Alike AreOne ops all a b → (o : FormOutcome) → wholly v a o ≡ wholly v b o
  whole_same a b ab o =
      next_same o o (λ C. unless (not_fixed (place_of a) (least v (λ x. not (C x)))) (Ok C)) (λ C. unless (not_fixed (place_of b) (least v (λ x. not (C x)))) (Ok C)) refl
      (λ C. ap (λ (at : Place). let r : FormOutcome = unless (not_fixed at (least v (λ x. not (C x)))) (Ok C) in r) (same_place AreOne ops all a b ab))

  pub whole_alike : (a b : Term) → Alike AreOne ops all a b → (B : VariableSet) (r : FormOutcome) → IsWholeOutcome here a B r → IsWholeOutcome there b B r
  whole_alike a b ab B r h = (h.0, outcome_alike a b ab B h.0 h.1, sym (whole_same a b ab h.0) ∙ h.2)
