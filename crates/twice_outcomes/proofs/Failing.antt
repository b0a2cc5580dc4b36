-- The faults that an action has it has over an alike table.
use Rattle.std.proofs.Common.{◌≡◌, ◌∙◌, ap, subst, inl, inr, List, [], ◌∷◌}
use Rattle.std.specs.Prelude.{◌⊎◌, ℕ, zero, suc, false, length, Ok, Err}
use Rattle.std.specs.List.{AllZip}
use Rattle.base_core.specs.declared.place.Place.{Place}
use Rattle.values_core.specs.declared.fault.EvalKind.TheVariants.{Nested}
use Rattle.states_core.specs.declared.fault.Fault.{Fault}
use Rattle.names_terms.specs.Terms.{Term, place_of}
use Rattle.values_sets.specs.DescribedSets.{Described}
use Rattle.eval_meanings.specs.Contexts.{Context, Table}
use Rattle.eval_meanings.specs.Evaluates.{Evaluates, Describes}
use Rattle.eval_meanings.specs.Outcomes.{fault}
use Rattle.eval_meanings.specs.Sets.{MeansSet, list_at}
use Rattle.actions_meanings.specs.declared.which.Which.{Which}
use Rattle.actions_meanings.specs.Fails.{Failing, SomeFails, OpenedFails, FormFails, Fails}
use Rattle.actions_meanings.specs.Forms.{Setting, Form, form, both, either, narrowed, some, branch, arms, inside, call, changing}
use Rattle.actions_meanings.specs.Holds.{Opened, Opens, Holds}
use Rattle.actions_meanings.specs.Reads.{VariableSet}
use Rattle.twice_terms.specs.Alike.{Alike}
use Rattle.twice_terms.specs.Laws.{AreOne}
use Rattle.twice_terms.proofs.Inverted.{same_place}
use Rattle.twice_outcomes.proofs.Fixing.{outcome_alike}
use Rattle.twice_outcomes.proofs.Forms.{AlikeForms, test_forms, assign_forms, choose_forms, both_forms, either_forms, narrowed_forms, some_forms, branch_forms, arms_forms, inside_forms, call_forms, changing_forms, forms_alike}
use Rattle.twice_outcomes.proofs.Holding.{EvaluationAlike, holds_alike}
use Rattle.twice_outcomes.proofs.Opened.{AlikeInside, AlikeOpened, all_opened, one_opened, inside_holds, opens_alike, set_alike, truth_alike}
use Rattle.twice_outcomes.proofs.ActionsZipping.{any_zipped}

module _ (w : Which) (v : ℕ) (ops all : Table) (same : EvaluationAlike ops all) where
  abbrev here : Setting
  here = record { which = w; variables = v; table = ops }

  abbrev there : Setting
  there = record { which = w; variables = v; table = all }

  -- what faults here faults there
  abbrev Faulting : Failing → Failing → Type 0
  Faulting part whole = (B : VariableSet) (c : Context) (e f : Term) (x : Fault) → Alike AreOne ops all e f → part B c e x → whole B c f x

  module _ (d : ℕ) (part whole : Failing) (step : Faulting part whole) where
    inside_fails : (B : VariableSet) (x : Fault) (p q : Context × Term) → AlikeInside ops all p q → part B p.0 p.1 x → whole B q.0 q.1 x
    inside_fails B x p q a h = subst (λ (c : Context). whole B c q.1 x) a.contexts (step B p.0 p.1 q.1 x a.terms h)

    some_fails : (B : VariableSet) (xs ys : List (Context × Term)) (x : Fault) → AllZip (AlikeInside ops all) xs ys
        → SomeFails here (Holds here d) part B xs x → SomeFails there (Holds there d) whole B ys x
    some_fails B [] [] x z h = absurd h
    some_fails B [] (q ∷ qs) x z h = absurd z
    some_fails B (p ∷ ps) [] x z h = absurd z
    some_fails B (p ∷ ps) (q ∷ qs) x z (inl h) = inl (inside_fails B x p q z.0 h)
    some_fails B (p ∷ ps) (q ∷ qs) x z (inr h) =
        inr (
          inside_holds ops all (Holds here d) (Holds there d) (holds_alike w v ops all same d) p q z.0 h.0,
          (h.1.0, outcome_alike w v ops all same.behind p.1 q.1 z.0.terms B (Ok h.1.0) h.1.1, some_fails h.1.0 ps qs x z.1 h.1.2),
        )

    opened_fails : (B : VariableSet) (x : Fault) (o q : Opened) → AlikeOpened ops all o q
        → OpenedFails here (Holds here d) part B o x → OpenedFails there (Holds there d) whole B q x
    opened_fails B x _ _ (all_opened xs ys z) h = some_fails B xs ys x z h
    opened_fails B x _ _ (one_opened xs ys z) h = any_zipped (AlikeInside ops all) (λ p. part B p.0 p.1 x) (λ q. whole B q.0 q.1 x) (inside_fails B x) xs ys z h

    -- what fails of a form that opens
    abbrev OpensOrFails : Setting → Failing → VariableSet → Context → Term → Form → Fault → Type 0
    OpensOrFails g failing B c a F x =
        Opens g.table d c (place_of a) F (Err x) ⊎ ((o : Opened) × Opens g.table d c (place_of a) F (Ok o) × OpenedFails g (Holds g d) failing B o x)

    parts_fail : (B : VariableSet) (c : Context) (a b : Term) (F G : Form) (x : Fault) → Alike AreOne ops all a b → AlikeForms ops all F G
        → OpensOrFails here part B c a F x → OpensOrFails there whole B c b G x
    parts_fail B c a b F G x al fg (inl h) =
        inl (subst (λ (at : Place). Opens all d c at G (Err x)) (same_place AreOne ops all a b al) ((opens_alike ops all d (same.evaluates d) c (place_of a) F G fg).fault x h))
    parts_fail B c a b F G x al fg (inr h) =
        let q : (y : Opened) × AlikeOpened ops all h.0 y × Opens all d c (place_of a) G (Ok y) = (opens_alike ops all d (same.evaluates d) c (place_of a) F G fg).value h.0 h.1 in
        inr (q.0, subst (λ (at : Place). Opens all d c at G (Ok q.0)) (same_place AreOne ops all a b al) q.2, opened_fails B x h.0 q.0 q.1 h.2)

    -- what fails of a choice
    abbrev SetFails : Table → VariableSet → Context → ℕ → Term → Fault → Type 0
    SetFails table B c x e y =
        MeansSet (Describes table d) c e (Err y) ⊎ ((S : Described) × MeansSet (Describes table d) c e (Ok S) × (B x ≡ false) × list_at (place_of e) S (Err y))

    set_fails : (B : VariableSet) (c : Context) (x : ℕ) (e f : Term) (y : Fault) → Alike AreOne ops all e f → SetFails ops B c x e y → SetFails all B c x f y
    set_fails B c x e f y ef (inl h) = inl (set_alike ops all (Describes ops d) (Describes all d) (same.describes d) c e f ef (Err y) h)
    set_fails B c x e f y ef (inr h) =
        inr (
          h.0,
          set_alike ops all (Describes ops d) (Describes all d) (same.describes d) c e f ef (Ok h.0) h.1,
          h.2,
          subst (λ (at : Place). list_at at h.0 (Err y)) (same_place AreOne ops all e f ef) h.3,
        )

    form_fails : (B : VariableSet) (c : Context) (a b : Term) (F G : Form) (x : Fault) → Alike AreOne ops all a b → AlikeForms ops all F G
        → FormFails here d (Holds here d) part B c a F x → FormFails there d (Holds there d) whole B c b G x
    form_fails B c a b _ _ x al test_forms h = truth_alike ops all (Evaluates ops (suc d)) (Evaluates all (suc d)) (same.evaluates (suc d)) c a b al (Err x) h
    form_fails B c a b _ _ x al (assign_forms y e f ef) h = same.evaluates d c e f ef (Err x) h
    form_fails B c a b _ _ x al (choose_forms y e f ef) h = set_fails B c y e f x ef h
    form_fails B c a b _ _ x al (both_forms es fs z) h = parts_fail B c a b (both es) (both fs) x al (both_forms es fs z) h
    form_fails B c a b _ _ x al (either_forms es fs z) h = parts_fail B c a b (either es) (either fs) x al (either_forms es fs z) h
    form_fails B c a b _ _ x al (narrowed_forms n es fs z) h = parts_fail B c a b (narrowed n es) (narrowed n fs) x al (narrowed_forms n es fs z) h
    form_fails B c a b _ _ x al (some_forms bs cs e f t ef) h = parts_fail B c a b (some bs e) (some cs f) x al (some_forms bs cs e f t ef) h
    form_fails B c a b _ _ x al (branch_forms p q s t e f i j k) h = parts_fail B c a b (branch p s e) (branch q t f) x al (branch_forms p q s t e f i j k) h
    form_fails B c a b _ _ x al (arms_forms ps qs e f z o) h = parts_fail B c a b (arms ps e) (arms qs f) x al (arms_forms ps qs e f z o) h
    form_fails B c a b _ _ x al (inside_forms e f ef) h = parts_fail B c a b (inside e) (inside f) x al (inside_forms e f ef) h
    form_fails B c a b _ _ x al (call_forms k j es fs r z) h = parts_fail B c a b (call k es) (call j fs) x al (call_forms k j es fs r z) h
    form_fails B c a b _ _ x al (changing_forms e f s t ef st) h = parts_fail B c a b (changing e s) (changing f t) x al (changing_forms e f s t ef st) h

  pub fails_alike : (d : ℕ) (B : VariableSet) (c : Context) (a b : Term) (x : Fault) → Alike AreOne ops all a b → Fails here d B c a x → Fails there d B c b x
  fails_alike zero B c a b x al h = h ∙ ap (fault Nested) (same_place AreOne ops all a b al)
  fails_alike (suc d) B c a b x al h =
      form_fails d (Fails here d) (Fails there d) (fails_alike d) B c a b (form here (length c.slots) a) (form there (length c.slots) b) x al
      (forms_alike w v ops all same.behind (length c.slots) a b al) h
