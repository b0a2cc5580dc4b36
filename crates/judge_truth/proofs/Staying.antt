-- A fault from the set of all variables is one from a set from which the action has a form.
use Rattle.std.proofs.Common.{◌≡◌, ◌⊎◌, inl, inr, sym, ap, subst, ℕ, zero, suc, List, [], ◌∷◌, length, map}
use Rattle.std.specs.Prelude.{Any, true, false, Contains, Result, Ok, Err}
use Rattle.std.specs.List.{AllByRecursion}
use Rattle.states_core.specs.declared.fault.Fault.{Fault}
use Rattle.names_terms.specs.Terms.{Term, place_of}
use Rattle.eval_meanings.specs.Contexts.{Context, within}
use Rattle.eval_meanings.specs.Unchanged.{changed_of}
use Rattle.actions_meanings.specs.Forms.{Setting, Form, form, test, assign, choose, both, either, narrowed, some, branch, arms, inside, call, changing}
use Rattle.actions_meanings.specs.Reads.{VariableSet}
use Rattle.actions_meanings.specs.Outcomes.{Fixes, form_outcome, outcome_within}
use Rattle.actions_meanings.specs.Holds.{Holds, Opened, Opens, all_of, one_of}
use Rattle.actions_meanings.specs.Fails.{Fails, FormFails, OpenedFails, SomeFails}
use Rattle.actions_form_laws.specs.Growth.{FormsGrow}
use Rattle.steps_found_states.specs.Grounds.{FixesWithin, TuplesFix, form_parts}
use Rattle.steps_found_states.specs.Parts.{FixesAll, Parts}
use Rattle.steps_found_states.proofs.Changes.{changed_is_test}
use Rattle.steps_found_states.proofs.FormEnds.{parts_fix, tuples_fix_on}
use Rattle.steps_found_states.proofs.FormFixes.{changing_fixes, fixes_form, through_fixes}
use Rattle.steps_found_states.proofs.Lists.{any_of, of_any}
use Rattle.steps_walk_laws.proofs.Tuples.{orderly_tuples}
use Rattle.judge_truth.specs.Truths.{everything}
use Rattle.judge_truth.proofs.Stays.{all_stay}
use Rattle.judge_truth.specs.Faults.{FaultsStay}
use Rattle.judge_truth.proofs.Parts.{HasForm, one_has_form, parts_of}

true_false : true ≡ false → ⊥
true_false e = cc

-- of a test it is not asked what was fixed before
test_stays : (g : Setting) (d : ℕ) (B D : VariableSet) (c : Context) (a : Term) (f : Fault) → form g (length c.slots) a ≡ test → Fails g d B c a f → Fails g d D c a f
test_stays g zero B D c a f i h = h
test_stays g (suc d) B D c a f i h =
    subst (λ (x : Form). FormFails g d (Holds g d) (Fails g d) D c a x f) (sym i) (subst (λ (x : Form). FormFails g d (Holds g d) (Fails g d) B c a x f) i h)

abbrev Stay : Setting → ℕ → Type 0
Stay g d = (B C : VariableSet) (c : Context) (a : Term) (f : Fault) → TuplesFix g d a → Fixes g a B C → Fails g d everything c a f → Fails g d B c a f

module _ (grow : FormsGrow) (g : Setting) (d : ℕ) (ih : Stay g d) where
  abbrev AllFail : VariableSet → Parts → Fault → Type 0
  AllFail B es f = SomeFails g (Holds g d) (Fails g d) B es f

  -- of parts that must all hold
  some_stay : (B C : VariableSet) (es : Parts) (f : Fault) → AllByRecursion (λ (e : Context × Term). TuplesFix g d e.1) es → FixesAll g es B C → AllFail everything es f → AllFail B es f
  some_stay B C [] f t x h = absurd h
  some_stay B C (e ∷ es) f t x (inl h) = inl (ih B x.0 e.0 e.1 f t.0 x.1 h)
  some_stay B C (e ∷ es) f t x (inr h) =
      let rest = subst (λ (D : VariableSet). AllFail D es f) (all_stay grow g e.1 h.1.0 h.1.1) h.1.2 in
      inr (h.0, (x.0, x.1, some_stay x.0 C es f t.1 x.2 rest))

  -- of parts of which one must hold
  any_stays : (B : VariableSet) (es : Parts) (f : Fault) → ((e : Context × Term) → Contains es e → HasForm g d B e.1) → Any (λ e. Fails g d everything e.0 e.1 f) es → Any (λ e. Fails g d B e.0 e.1 f) es
  any_stays B es f k h =
      let r = of_any (λ (e : Context × Term). Fails g d everything e.0 e.1 f) es h in
      let w = k r.0 r.1 in
      any_of (λ (e : Context × Term). Fails g d B e.0 e.1 f) es r.0 r.1 (ih B w.1.0 r.0.0 r.0.1 f w.0 w.1.1 r.2)

  with_context : (c : Context) (xs : List Term) → AllByRecursion (TuplesFix g d) xs → AllByRecursion (λ (e : Context × Term). TuplesFix g d e.1) (map (λ e. (c, e)) xs)
  with_context c [] t = tt
  with_context c (x ∷ xs) t = (t.0, with_context c xs t.1)

  module _ (k : ℕ) (B C : VariableSet) (c : Context) (a : Term) (e : Fault) where
    abbrev OpensFails : VariableSet → Form → Type 0
    OpensFails D f = Opens g.table d c (place_of a) f (Err e) ⊎ ((o : Opened) × Opens g.table d c (place_of a) f (Ok o) × OpenedFails g (Holds g d) (Fails g d) D o e)

    abbrev FormFailsFrom : VariableSet → Form → Type 0
    FormFailsFrom D f = FormFails g d (Holds g d) (Fails g d) D c a f e

    -- a form that opens to one of its parts
    open_stays : (f : Form) → form_outcome g k (outcome_within g k) a B f ≡ Ok C → AllByRecursion (TuplesFix g d) (form_parts g (place_of a) f) → AllByRecursion (FixesWithin g k) (form_parts g (place_of a) f)
        → ((es : Parts) → Opens g.table d c (place_of a) f (Ok (all_of es)) → AllFail everything es e → AllFail B es e) → OpensFails everything f → OpensFails B f
    open_stays f o t x all (inl h) = inl h
    open_stays f o t x all (inr (all_of es, h, n)) = inr (all_of es, h, all es h n)
    open_stays f o t x all (inr (one_of es, h, n)) = inr (one_of es, h, any_stays B es e (one_has_form g d k B C c a f es h o t x) n)

    no_all : (es fs : Parts) → ◌≡◌ {A = Result Opened Fault} (Ok (all_of es)) (Ok (one_of fs)) → ⊥
    no_all es fs q = cc

    no_fault : (o : Opened) (f : Fault) → ◌≡◌ {A = Result Opened Fault} (Ok o) (Err f) → ⊥
    no_fault o f q = cc

    -- all of the parts, each with these slots
    all_of_stays : (b : Context) (xs : List Term) (es : Parts) → ◌≡◌ {A = Result Opened Fault} (Ok (all_of es)) (Ok (all_of (map (λ x. (b, x)) xs))) → AllByRecursion (TuplesFix g d) xs
        → FixesAll g (map (λ x. (b, x)) xs) B C → AllFail everything es e → AllFail B es e
    all_of_stays b xs es q t x h =
        let same : es ≡ map (λ x. (b, x)) xs = ap parts_of q in
        subst (λ (us : Parts). AllFail B us e) (sym same) (some_stay B C (map (λ x. (b, x)) xs) e (with_context b xs t) x (subst (λ (us : Parts). AllFail everything us e) same h))

    -- `<<A>>_v`
    changing_stays : (x v : Term) (es : Parts) → ◌≡◌ {A = Result Opened Fault} (Ok (all_of es)) (Ok (all_of ((c, x) ∷ (c, changed_of (place_of a) v) ∷ []))) → TuplesFix g d x → Fixes g x B C → AllFail everything es e → AllFail B es e
    changing_stays x v es q t w h =
        let both : Parts = (c, x) ∷ (c, changed_of (place_of a) v) ∷ [] in
        let same : es ≡ both = ap parts_of q in
        subst (λ (us : Parts). AllFail B us e) (sym same) (by_part (subst (λ (us : Parts). AllFail everything us e) same h))
      where
        by_part : AllFail everything ((c, x) ∷ (c, changed_of (place_of a) v) ∷ []) e → AllFail B ((c, x) ∷ (c, changed_of (place_of a) v) ∷ []) e
        by_part (inl m) = inl (ih B C c x e t w m)
        by_part (inr m) = inr (
          m.0,
          (
            C,
            w,
            elim m.1.2 [
              | inl y ↦ inl (test_stays g d m.1.0 C c (changed_of (place_of a) v) e (changed_is_test g (length c.slots) (place_of a) v) y)
              | inr y ↦ absurd y.1.2
            ],
          ),
        )

    form_stays : (f : Form) → form_outcome g k (outcome_within g k) a B f ≡ Ok C → AllByRecursion (TuplesFix g d) (form_parts g (place_of a) f) → AllByRecursion (FixesWithin g k) (form_parts g (place_of a) f)
        → FormFailsFrom everything f → FormFailsFrom B f
    form_stays test o t x h = h
    form_stays (assign y b) o t x h = h
    form_stays (choose y b) o t x (inl h) = inl h
    form_stays (choose y b) o t x (inr h) = absurd (true_false h.2)
    form_stays (both xs) o t x h = open_stays (both xs) o t x (λ es q n. all_of_stays c xs es q t (through_fixes g k c xs B C x o) n) h
    form_stays (narrowed n xs) o t x h = open_stays (narrowed n xs) o t x (λ es q m. all_of_stays (within n c) xs es q t (through_fixes g k (within n c) xs B C x o) m) h
    form_stays (changing y v) o t x h =
        open_stays (changing y v) o t x (λ es q n. changing_stays y v es q t.0 (x.0 B C (changing_fixes g k (outcome_within g k) a B C y v o)) n) h
    form_stays (either xs) o t x h = open_stays (either xs) o t x (λ es q n. absurd (no_all es _ q)) h
    form_stays (inside y) o t x h = open_stays (inside y) o t x (λ es q n. absurd (no_all es _ q)) h
    form_stays (some bs y) o t x h = open_stays (some bs y) o t x (λ es q n. elim q [ inl i ↦ absurd (no_all es _ i.2) | inr i ↦ absurd (no_fault (all_of es) i.0 i.2) ]) h
    form_stays (branch p y b) o t x h = open_stays (branch p y b) o t x (λ es q n. elim q [ inl i ↦ absurd (no_all es _ i.2) | inr i ↦ absurd (no_fault (all_of es) i.0 i.2) ]) h
    form_stays (arms cs other) o t x h = open_stays (arms cs other) o t x (λ es q n. elim q [ inl i ↦ absurd (no_all es _ i.2) | inr i ↦ absurd (no_fault (all_of es) i.0 i.2) ]) h
    form_stays (call j xs) o t x h = open_stays (call j xs) o t x (λ es q n. elim q [ inl i ↦ absurd (no_all es _ i.2.2) | inr i ↦ absurd (no_fault (all_of es) i.0 i.2) ]) h

stays : FormsGrow → (g : Setting) (d : ℕ) → Stay g d
stays grow g zero B C c a f t x h = h
stays grow g (suc d) B C c a f t x h =
    let r = fixes_form g (length c.slots) a B C x in
    form_stays grow g d (stays grow g d) r.0 B C c a f (form g (length c.slots) a) r.2 (tuples_fix_on g d (length c.slots) a t) (parts_fix g d (length c.slots) a t r.0 r.1) h

pub orderly_stay : FormsGrow → FaultsStay
orderly_stay grow g d n B C c a f o l x h = stays grow g d B C c a f (orderly_tuples g d n B C a o l x) x h
