-- `<<A>>_v`: A is decided, and where it holds it is tested that v changes.
use Rattle.std.proofs.Common.{◌≡◌, ◌⊎◌, inl, inr, refl, sym, ap, subst, ℕ, zero, suc, List, [], ◌∷◌, length, map}
use Rattle.std.specs.Prelude.{Bool, true, false, Some, Result, Ok, Err}
use Rattle.std.specs.List.{AllByRecursion}
use Rattle.states_core.specs.States.{Values}
use Rattle.states_core.specs.declared.fault.Fault.{Fault}
use Rattle.names_terms.specs.Terms.{Term, place_of}
use Rattle.eval_meanings.specs.declared.fault.EvalFault.{EvalFault}
use Rattle.eval_meanings.specs.declared.fault.EvalFault.TheVariants.{Refused, NoMemory}
use Rattle.eval_meanings.specs.Answers.{Tells}
use Rattle.eval_meanings.specs.Contexts.{Context, Places}
use Rattle.eval_meanings.specs.Evaluates.{Evaluates}
use Rattle.eval_meanings.specs.Laws.{KnowsValues, ReadsValues}
use Rattle.eval_meanings.specs.Outcomes.{fault}
use Rattle.eval_meanings.specs.Unchanged.{TruthOf, changed_of}
use Rattle.eval_meanings.specs.Reads.{Reads}
use Rattle.actions_meanings.specs.Forms.{Form, Setting, changing, form, test}
use Rattle.actions_meanings.specs.Reads.{VariableSet}
use Rattle.actions_meanings.specs.Outcomes.{Fixes}
use Rattle.actions_meanings.specs.Holds.{FormHolds, Holds, Opened, OpenedHolds, all_of, one_of}
use Rattle.actions_meanings.specs.Fails.{Fails, FormFails, OpenedFails, SomeFails}
use Rattle.actions_form_laws.specs.Growth.{FormsGrow}
use Rattle.actions_meanings.specs.Filled.{Completes, at_next}
use Rattle.actions_meanings.specs.Walkable.{FormWalks, Walkable}
use Rattle.steps_found_states.specs.Walks.{FailsOf, HoldsOf}
use Rattle.steps_found_states.proofs.Changes.{changed_is_test, changing_grounds, changing_left}
use Rattle.steps_found_states.proofs.Finding.{within_itself}
use Rattle.steps_found_states.proofs.FormParts.{form_knows}
use Rattle.steps_found_states.proofs.Lists.{all_by_place, place_by_all}
use Rattle.steps_found_states.proofs.Openings.{FormKnows}
use Rattle.steps_found_states.proofs.Opened.{failed_form, form_failed, form_held, held_form}
use Rattle.steps_found_states.proofs.Placed.{holds_values, reads_values}
use Rattle.judge_truth.specs.Truths.{everything}
use Rattle.judge_truth.specs.Deciding.{Grounded, IsDecided}
use Rattle.judge_truth.proofs.Answering.{answered_so}
use Rattle.judge_truth.proofs.Opening.{form_walks}
use Rattle.judge_truth.proofs.Simple.{tested}
use Rattle.judge_truth.proofs.Stays.{all_stay}

abbrev parts_of : Result Opened Fault → List (Context × Term)
parts_of (Ok (all_of es)) = es
parts_of r = []

no_opening : (f : Fault) (o : Opened) → ◌≡◌ {A = Result Opened Fault} (Err f) (Ok o) → ⊥
no_opening f o e = cc

test_reads : (g : Setting) (d : ℕ) (B : VariableSet) (p : Places) (c : Context) (a : Term) → form g (length c.slots) a ≡ test → Walkable g d B p c a → Reads g.table d (at_next g.which c p) a
test_reads g zero B p c a i w = tt
test_reads g (suc d) B p c a i w = subst (λ (f : Form). FormWalks g d (Walkable g d) B p c a f) i w.1

module _ (grow : FormsGrow) (g : Setting) (d : ℕ) (p : Places) (c : Context) (a e v : Term) (i : changing e v ≡ form g (length c.slots) a) where
  abbrev there : Values → Context
  there t = at_next g.which c (map Some t)

  abbrev ch : Term
  ch = changed_of (place_of a) v

  pub angled_grounds : Grounded g (suc d) p c a → Grounded g d p c e
  angled_grounds gr = changing_grounds g d [] everything p c a gr e v (sym i)

  -- A leaves all variables fixed
  angled_fixes : Grounded g (suc d) p c a → Fixes g e everything everything
  angled_fixes gr =
      let left : (C : VariableSet) × Fixes g e everything C = changing_left g d [] everything p c a gr e v (sym i) in
      subst (λ (C : VariableSet). Fixes g e everything C) (all_stay grow g e left.0 left.1) left.1

  pub angled_reads : Grounded g (suc d) p c a → Reads g.table d (at_next g.which c p) ch
  angled_reads gr =
      let w = form_walks g d p c a (changing e v) i gr in
      test_reads g d everything p c ch (changed_is_test g (length c.slots) (place_of a) v) (w.1 everything p (angled_fixes gr) refl (within_itself p) gr.fills).0

  known : (t : Values) → Completes p t → Grounded g (suc d) p c a → KnowsValues e × KnowsValues v
  known t k gr = let w = gr.reads t k in subst FormKnows (sym i) (form_knows g w.definitions (length c.slots) a w.known)

  changed_values : (t : Values) → Completes p t → Grounded g (suc d) p c a → ReadsValues g.table (there t) ch
  changed_values t k gr =
      let r = gr.reads t k in
      let y = (known t k gr).1 in
      reads_values g.table (there t) ch r.definitions (holds_values g.table (there t) a r) (tt, ((tt, (y, tt, tt)), y))

  -- that it holds, and its faults, in the words of A and of the test

  abbrev both_at : Values → List (Context × Term)
  both_at t = (there t, e) ∷ (there t, ch) ∷ []

  changing_held : (t : Values) → HoldsOf g d c e t × HoldsOf g d c ch t → HoldsOf g (suc d) c a t
  changing_held t h = form_held g d c (map Some t) a (subst (λ (f : Form). FormHolds g d (Holds g d) (there t) a f) i
      (all_of (both_at t), refl, all_by_place (λ x. Holds g d x.0 x.1) (both_at t) (h.0, (h.1, tt))))

  held_changing : (t : Values) → HoldsOf g (suc d) c a t → HoldsOf g d c e t × HoldsOf g d c ch t
  held_changing t h =
      let r = subst (λ (f : Form). FormHolds g d (Holds g d) (there t) a f) (sym i) (held_form g d c (map Some t) a h) in
      by_opening r.0 r.1 r.2
    where
      by_opening : (o : Opened) → ◌≡◌ {A = Result Opened Fault} (Ok o) (Ok (all_of (both_at t))) → OpenedHolds (Holds g d) o → HoldsOf g d c e t × HoldsOf g d c ch t
      by_opening (all_of es) s k =
          let m : AllByRecursion (λ (x : Context × Term). Holds g d x.0 x.1) (both_at t) = subst (λ (xs : List (Context × Term)). AllByRecursion (λ (x : Context × Term). Holds g d x.0 x.1) xs) (ap parts_of s) (place_by_all (λ x. Holds g d x.0 x.1) es k) in
          (m.0, m.1.0)
      by_opening (one_of es) s k = absurd (cc)

  abbrev EitherFails : Values → Fault → Type 0
  EitherFails t f = FailsOf g d everything c e t f ⊎ (HoldsOf g d c e t × FailsOf g d everything c ch t f)

  changing_failed : (t : Values) (f : Fault) → FailsOf g (suc d) everything c a t f → EitherFails t f
  changing_failed t f h = by_form (subst (λ (y : Form). FormFails g d (Holds g d) (Fails g d) everything (there t) a y f) (sym i) (failed_form g d everything c (map Some t) a f h))
    where
      in_parts : SomeFails g (Holds g d) (Fails g d) everything (both_at t) f → EitherFails t f
      in_parts (inl k) = inl k
      in_parts (inr k) = inr (k.0, subst (λ (C : VariableSet). FailsOf g d C c ch t f) (all_stay grow g e k.1.0 k.1.1) (elim k.1.2 [ inl m ↦ m | inr m ↦ absurd m.1.2 ]))

      by_opening : (o : Opened) → ◌≡◌ {A = Result Opened Fault} (Ok o) (Ok (all_of (both_at t))) → OpenedFails g (Holds g d) (Fails g d) everything o f → EitherFails t f
      by_opening (all_of es) s k = in_parts (subst (λ (xs : List (Context × Term)). SomeFails g (Holds g d) (Fails g d) everything xs f) (ap parts_of s) k)
      by_opening (one_of es) s k = absurd (cc)

      by_form : FormFails g d (Holds g d) (Fails g d) everything (there t) a (changing e v) f → EitherFails t f
      by_form (inl k) = absurd (no_opening f _ k)
      by_form (inr k) = by_opening k.0 k.1 k.2

  failed_parts : (t : Values) (f : Fault) → SomeFails g (Holds g d) (Fails g d) everything (both_at t) f → FailsOf g (suc d) everything c a t f
  failed_parts t f k = form_failed g d everything c (map Some t) a f (subst (λ (y : Form). FormFails g d (Holds g d) (Fails g d) everything (there t) a y f) i (inr (all_of (both_at t), refl, k)))

  -- A has a fault, or does not hold

  pub angled_stops : (x : EvalFault) → IsDecided g d p c e (Err x) → IsDecided g (suc d) p c a (Err x)
  angled_stops (Refused kind at) w t k gr = failed_parts t (fault kind at) (inl (w t k (angled_grounds gr)))
  angled_stops NoMemory w t k gr = tt

  pub angled_fails : IsDecided g d p c e (Ok false) → IsDecided g (suc d) p c a (Ok false)
  angled_fails w t k gr =
      let h = w t k (angled_grounds gr) in
      (λ m. h.0 (held_changing t m).0, λ f m. elim (changing_failed t f m) [ inl y ↦ h.1 f y | inr y ↦ h.0 y.0 ])

  -- A holds

  pub angled_row : (r : Result Bool EvalFault) → IsDecided g d p c e (Ok true) → Tells r (TruthOf (Evaluates g.table d) (at_next g.which c p) ch) → IsDecided g (suc d) p c a r
  angled_row r w q t k gr =
      let h = w t k (angled_grounds gr) in
      answered_so (HoldsOf g d c ch t) (HoldsOf g (suc d) c a t) (FailsOf g d everything c ch t) (FailsOf g (suc d) everything c a t)
      (λ m. changing_held t (h.0, m)) (λ m. (held_changing t m).1) (λ f m. failed_parts t f (inr (h.0, (everything, angled_fixes gr, inl m))))
      (λ f m. elim (changing_failed t f m) [ inl y ↦ absurd (h.1 f y) | inr y ↦ y.1 ])
      r (tested g c ch (changed_is_test g (length c.slots) (place_of a) v) d p t k (changed_values t k gr) r q)
