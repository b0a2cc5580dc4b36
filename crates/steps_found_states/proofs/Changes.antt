-- `<<A>>_v`: A is walked, and of what is found it is tested that v changes.
use Rattle.std.proofs.Common.{◌≡◌, ◌⊎◌, inl, inr, refl, sym, ap, subst, ℕ, zero, suc, List, [], ◌∷◌, length, map}
use Rattle.std.specs.Prelude.{Bool, true, false, Some, Result, Ok, Err, Contains, if◌then◌else◌}
use Rattle.std.specs.List.{AllByRecursion}
use Rattle.base_core.specs.declared.place.Place.{Place}
use Rattle.states_core.specs.States.{Values}
use Rattle.states_core.specs.declared.fault.Fault.{Fault}
use Rattle.names_terms.specs.declared.level.Level.TheVariants as levels
use Rattle.names_terms.specs.Terms.{Term, place_of}
use Rattle.eval_meanings.specs.declared.fault.EvalFault.{EvalFault}
use Rattle.eval_meanings.specs.declared.fault.EvalFault.TheVariants.{Refused, NoMemory}
use Rattle.eval_meanings.specs.Contexts.{Context, Places}
use Rattle.eval_meanings.specs.Laws.{KnowsValues, ReadsValues}
use Rattle.eval_meanings.specs.Outcomes.{fault}
use Rattle.eval_meanings.specs.Unchanged.{changed_of}
use Rattle.eval_meanings.specs.Reads.{Reads}
use Rattle.actions_meanings.specs.Forms.{Setting, Form, form, test, changing, is_taken}
use Rattle.actions_meanings.specs.Reads.{VariableSet}
use Rattle.actions_meanings.specs.Outcomes.{Fixes, form_outcome, outcome_within}
use Rattle.actions_meanings.specs.Holds.{FormHolds, Holds, Opened, OpenedHolds, all_of, one_of}
use Rattle.actions_meanings.specs.Fails.{Fails, FormFails, OpenedFails, SomeFails}
use Rattle.logs_updates.specs.declared.update.See.{See}
use Rattle.actions_meanings.specs.Filled.{Completes, Fills, at_next}
use Rattle.actions_meanings.specs.Walkable.{FormWalks, Walkable}
use Rattle.steps_found_states.specs.Walks.{Agrees, FailsOf, HoldsOf, Walked}
use Rattle.steps_found_states.specs.Grounds.{FixesWithin, Grounds, TuplesFix, form_parts}
use Rattle.steps_found_states.specs.Parts.{FoundEach}
use Rattle.steps_found_states.proofs.Lists.{all_by_place, place_by_all}
use Rattle.steps_found_states.proofs.Finding.{completes_less, found_then, meets_same}
use Rattle.steps_found_states.proofs.Placed.{holds_values, reads_values}
use Rattle.steps_found_states.proofs.Openings.{FormKnows}
use Rattle.steps_found_states.proofs.FormParts.{form_knows}
use Rattle.steps_found_states.proofs.FormFixes.{changing_fixes, fixes_form}
use Rattle.steps_found_states.proofs.Opened.{failed_form, form_failed, form_held, held_form}
use Rattle.steps_found_states.proofs.FormEnds.{parts_fix, tuples_fix_on}

tested_anyway : (b : Bool) → (if b then test else test) ≡ test
tested_anyway true = refl
tested_anyway false = refl

pub changed_is_test : (g : Setting) (n : ℕ) (at : Place) (v : Term) → form g n (changed_of at v) ≡ test
changed_is_test g n at v = tested_anyway (is_taken g.which levels.Action)

test_reads : (g : Setting) (d : ℕ) (B : VariableSet) (q : Places) (c : Context) (a : Term) → form g (length c.slots) a ≡ test → Walkable g d B q c a → Reads g.table d (at_next g.which c q) a
test_reads g zero B q c a i w = tt
test_reads g (suc d) B q c a i w = subst (λ (f : Form). FormWalks g d (Walkable g d) B q c a f) i w.1

-- what the test rests on
pub record IsReady (g : Setting) (d : ℕ) (sees : List See) (D : VariableSet) (q : Places) (c : Context) (a : Term) : Type 0 where
  pub fills : Fills D q
  pub agrees : Agrees sees q
  pub values : (t : Values) → Completes q t → ReadsValues g.table (at_next g.which c (map Some t)) a
  pub reads : Reads g.table d (at_next g.which c q) a

abbrev parts_of : Result Opened Fault → List (Context × Term)
parts_of (Ok (all_of es)) = es
parts_of r = []

no_opening : (f : Fault) (o : Opened) → ◌≡◌ {A = Result Opened Fault} (Err f) (Ok o) → ⊥
no_opening f o e = cc

module _ (g : Setting) (d : ℕ) (sees : List See) (B : VariableSet) (p : Places) (c : Context) (a : Term) (gr : Grounds g (suc d) sees B p c a) (e v : Term) (i : form g (length c.slots) a ≡ changing e v) where
  abbrev there : Values → Context
  there t = at_next g.which c (map Some t)

  abbrev ch : Term
  ch = changed_of (place_of a) v

  known : (t : Values) → Completes p t → KnowsValues e × KnowsValues v
  known t k = let w = gr.reads t k in subst FormKnows i (form_knows g w.definitions (length c.slots) a w.known)

  walks : FormWalks g d (Walkable g d) B p c a (changing e v)
  walks = subst (λ (f : Form). FormWalks g d (Walkable g d) B p c a f) i gr.walks.1

  tuples_on : AllByRecursion (TuplesFix g d) (e ∷ [])
  tuples_on = subst (λ (f : Form). AllByRecursion (TuplesFix g d) (form_parts g (place_of a) f)) i (tuples_fix_on g d (length c.slots) a gr.tuples)

  -- the walk of A rests on what that of the action does
  pub changing_grounds : Grounds g d sees B p c e
  changing_grounds = record {
    long = gr.long;
    fills = gr.fills;
    agrees = gr.agrees;
    reads = λ t k. let w = gr.reads t k in reads_values g.table (there t) e w.definitions (holds_values g.table (there t) a w) (known t k).0;
    walks = walks.0;
    tuples = tuples_on.0;
  }

  pub changing_leads : (C : VariableSet) → Fixes g a B C → Fixes g e B C
  changing_leads C x =
      let r = fixes_form g (length c.slots) a B C x in
      let fix : AllByRecursion (FixesWithin g r.0) (e ∷ []) = subst (λ (f : Form). AllByRecursion (FixesWithin g r.0) (form_parts g (place_of a) f)) i (parts_fix g d (length c.slots) a gr.tuples r.0 r.1) in
      fix.0 B C (changing_fixes g r.0 (outcome_within g r.0) a B C e v (subst (λ (f : Form). form_outcome g r.0 (outcome_within g r.0) a B f ≡ Ok C) i r.2))

  -- there is a set that A leaves fixed
  pub changing_left : (C : VariableSet) × Fixes g e B C
  changing_left = (gr.walks.0.0, changing_leads gr.walks.0.0 gr.walks.0.1)

  -- and so does the test behind it
  pub changing_ready : (qs : List Places) → Walked g d sees B p c e (Ok qs) → (D : VariableSet) → Fixes g e B D → (q : Places) → Contains qs q → IsReady g d sees D q c ch
  changing_ready qs w D x q m =
      let f = w.further q m in
      let fills = w.filled q D m x in
      record {
        fills = fills;
        agrees = w.agree q m;
        values = λ t k.
            let less = completes_less p q t f.0 f.1 k in
            let r = gr.reads t less in
            reads_values g.table (there t) ch r.definitions (holds_values g.table (there t) a r) (tt, ((tt, ((known t less).1, tt, tt)), (known t less).1));
        reads = test_reads g d D q c ch (changed_is_test g (length c.slots) (place_of a) v) (walks.1 D q x f.0 f.1 fills).0;
      }

  abbrev both_at : Values → List (Context × Term)
  both_at t = (there t, e) ∷ (there t, ch) ∷ []

  changing_held : (t : Values) → HoldsOf g d c e t → HoldsOf g d c ch t → HoldsOf g (suc d) c a t
  changing_held t h k = form_held g d c (map Some t) a (subst (λ (f : Form). FormHolds g d (Holds g d) (there t) a f) (sym i)
      (all_of (both_at t), refl, all_by_place (λ x. Holds g d x.0 x.1) (both_at t) (h, (k, tt))))

  held_changing : (t : Values) → HoldsOf g (suc d) c a t → HoldsOf g d c e t × HoldsOf g d c ch t
  held_changing t h =
      let r = subst (λ (f : Form). FormHolds g d (Holds g d) (there t) a f) i (held_form g d c (map Some t) a h) in
      by_opening r.0 r.1 r.2
    where
      by_opening : (o : Opened) → ◌≡◌ {A = Result Opened Fault} (Ok o) (Ok (all_of (both_at t))) → OpenedHolds (Holds g d) o → HoldsOf g d c e t × HoldsOf g d c ch t
      by_opening (all_of es) s k =
          let m : AllByRecursion (λ (x : Context × Term). Holds g d x.0 x.1) (both_at t) = subst (λ (xs : List (Context × Term)). AllByRecursion (λ (x : Context × Term). Holds g d x.0 x.1) xs) (ap parts_of s) (place_by_all (λ x. Holds g d x.0 x.1) es k) in
          (m.0, m.1.0)
      by_opening (one_of es) s k = absurd (cc)

  changing_failed : (t : Values) (f : Fault) → FailsOf g (suc d) B c a t f → FailsOf g d B c e t f ⊎ (HoldsOf g d c e t × ((D : VariableSet) × Fixes g e B D × FailsOf g d D c ch t f))
  changing_failed t f h = by_form (subst (λ (y : Form). FormFails g d (Holds g d) (Fails g d) B (there t) a y f) i (failed_form g d B c (map Some t) a f h))
    where
      in_parts : SomeFails g (Holds g d) (Fails g d) B (both_at t) f → FailsOf g d B c e t f ⊎ (HoldsOf g d c e t × ((D : VariableSet) × Fixes g e B D × FailsOf g d D c ch t f))
      in_parts (inl k) = inl k
      in_parts (inr k) = inr (k.0, (k.1.0, k.1.1, elim k.1.2 [ inl m ↦ m | inr m ↦ absurd m.1.2 ]))

      by_opening : (o : Opened) → ◌≡◌ {A = Result Opened Fault} (Ok o) (Ok (all_of (both_at t))) → OpenedFails g (Holds g d) (Fails g d) B o f
          → FailsOf g d B c e t f ⊎ (HoldsOf g d c e t × ((D : VariableSet) × Fixes g e B D × FailsOf g d D c ch t f))
      by_opening (all_of es) s k = in_parts (subst (λ (xs : List (Context × Term)). SomeFails g (Holds g d) (Fails g d) B xs f) (ap parts_of s) k)
      by_opening (one_of es) s k = absurd (cc)

      by_form : FormFails g d (Holds g d) (Fails g d) B (there t) a (changing e v) f → FailsOf g d B c e t f ⊎ (HoldsOf g d c e t × ((D : VariableSet) × Fixes g e B D × FailsOf g d D c ch t f))
      by_form (inl k) = absurd (no_opening f _ k)
      by_form (inr k) = by_opening k.0 k.1 k.2

  failed_changing : (t : Values) (f : Fault) → SomeFails g (Holds g d) (Fails g d) B (both_at t) f → FailsOf g (suc d) B c a t f
  failed_changing t f k = form_failed g d B c (map Some t) a f (subst (λ (y : Form). FormFails g d (Holds g d) (Fails g d) B (there t) a y f) (sym i) (inr (all_of (both_at t), refl, k)))

  -- what the test leaves of what A finds
  pub walked_changing : (qs : List Places) → Walked g d sees B p c e (Ok qs) → (r : Result (List Places) EvalFault)
      → ((D : VariableSet) → Fixes g e B D → FoundEach sees qs (λ C. C ≡ D) (HoldsOf g d c ch) (FailsOf g d D c ch) r) → Walked g (suc d) sees B p c a r
  walked_changing qs w r b = found_then sees p (Fixes g e B) (Fixes g a B) (λ D C. C ≡ D) (HoldsOf g d c e) (HoldsOf g d c ch) (HoldsOf g (suc d) c a)
      (FailsOf g d B c e) (FailsOf g (suc d) B c a) (λ D. FailsOf g d D c ch) qs (λ C x. (C, changing_leads C x, refl))
      (λ t h k. changing_held t h k) (λ t h. held_changing t h) (λ t f m. changing_failed t f m) (λ t f D h x m. failed_changing t f (inr (h, (D, x, inl m))))
      changing_left.0 changing_left.1 w r b

  -- or A has a fault
  pub walked_changing_refused : (f : EvalFault) → Walked g d sees B p c e (Err f) → Walked g (suc d) sees B p c a (Err f)
  walked_changing_refused (Refused kind at) w = meets_same sees p (FailsOf g d B c e) (FailsOf g (suc d) B c a) (fault kind at) (λ t k h. failed_changing t (fault kind at) (inl h)) w
  walked_changing_refused NoMemory w = tt
