-- Rows that are a test, or that say the value of a variable.
use Rattle.std.proofs.Common.{◌≡◌, ◌≢◌, ◌⊎◌, ◌↔◌, inl, inr, refl, sym, ap, ◌∙◌, subst, ℕ, zero, suc, ◌<◌, length, map}
use Rattle.std.specs.Prelude.{Bool, true, false, IsTrue, Some, Result, Ok, Err, slice_get}
use Rattle.std.proofs.lemmas.List.{length-map}
use Rattle.std.proofs.lemmas.Option.{slice_get_within}
use Rattle.values_core.specs.Data.{Val}
use Rattle.values_core.specs.declared.fault.EvalKind.TheVariants.{Nested}
use Rattle.states_core.specs.States.{Values}
use Rattle.states_core.specs.declared.fault.Fault.{Fault}
use Rattle.names_terms.specs.Terms.{Term, place_of}
use Rattle.values_sets.specs.DescribedSets.{Described, Listed}
use Rattle.values_sets.specs.Listings.{IsListed}
use Rattle.values_sets.specs.Membership.{Belongs}
use Rattle.eval_meanings.specs.declared.fault.EvalFault.{EvalFault}
use Rattle.eval_meanings.specs.declared.fault.EvalFault.TheVariants.{Refused, NoMemory}
use Rattle.eval_meanings.specs.Answers.{Tells}
use Rattle.eval_meanings.specs.Contexts.{Context, Places}
use Rattle.eval_meanings.specs.Evaluates.{Describes, Evaluates}
use Rattle.eval_meanings.specs.Laws.{ReadsValues}
use Rattle.eval_meanings.specs.Outcomes.{fault}
use Rattle.eval_meanings.specs.Sets.{MeansSet, list_at, set_at}
use Rattle.eval_meanings.specs.Unchanged.{TruthOf}
use Rattle.eval_meanings.proofs.AtMostOne.{One, one_gives, one_then}
use Rattle.eval_laws.proofs.Fine.{one_operated}
use Rattle.eval_laws.proofs.Keeping.{keeps_first}
use Rattle.eval_laws.proofs.OneAnswer.{HasOneAnswer}
use Rattle.actions_meanings.specs.Forms.{Form, Setting, assign, choose, form, test}
use Rattle.actions_meanings.specs.Holds.{FormHolds, Holds}
use Rattle.actions_meanings.specs.Fails.{Fails, FormFails}
use Rattle.eval_parts.specs.Following.{variable_at}
use Rattle.actions_meanings.specs.Filled.{Completes, at_next}
use Rattle.steps_found_states.specs.Walks.{FailsOf, HoldsOf}
use Rattle.steps_found_states.proofs.FormParts.{form_knows}
use Rattle.steps_found_states.proofs.Openings.{FormKnows}
use Rattle.steps_found_states.proofs.Opened.{failed_form, form_failed, form_held, held_form}
use Rattle.steps_found_states.proofs.Placed.{at_more, holds_values, reads_values, set_keeps, set_one, term_fine, term_keeps, truth_fine, truth_keeps}
use Rattle.steps_found_states.proofs.Simple.{at_next_is}
use Rattle.judge_truth.specs.Truths.{everything}
use Rattle.judge_truth.specs.Deciding.{Answered, Grounded, IsDecided}
use Rattle.judge_truth.proofs.Answering.{answered_fault, answered_if, answered_so, told_one}
use Rattle.judge_truth.proofs.Opening.{form_walks}
use Rattle.base_core.specs.declared.place.Place.{Place}

value_no_fault : {A : Type 0} (v : A) (f : Fault) → ◌≡◌ {A = Result A Fault} (Ok v) (Err f) → ⊥
value_no_fault v f e = cc

same_value : {A : Type 0} (v w : A) → ◌≡◌ {A = Result A Fault} (Ok v) (Ok w) → v ≡ w
same_value v w e = cc

same_fault : {A : Type 0} (f h : Fault) → ◌≡◌ {A = Result A Fault} (Err f) (Err h) → f ≡ h
same_fault f h e = cc

true_false : true ≡ false → ⊥
true_false e = cc

-- the context with a whole state
abbrev there : Setting → Context → Values → Context
there g c t = at_next g.which c (map Some t)

-- A term whose form is a test, within any number of evaluations.
module _ (g : Setting) (c : Context) (a : Term) (i : form g (length c.slots) a ≡ test) where
  holds_test : (d : ℕ) (t : Values) → HoldsOf g d c a t → TruthOf (Evaluates g.table d) (there g c t) a (Ok true)
  holds_test zero t h = absurd h
  holds_test (suc d) t h = subst (λ (f : Form). FormHolds g d (Holds g d) (there g c t) a f) i (held_form g d c (map Some t) a h)

  test_holds : (d : ℕ) (t : Values) → TruthOf (Evaluates g.table d) (there g c t) a (Ok true) → HoldsOf g d c a t
  test_holds zero t (inl (v, h, k)) = absurd (value_no_fault v (fault Nested (place_of a)) h)
  test_holds zero t (inr (f, h, k)) = absurd (value_no_fault true f k)
  test_holds (suc d) t h = form_held g d c (map Some t) a (subst (λ (f : Form). FormHolds g d (Holds g d) (there g c t) a f) (sym i) h)

  fails_test : (d : ℕ) (t : Values) (f : Fault) → FailsOf g d everything c a t f → TruthOf (Evaluates g.table d) (there g c t) a (Err f)
  fails_test zero t f h = inr (f, ap (λ (x : Fault). Err x) h, refl)
  fails_test (suc d) t f h = subst (λ (x : Form). FormFails g d (Holds g d) (Fails g d) everything (there g c t) a x f) i (failed_form g d everything c (map Some t) a f h)

  test_fails : (d : ℕ) (t : Values) (f : Fault) → TruthOf (Evaluates g.table d) (there g c t) a (Err f) → FailsOf g d everything c a t f
  test_fails zero t f (inl (v, h, k)) = absurd (value_no_fault v (fault Nested (place_of a)) h)
  test_fails zero t f (inr (e, h, k)) = same_fault {A = Bool} f e k ∙ same_fault {A = Val} e (fault Nested (place_of a)) h
  test_fails (suc d) t f h = form_failed g d everything c (map Some t) a f (subst (λ (x : Form). FormFails g d (Holds g d) (Fails g d) everything (there g c t) a x f) (sym i) h)

  tells_there : (d : ℕ) (p : Places) (t : Values) → Completes p t → (r : Result Bool EvalFault) → Tells r (TruthOf (Evaluates g.table d) (at_next g.which c p) a) → Tells r (TruthOf (Evaluates g.table d) (there g c t) a)
  tells_there d p t k (Ok b) h = truth_keeps g.table d (at_next g.which c p) (there g c t) (at_more g.which c p (map Some t) k.has) a (Ok b) h
  tells_there d p t k (Err (Refused kind at)) h = truth_keeps g.table d (at_next g.which c p) (there g c t) (at_more g.which c p (map Some t) k.has) a (Err (fault kind at)) h
  tells_there d p t k (Err NoMemory) h = tt

  pub tested : (d : ℕ) (p : Places) (t : Values) → Completes p t → ReadsValues g.table (there g c t) a → (r : Result Bool EvalFault) → Tells r (TruthOf (Evaluates g.table d) (at_next g.which c p) a)
      → Answered (HoldsOf g d c a t) (FailsOf g d everything c a t) r
  tested d p t k w r h =
      let P = TruthOf (Evaluates g.table d) (there g c t) a in
      answered_so (P (Ok true)) (HoldsOf g d c a t) (λ f. P (Err f)) (FailsOf g d everything c a t) (test_holds d t) (holds_test d t) (test_fails d t) (fails_test d t) r
      (told_one P (truth_fine g.table d (there g c t) a w).one r (tells_there d p t k r h))

-- Sets.

one_listed : (v : Val) → HasOneAnswer (IsListed v)
one_listed v (Ok d) (Ok e) h g = inr (inr (ap Ok (h.1 ∙ sym g.1)))
one_listed v (Ok d) (Err f) h g = absurd (g.0 h.0)
one_listed v (Err e) (Ok d) h g = absurd (h.0 g.0)
one_listed v (Err e) (Err f) h g = inr (inr (ap Err (h.1 ∙ sym g.1)))

one_set_at : (at : Place) (S : Described) → One (set_at at S)
one_set_at at (Listed v) = one_operated (IsListed v) (λ n. at) (one_listed v)
one_set_at at S = one_gives S

-- What is known in the next places is known in the state that completes them, and nothing else.

known_below : (p : Places) (x : ℕ) (t : Values) → Completes p t → (v : Val) → slice_get (map Some t) x ≡ Some (Some v) → x < length p
known_below p x t k v e =
    let below : x < length (map Some t) = slice_get_within (map Some t) x (Some v) e in
    subst (λ (n : ℕ). x < n) (length-map t Some ∙ k.long) below

known_same : (q : Places) (x : ℕ) (v w : Val) → slice_get q x ≡ Some (Some v) → slice_get q x ≡ Some (Some w) → v ≡ w
known_same q x v w e f = cc

pub known_back : (g : Setting) (d : ℕ) (p : Places) (c : Context) (a : Term) → Grounded g d p c a → (t : Values) → Completes p t → (x : ℕ) (v : Val) → slice_get (map Some t) x ≡ Some (Some v) → slice_get p x ≡ Some (Some v)
known_back g d p c a gr t k x v e =
    let r = (gr.fills x (known_below p x t k v e)).0 refl in
    let same : r.0 ≡ v = known_same (map Some t) x r.0 v (k.has x r.0 r.1) e in
    subst (λ (w : Val). slice_get p x ≡ Some (Some w)) same r.1

module _ (g : Setting) (d : ℕ) (p : Places) (c : Context) (a : Term) where
  pub tested_row : (r : Result Bool EvalFault) → test ≡ form g (length c.slots) a → Tells r (TruthOf (Evaluates g.table (suc d)) (at_next g.which c p) a) → IsDecided g (suc d) p c a r
  tested_row r i h t k gr = tested g c a (sym i) (suc d) p t k (gr.reads t k) r h

  -- in the state that is made
  made_known : (t : Values) (x : ℕ) (v : Val) → slice_get (there g c t).next x ≡ Some (Some v) → slice_get (map Some t) x ≡ Some (Some v)
  made_known t x v e = subst (λ (q : Places). slice_get q x ≡ Some (Some v)) (at_next_is g.which c (map Some t)) e

  known_made : (t : Values) (x : ℕ) (v : Val) → slice_get (map Some t) x ≡ Some (Some v) → slice_get (there g c t).next x ≡ Some (Some v)
  known_made t x v e = subst (λ (q : Places). slice_get q x ≡ Some (Some v)) (sym (at_next_is g.which c (map Some t))) e

  -- x' = e

  module _ (x : ℕ) (e : Term) (i : assign x e ≡ form g (length c.slots) a) where
    abbrev AssignHolds : Values → Type 0
    AssignHolds t = (v : Val) × Evaluates g.table d (there g c t) e (Ok v) × (slice_get (there g c t).next x ≡ Some (Some v))

    assign_held : (t : Values) → HoldsOf g (suc d) c a t → AssignHolds t
    assign_held t h = subst (λ (f : Form). FormHolds g d (Holds g d) (there g c t) a f) (sym i) (held_form g d c (map Some t) a h)

    held_assign : (t : Values) → AssignHolds t → HoldsOf g (suc d) c a t
    held_assign t h = form_held g d c (map Some t) a (subst (λ (f : Form). FormHolds g d (Holds g d) (there g c t) a f) i h)

    assign_failed : (t : Values) (f : Fault) → FailsOf g (suc d) everything c a t f → Evaluates g.table d (there g c t) e (Err f)
    assign_failed t f h = subst (λ (y : Form). FormFails g d (Holds g d) (Fails g d) everything (there g c t) a y f) (sym i) (failed_form g d everything c (map Some t) a f h)

    failed_assign : (t : Values) (f : Fault) → Evaluates g.table d (there g c t) e (Err f) → FailsOf g (suc d) everything c a t f
    failed_assign t f h = form_failed g d everything c (map Some t) a f (subst (λ (y : Form). FormFails g d (Holds g d) (Fails g d) everything (there g c t) a y f) i h)

    term_there : (r : Result Val Fault) → Evaluates g.table d (at_next g.which c p) e r → (t : Values) → Completes p t → Evaluates g.table d (there g c t) e r
    term_there r h t k = term_keeps g.table d (at_next g.which c p) (there g c t) (at_more g.which c p (map Some t) k.has) e r h

    one_term : (t : Values) → Completes p t → Grounded g (suc d) p c a → One (Evaluates g.table d (there g c t) e)
    one_term t k gr =
        let w = gr.reads t k in
        let known = subst FormKnows (sym i) (form_knows g w.definitions (length c.slots) a w.known) in
        (term_fine g.table d (there g c t) e (reads_values g.table (there g c t) e w.definitions (holds_values g.table (there g c t) a w) known)).one

    pub assigned_row : (v : Val) (b : Bool) → Evaluates g.table d (at_next g.which c p) e (Ok v) → IsTrue b ↔ (slice_get p x ≡ Some (Some v)) → IsDecided g (suc d) p c a (Ok b)
    assigned_row v b h s t k gr =
        let value = term_there (Ok v) h t k in
        answered_if (HoldsOf g (suc d) c a t) (FailsOf g (suc d) everything c a t) b (
          λ y. held_assign t (v, value, known_made t x v (k.has x v (s.0 y))),
          λ y.
              let r = assign_held t y in
              let same : r.0 ≡ v = same_value r.0 v (one_term t k gr (Ok r.0) (Ok v) r.1 value) in
              s.1 (known_back g (suc d) p c a gr t k x v (made_known t x v (subst (λ (w : Val). slice_get (there g c t).next x ≡ Some (Some w)) same r.2))),
        )
        (λ f m. value_no_fault v f (one_term t k gr (Ok v) (Err f) value (assign_failed t f m)))

    pub unassigned_row : (y : EvalFault) → Tells {A = Val} (Err y) (Evaluates g.table d (at_next g.which c p) e) → IsDecided g (suc d) p c a (Err y)
    unassigned_row y h t k gr =
        answered_fault (Evaluates g.table d (at_next g.which c p) e) (HoldsOf g (suc d) c a t) (FailsOf g (suc d) everything c a t) (λ f m. failed_assign t f (term_there (Err f) m t k)) y h

  -- x' \in S

  module _ (x : ℕ) (e : Term) (i : choose x e ≡ form g (length c.slots) a) where
    abbrev ChooseHolds : Values → Type 0
    ChooseHolds t = (v : Val) × (S : Described) × MeansSet (Describes g.table d) (there g c t) e (Ok S) × (slice_get (there g c t).next x ≡ Some (Some v)) × Belongs S v

    abbrev ChooseFails : Values → Fault → Type 0
    ChooseFails t f = MeansSet (Describes g.table d) (there g c t) e (Err f) ⊎ ((S : Described) × MeansSet (Describes g.table d) (there g c t) e (Ok S) × (everything x ≡ false) × list_at (place_of e) S (Err f))

    choose_held : (t : Values) → HoldsOf g (suc d) c a t → ChooseHolds t
    choose_held t h = subst (λ (f : Form). FormHolds g d (Holds g d) (there g c t) a f) (sym i) (held_form g d c (map Some t) a h)

    held_choose : (t : Values) → ChooseHolds t → HoldsOf g (suc d) c a t
    held_choose t h = form_held g d c (map Some t) a (subst (λ (f : Form). FormHolds g d (Holds g d) (there g c t) a f) i h)

    choose_failed : (t : Values) (f : Fault) → FailsOf g (suc d) everything c a t f → ChooseFails t f
    choose_failed t f h = subst (λ (y : Form). FormFails g d (Holds g d) (Fails g d) everything (there g c t) a y f) (sym i) (failed_form g d everything c (map Some t) a f h)

    failed_choose : (t : Values) (f : Fault) → ChooseFails t f → FailsOf g (suc d) everything c a t f
    failed_choose t f h = form_failed g d everything c (map Some t) a f (subst (λ (y : Form). FormFails g d (Holds g d) (Fails g d) everything (there g c t) a y f) i h)

    set_there : (r : Result Described Fault) → MeansSet (Describes g.table d) (at_next g.which c p) e r → (t : Values) → Completes p t → MeansSet (Describes g.table d) (there g c t) e r
    set_there r h t k = keeps_first (Describes g.table d (at_next g.which c p) e) (Describes g.table d (there g c t) e) (set_at (place_of e))
        (set_keeps g.table d (at_next g.which c p) (there g c t) (at_more g.which c p (map Some t) k.has) e) r h

    one_set : (t : Values) → Completes p t → Grounded g (suc d) p c a → One (MeansSet (Describes g.table d) (there g c t) e)
    one_set t k gr =
        let w = gr.reads t k in
        let known = subst FormKnows (sym i) (form_knows g w.definitions (length c.slots) a w.known) in
        one_then (Describes g.table d (there g c t) e) (set_at (place_of e))
        (set_one g.table d (there g c t) e (reads_values g.table (there g c t) e w.definitions (holds_values g.table (there g c t) a w) known)) (λ S n. one_set_at (place_of e) S)

    no_fault : (t : Values) → Completes p t → Grounded g (suc d) p c a → (S : Described) → MeansSet (Describes g.table d) (there g c t) e (Ok S) → (f : Fault) → ChooseFails t f → ⊥
    no_fault t k gr S h f (inl m) = value_no_fault S f (one_set t k gr (Ok S) (Err f) h m)
    no_fault t k gr S h f (inr m) = true_false m.2

    pub chosen_row : (S : Described) (b : Bool) → MeansSet (Describes g.table d) (at_next g.which c p) e (Ok S) → IsTrue b ↔ ((v : Val) × (slice_get p x ≡ Some (Some v)) × Belongs S v) → IsDecided g (suc d) p c a (Ok b)
    chosen_row S b h s t k gr =
        let set = set_there (Ok S) h t k in
        answered_if (HoldsOf g (suc d) c a t) (FailsOf g (suc d) everything c a t) b (
          λ y. let r = s.0 y in held_choose t (r.0, S, set, known_made t x r.0 (k.has x r.0 r.1), r.2),
          λ y.
              let r = choose_held t y in
              let same : r.1 ≡ S = same_value r.1 S (one_set t k gr (Ok r.1) (Ok S) r.2 set) in
              s.1 (r.0, known_back g (suc d) p c a gr t k x r.0 (made_known t x r.0 r.3), subst (λ (T : Described). Belongs T r.0) same r.4),
        )
        (λ f m. no_fault t k gr S set f (choose_failed t f m))

    pub unchosen_row : (y : EvalFault) → Tells {A = Described} (Err y) (MeansSet (Describes g.table d) (at_next g.which c p) e) → IsDecided g (suc d) p c a (Err y)
    unchosen_row y h t k gr =
        answered_fault (MeansSet (Describes g.table d) (at_next g.which c p) e) (HoldsOf g (suc d) c a t) (FailsOf g (suc d) everything c a t) (λ f m. failed_choose t f (inl (set_there (Err f) m t k))) y h

-- x' = x, which no text spells: with no evaluation left, and with some

pub kept_row : (g : Setting) (d : ℕ) (p : Places) (c : Context) (a : Term) (x : ℕ) (b : Bool) → assign x (variable_at (place_of a) x) ≡ form g (length c.slots) a → d ≢ 0
    → IsTrue b ↔ ((v : Val) × (slice_get (at_next g.which c p).now x ≡ Some (Some v)) × (slice_get p x ≡ Some (Some v))) → IsDecided g (suc d) p c a (Ok b)
kept_row g zero p c a x b i z s t k gr = absurd (z refl)
kept_row g (suc d) p c a x b i z s t k gr =
    let e = variable_at (place_of a) x in
    let known : (v : Val) × (slice_get (at_next g.which c p).now x ≡ Some (Some v)) = (form_walks g (suc d) p c a (assign x e) i gr).1 in
    let same = λ (v : Val) (y : slice_get (at_next g.which c p).now x ≡ Some (Some v)). known_same (at_next g.which c p).now x v known.0 y known.1 in
    assigned_row g (suc d) p c a x e i known.0 b (known.0, known.1, refl)
    (λ y. let r = s.0 y in subst (λ (w : Val). slice_get p x ≡ Some (Some w)) (same r.0 r.1) r.2, λ y. s.1 (known.0, known.1, y)) t k gr

pub unkept_row : (g : Setting) (d : ℕ) (p : Places) (c : Context) (a : Term) (x : ℕ) (at : Place) → assign x (variable_at (place_of a) x) ≡ form g (length c.slots) a → d ≡ 0 → at ≡ place_of a
    → IsDecided g (suc d) p c a (Err (Refused Nested at))
unkept_row g zero p c a x at i z q = subst (λ (y : Place). IsDecided g 1 p c a (Err (Refused Nested y))) (sym q) (unassigned_row g 0 p c a x (variable_at (place_of a) x) i (Refused Nested (place_of a)) refl)
unkept_row g (suc d) p c a x at i z q = absurd (cc)
