-- What is listed of the branches of an action, form by form: what its parts or what is evaluated for it make of it.
use Rattle.std.proofs.Common.{◌≡◌, inl, inr, refl, sym, ◌∙◌, subst, arith, ℕ, zero, suc, ◌≤◌, List, [], ◌∷◌, map, length}
use Rattle.std.specs.Prelude.{if◌then◌else◌, Bool, true, false, Option, None, Some, Result, Ok, Err, slice_get, slice_set}
use Rattle.values_core.specs.Data.{Val}
use Rattle.states_core.specs.States.{Values}
use Rattle.states_core.specs.declared.fault.Fault.{Fault}
use Rattle.names_terms.specs.Terms.{Term, place_of}
use Rattle.values_sets.specs.DescribedSets.{Described}
use Rattle.eval_meanings.specs.Contexts.{Context, Places}
use Rattle.eval_meanings.specs.Evaluates.{Evaluates, Describes}
use Rattle.eval_meanings.specs.Laws.{IsWithin, ReadsValues}
use Rattle.eval_meanings.specs.Sets.{MeansSet}
use Rattle.eval_meanings.specs.Unchanged.{TruthOf}
use Rattle.actions_meanings.specs.Forms.{Setting, Form, form, test, assign, choose}
use Rattle.actions_meanings.specs.Filled.{Completes, at_next}
use Rattle.steps_found_states.specs.Walks.{HoldsOf}
use Rattle.steps_why_branches.specs.PassedOver.{may_spare}
use Rattle.steps_why_branches.specs.Traces.{Stood, Trace, fails, faulted, spares, stops}
use Rattle.steps_why_branches.specs.declared.sparing.Sparing.{Sparing}
use Rattle.steps_why_branches.specs.declared.why.WhyKind.{WhyKind}
use Rattle.steps_why_branches.specs.Branches.{Assigned, Branches, Chosen, Equated, FormBranches, Tested, stood}
use Rattle.steps_why_branches.specs.Firsts.{Covers, IsFault}
use Rattle.steps_why_branches.specs.Founds.{Found, FoundOf}
use Rattle.steps_why_branches.specs.Told.{KnowsAll, Says}
use Rattle.steps_why_branches.specs.declared.why.WhyKind.TheVariants as why
use Rattle.steps_why_branches.proofs.Elements.{get_nil}
use Rattle.steps_why_branches.proofs.FirstBranches.{firsts_one, firsts_same}
use Rattle.steps_why_branches.proofs.EachSays.{form_says_so}
use Rattle.steps_why_branches.proofs.One.{one_set, one_truth, one_value}
use Rattle.steps_why_branches.proofs.LeafSays.{at_place, holds, ok_same, place_same, at_one_value}
use Rattle.values_core.specs.Ascending.{head_in}
use Rattle.steps_why_branches.proofs.Copies.{set_length}
use Rattle.eval_meanings.specs.Outcomes.{fault}
use Rattle.values_core.specs.declared.fault.EvalKind.TheVariants.{Nested}

pub found_same : (k : ℕ) (p : Places) (P Q : Trace → Type 0) (H K : Values → Type 0) (xs : List Trace) → ((x : Trace) → P x → Q x) → ((x : Trace) → Q x → P x)
    → ((t : Values) → Completes p t → K t → H t) → Found k p P H xs → Found k p Q K xs
found_same k p P Q H K xs i j l a = record {
  firsts = firsts_same k P Q xs i j a.firsts;
  some = a.some;
  covers = λ t h m. a.covers t h (l t h m);
}

-- one branch alone
pub found_one : (k : ℕ) (p : Places) (P : Trace → Type 0) (H : Values → Type 0) (y : Trace) → 1 ≤ k → P y → ((x : Trace) → P x → x ≡ y) → ((t : Values) → Completes p t → H t → Covers y.end t) → Found k p P H (y ∷ [])
found_one k p P H y l q u c = record {
  firsts = firsts_one k P y l q u;
  some = omega arith;
  covers = λ t h m. inl (y, head_in y [], c t h m);
}

-- with no evaluation left
pub found_nested : (g : Setting) (sp : Sparing) (k : ℕ) (c : Context) (a : Term) (p : Places) → 1 ≤ k → FoundOf g sp k zero c a p (faulted p (stood zero (c, a)) (fault Nested (place_of a)) ∷ [])
found_nested g sp k c a p l = found_one k p (Branches g sp zero c a p) (HoldsOf g zero c a) (faulted p (stood zero (c, a)) (fault Nested (place_of a))) l refl (λ x m. m) (λ t w b. absurd b)

-- a state that has the value
pub set_completes : (p : Places) (n : ℕ) (v : Val) (t : Values) → Completes p t → slice_get (map Some t) n ≡ Some (Some v) → Completes (slice_set p n (Some v)) t
set_completes p n v t k e = record {
  long = k.long ∙ sym (set_length p n (Some v));
  has = λ x w h. has p n x w (map Some t) k.has e h;
  values = k.values;
}
  where
    has : (p : Places) (n x : ℕ) (w : Val) (ts : Places) → IsWithin p ts → slice_get ts n ≡ Some (Some v) → slice_get (slice_set p n (Some v)) x ≡ Some (Some w) → slice_get ts x ≡ Some (Some w)
    has [] n x w ts k e h = k x w h
    has (o ∷ p) zero zero w ts k e h = subst (λ (u : Val). slice_get ts zero ≡ Some (Some u)) (place_same v w h) e
    has (o ∷ p) zero (suc x) w ts k e h = k (suc x) w h
    has (o ∷ p) (suc n) zero w ts k e h = k zero w h
    has (o ∷ p) (suc n) (suc x) w [] k e h = absurd (get_nil n (Some v) e)
    has (o ∷ p) (suc n) (suc x) w (u ∷ ts) k e h = has p n x w ts (λ y z i. k (suc y) z i) e h

module _ (g : Setting) (sp : Sparing) (k : ℕ) (room : 1 ≤ k) (d : ℕ) (c : Context) (a : Term) (p : Places) (known : KnowsAll g p c a) (now : ReadsValues g.table (at_next g.which c p) a) where
  -- a form's branches are those of the action
  pub of_form : (f : Form) → form g (length c.slots) a ≡ f → (xs : List Trace) → Found k p (FormBranches g sp d (λ inner. Branches g inner d) c a f p) (HoldsOf g (suc d) c a) xs → FoundOf g sp k (suc d) c a p xs
  of_form f i xs h = subst (λ (x : Form). Found k p (FormBranches g sp d (λ inner. Branches g inner d) c a x p) (HoldsOf g (suc d) c a) xs) (sym i) h

  abbrev pub Me : Stood
  Me = stood (suc d) (c, a)

  -- where it ends the state is none of which it holds, or there is a fault
  ends_here : (f : Form) → form g (length c.slots) a ≡ f → (x : Trace) → FormBranches g sp d (λ inner. Branches g inner d) c a f p x → Says g sp.at c a (suc d) p x
  ends_here f i x h = form_says_so g sp d c a p known f i x h

  -- where it does not hold no state is to be covered; where it is passed over, all are
  failed_covers : (kind : WhyKind) (v : Option Val) → (IsFault kind → ⊥) → (y : Trace) → y ≡ fails sp p Me kind v → Says g sp.at c a (suc d) p y
      → (t : Values) → Completes p t → HoldsOf g (suc d) c a t → Covers y.end t
  failed_covers kind v n y e s t l b = subst (λ (z : Trace). Covers z.end t) (sym e) (by_test (may_spare sp.at a) (subst (λ (z : Trace). Says g sp.at c a (suc d) p z) e s))
    where
      by_test : (o : Bool) → Says g sp.at c a (suc d) p (if o then spares sp p Me kind v else stops p Me (place_of a) kind) → Covers (if o then spares sp p Me kind v else stops p Me (place_of a) kind).end t
      by_test true m = l
      by_test false m = absurd (m.ends t l n b)

  pub found_test : form g (length c.slots) a ≡ test → (r : Result Bool Fault) → TruthOf (Evaluates g.table (suc d)) (at_next g.which c p) a r → (y : Trace) → Tested sp p Me r y → FoundOf g sp k (suc d) c a p (y ∷ [])
  found_test i r h y m = of_form test i (y ∷ []) (found_one k p (FormBranches g sp d (λ inner. Branches g inner d) c a test p) (HoldsOf g (suc d) c a) y room (r, h, m)
      (λ x n. one r m x (subst (λ (q : Result Bool Fault). Tested sp p Me q x) (one_truth g d c a p now n.0 r n.1 h) n.2)) (λ t l b. covers r m (ends_here test i y (r, h, m)) t l b))
    where
      one : (r : Result Bool Fault) → Tested sp p Me r y → (x : Trace) → Tested sp p Me r x → x ≡ y
      one (Ok true) m x n = n ∙ sym m
      one (Ok false) m x n = n ∙ sym m
      one (Err f) m x n = n ∙ sym m

      covers : (r : Result Bool Fault) → Tested sp p Me r y → Says g sp.at c a (suc d) p y → (t : Values) → Completes p t → HoldsOf g (suc d) c a t → Covers y.end t
      covers (Ok true) m s t l b = subst (λ (z : Trace). Covers z.end t) (sym m) l
      covers (Ok false) m s t l b = failed_covers why.TestFalse None (λ n. n) y m s t l b
      covers (Err f) m s t l b = subst (λ (z : Trace). Covers z.end t) (sym m) (tt, l)

  abbrev pub Value : Result Val Fault → Trace → Type 0
  Value r x = (n : ℕ) × Assigned sp p Me n r x

  pub found_assign : (n : ℕ) (e : Term) → form g (length c.slots) a ≡ assign n e → (r : Result Val Fault) → Evaluates g.table d (at_next g.which c p) e r → (y : Trace) → Assigned sp p Me n r y → FoundOf g sp k (suc d) c a p (y ∷ [])
  found_assign n e i r h y m = of_form (assign n e) i (y ∷ []) (found_one k p (FormBranches g sp d (λ inner. Branches g inner d) c a (assign n e) p) (HoldsOf g (suc d) c a) y room (r, h, m)
      (λ x j. one r m x (subst (λ (q : Result Val Fault). Assigned sp p Me n q x) (one_value g d c a p now n e i j.0 r j.1 h) j.2)) (λ t l b. covers r h m (ends_here (assign n e) i y (r, h, m)) t l b))
    where
      one_place : (v : Val) (o : Option (Option Val)) → Equated sp p Me n v o y → (x : Trace) → Equated sp p Me n v o x → x ≡ y
      one_place v (Some (Some w)) (inl m) x (inl j) = j.1 ∙ sym m.1
      one_place v (Some (Some w)) (inl m) x (inr j) = absurd (j.0 m.0)
      one_place v (Some (Some w)) (inr m) x (inl j) = absurd (m.0 j.0)
      one_place v (Some (Some w)) (inr m) x (inr j) = j.1 ∙ sym m.1
      one_place v (Some None) m x j = j ∙ sym m
      one_place v None m x j = absurd m

      one : (r : Result Val Fault) → Assigned sp p Me n r y → (x : Trace) → Assigned sp p Me n r x → x ≡ y
      one (Ok v) m x j = one_place v (slice_get p n) m x j
      one (Err f) m x j = j ∙ sym m

      by_place : (v : Val) → Evaluates g.table d (at_next g.which c p) e (Ok v) → (o : Option (Option Val)) → slice_get p n ≡ o → Equated sp p Me n v o y → Says g sp.at c a (suc d) p y → (t : Values) → Completes p t → HoldsOf g (suc d) c a t → Covers y.end t
      by_place v h (Some (Some w)) q (inl m) s t l b = subst (λ (z : Trace). Covers z.end t) (sym m.1) l
      by_place v h (Some (Some w)) q (inr m) s t l b = failed_covers (why.Differs (record { 0 = n })) (Some v) (λ i. i) y m.1 s t l b
      by_place v h (Some None) q m s t l b =
          let r = holds g sp d c a p known (assign n e) i t b in
          let same = ok_same v r.0 (at_one_value g sp d c a p known n e i (Ok v) (Ok r.0) h t l r.1) in
          subst (λ (z : Trace). Covers z.end t) (sym m) (set_completes p n v t l (subst (λ (u : Val). slice_get (map Some t) n ≡ Some (Some u)) (sym same) (at_place g sp d c a p known t n r.0 r.2)))
      by_place v h None q m s t l b = absurd m

      covers : (r : Result Val Fault) → Evaluates g.table d (at_next g.which c p) e r → Assigned sp p Me n r y → Says g sp.at c a (suc d) p y → (t : Values) → Completes p t → HoldsOf g (suc d) c a t → Covers y.end t
      covers (Ok v) h m s t l b = by_place v h (slice_get p n) refl m s t l b
      covers (Err f) h m s t l b = subst (λ (z : Trace). Covers z.end t) (sym m) (tt, l)

  -- `x' \in S` where x has a value already, or S is none or can not be listed: one branch
  abbrev pub IsSingle : Result Described Fault → Option (Option Val) → Type 0
  IsSingle (Ok S) (Some None) = ⊥
  IsSingle r o = Unit {0}

  pub found_given : (n : ℕ) (e : Term) → form g (length c.slots) a ≡ choose n e → (r : Result Described Fault) → MeansSet (Describes g.table d) (at_next g.which c p) e r → IsSingle r (slice_get p n) → (y : Trace)
      → Chosen sp p Me n (place_of e) r (slice_get p n) y → FoundOf g sp k (suc d) c a p (y ∷ [])
  found_given n e i r h u y m = of_form (choose n e) i (y ∷ []) (found_one k p (FormBranches g sp d (λ inner. Branches g inner d) c a (choose n e) p) (HoldsOf g (suc d) c a) y room (r, h, m)
      (λ x j. one r (slice_get p n) u m x (subst (λ (q : Result Described Fault). Chosen sp p Me n (place_of e) q (slice_get p n) x) (one_set g d c a p now n e i j.0 r j.1 h) j.2))
      (λ t l b. covers r (slice_get p n) u m (ends_here (choose n e) i y (r, h, m)) t l b))
    where
      one : (r : Result Described Fault) (o : Option (Option Val)) → IsSingle r o → Chosen sp p Me n (place_of e) r o y → (x : Trace) → Chosen sp p Me n (place_of e) r o x → x ≡ y
      one (Err f) o u m x j = j ∙ sym m
      one (Ok S) (Some (Some w)) u (inl m) x (inl j) = j.1 ∙ sym m.1
      one (Ok S) (Some (Some w)) u (inl m) x (inr j) = absurd (j.0 m.0)
      one (Ok S) (Some (Some w)) u (inr m) x (inl j) = absurd (m.0 j.0)
      one (Ok S) (Some (Some w)) u (inr m) x (inr j) = j.1 ∙ sym m.1
      one (Ok S) (Some None) u m x j = absurd u
      one (Ok S) None u m x j = absurd m

      covers : (r : Result Described Fault) (o : Option (Option Val)) → IsSingle r o → Chosen sp p Me n (place_of e) r o y → Says g sp.at c a (suc d) p y → (t : Values) → Completes p t → HoldsOf g (suc d) c a t → Covers y.end t
      covers (Err f) o u m s t l b = subst (λ (z : Trace). Covers z.end t) (sym m) (tt, l)
      covers (Ok S) (Some (Some w)) u (inl m) s t l b = subst (λ (z : Trace). Covers z.end t) (sym m.1) l
      covers (Ok S) (Some (Some w)) u (inr m) s t l b = failed_covers (why.NotIn (record { 0 = n })) None (λ i. i) y m.1 s t l b
      covers (Ok S) (Some None) u m s t l b = absurd u
      covers (Ok S) None u m s t l b = absurd m
