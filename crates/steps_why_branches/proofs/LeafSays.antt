-- What is told of the branches of actions that are a test, or that say a variable's value.
use Rattle.std.proofs.Common.{◌≡◌, inl, inr, refl, sym, ◌∙◌, ap, subst, ℕ, suc, List, [], ◌∷◌, length, map}
use Rattle.std.specs.Prelude.{if◌then◌else◌, All, Bool, true, false, Contains, Option, None, Some, Result, Ok, Err, slice_get, slice_set}
use Rattle.base_core.specs.declared.place.Place.{Place}
use Rattle.values_core.specs.Data.{Val}
use Rattle.values_core.specs.Sets.{items_of}
use Rattle.values_core.specs.IsValue.{IsValue}
use Rattle.states_core.specs.States.{Values}
use Rattle.states_core.specs.declared.fault.Fault.{Fault}
use Rattle.names_terms.specs.Terms.{Term, place_of}
use Rattle.values_sets.specs.DescribedSets.{Described, Listed}
use Rattle.values_sets.proofs.Collecting.{lists_its_members}
use Rattle.values_sets.specs.Membership.{Belongs}
use Rattle.eval_meanings.specs.Contexts.{Context, Places}
use Rattle.eval_meanings.specs.Evaluates.{Evaluates, Describes}
use Rattle.eval_meanings.specs.Laws.{IsWithin}
use Rattle.eval_meanings.specs.Sets.{MeansSet, list_at, set_at}
use Rattle.eval_meanings.specs.Unchanged.{TruthOf}
use Rattle.eval_laws.proofs.Keeping.{keeps_first}
use Rattle.eval_meanings.proofs.AtMostOne.{one_then}
use Rattle.actions_meanings.specs.Forms.{Setting, Form, form, test, assign, choose}
use Rattle.actions_meanings.specs.Holds.{FormHolds, Holds}
use Rattle.actions_meanings.specs.Filled.{Completes, at_next}
use Rattle.steps_found_states.specs.Walks.{HoldsOf}
use Rattle.steps_found_states.proofs.Filling.{get_of_map}
use Rattle.steps_found_states.proofs.Lists.{all_in, one_in, place_by_all}
use Rattle.steps_found_states.proofs.Finding.{within_itself, within_trans}
use Rattle.steps_found_states.proofs.Placed.{at_more, holds_values, reads_values, set_keeps, set_one, term_fine, term_keeps, truth_fine, truth_keeps}
use Rattle.steps_found_states.proofs.Openings.{FormKnows}
use Rattle.steps_found_states.proofs.FormParts.{form_knows}
use Rattle.steps_found_states.proofs.Opened.{form_held, held_form}
use Rattle.steps_found_states.proofs.Simple.{at_next_is, listed_belong}
use Rattle.steps_why_branches.specs.PassedOver.{may_spare}
use Rattle.steps_why_branches.specs.Traces.{SparedPart, Stood, Trace, chosen, fails, faulted, here, spares, stops}
use Rattle.steps_why_branches.specs.declared.sparing.Sparing.{Sparing}
use Rattle.steps_why_branches.specs.Branches.{Assigned, Chooses, Chosen, Equated, Members, Tested, stood}
use Rattle.steps_why_branches.specs.Told.{IsPassable, IsSpared, KnowsAll, Says}
use Rattle.steps_why_branches.specs.declared.why.WhyKind.{WhyKind}
use Rattle.steps_why_branches.specs.declared.why.WhyKind.TheVariants as why
use Rattle.steps_why_branches.specs.Repaired.{HoldsButOf}
use Rattle.steps_why_branches.proofs.Elements.{get_in}
use Rattle.steps_why_branches.proofs.Repairs.{held_but, single_but}
use Rattle.values_core.specs.Ascending.{none_in}
use Rattle.steps_why_branches.proofs.Copies.{one_set_at, set_length, set_there, set_within}

-- outcomes

pub ok_same : {A : Type 0} (v w : A) → ◌≡◌ {A = Result A Fault} (Ok v) (Ok w) → v ≡ w
ok_same v w e = cc

pub ok_err : {A : Type 0} (v : A) (f : Fault) → ◌≡◌ {A = Result A Fault} (Ok v) (Err f) → ⊥
ok_err v f e = cc

pub true_false : ◌≡◌ {A = Result Bool Fault} (Ok false) (Ok true) → ⊥
true_false e = cc

pub place_same : (v w : Val) → ◌≡◌ {A = Option (Option Val)} (Some (Some v)) (Some (Some w)) → v ≡ w
place_same v w e = cc

pub some_none : (w : SparedPart) (ws : List SparedPart) → ◌≡◌ {A = List SparedPart} (w ∷ ws) [] → ⊥
some_none w ws e = cc

-- what is listed belongs
pub listed_in : (at : Place) (S : Described) (u : Val) → list_at at S (Ok u) → (v : Val) → Contains (items_of u) v → Belongs S v
listed_in at (Listed w) u h v m = subst (λ (x : Val). Contains (items_of x) v) (ok_same u w h) m
listed_in at S u h v m = (((lists_its_members S u h).same v).0 m).1

-- a value of a state is one
pub value_of : (t : Values) (n : ℕ) (v : Val) → All IsValue t → slice_get (map Some t) n ≡ Some (Some v) → IsValue v
value_of t n v a e = all_in IsValue t (place_by_all IsValue t a) v (get_in t n v (get_of_map t n v e))

module _ (g : Setting) (sp : Sparing) (c : Context) (a : Term) (d : ℕ) (p : Places) where
  pub says_same : (x y : Trace) → x ≡ y → Says g sp.at c a d p y → Says g sp.at c a d p x
  says_same x y e h = subst (λ (z : Trace). Says g sp.at c a d p z) (sym e) h

  pub says_passed : (q : Places) → length q ≡ length p → IsWithin p q → ((t : Values) → Completes q t → HoldsOf g d c a t) → Says g sp.at c a d p (here q)
  says_passed q l w h = record {
    long = l;
    more = w;
    before = λ s m. absurd (none_in s m);
    spared = λ s m. absurd (none_in s m);
    ends = λ t e k. h t k;
    repaired = λ t k. held_but g sp.at d (at_next g.which c (map Some t)) a (h t k);
  }

  pub says_stops : (n : ℕ) (b : Context) (e : Term) (at : Place) (kind : WhyKind) → ((t : Values) → Completes p t → HoldsOf g n b e t → ⊥) → Says g sp.at c a d p (stops p (stood n (b, e)) at kind)
  says_stops n b e at kind h = record {
    long = refl;
    more = within_itself p;
    before = λ s m. absurd (none_in s m);
    spared = λ s m. absurd (none_in s m);
    ends = λ t k i. h t k;
    repaired = λ t. tt;
  }

  -- a part that does not hold, whether it is passed over or not
  pub says_fails : (n : ℕ) (b : Context) (e : Term) (kind : WhyKind) (v : Option Val) → IsPassable kind → (may_spare sp.at e ≡ true → (t : Values) → HoldsButOf g sp.at d c a t) → ((t : Values) → Completes p t → HoldsOf g n b e t → ⊥)
      → Says g sp.at c a d p (fails sp p (stood n (b, e)) kind v)
  says_fails n b e kind v passable repairs h = by_test (may_spare sp.at e) refl
    where
      over : may_spare sp.at e ≡ true → Says g sp.at c a d p (spares sp p (stood n (b, e)) kind v)
      over i = record {
        long = refl;
        more = within_itself p;
        before = λ s m. absurd (none_in s m);
        spared = λ w m. subst (λ (x : SparedPart). IsSpared g sp.at p x) (one_in _ w m) (record { may = i; stands = refl; passable = passable; slots = refl; lacks = h });
        ends = λ t z. absurd (some_none _ _ z);
        repaired = λ t k. repairs i t;
      }

      by_test : (o : Bool) → may_spare sp.at e ≡ o → Says g sp.at c a d p (if o then spares sp p (stood n (b, e)) kind v else stops p (stood n (b, e)) (place_of e) kind)
      by_test true i = over i
      by_test false i = says_stops n b e (place_of e) kind h

  pub says_faulted : (s : Stood) (f : Fault) → Says g sp.at c a d p (faulted p s f)
  says_faulted s f = record {
    long = refl;
    more = within_itself p;
    before = λ u m. absurd (none_in u m);
    spared = λ u m. absurd (none_in u m);
    ends = λ t k i. absurd (i tt);
    repaired = λ t. tt;
  }

module _ (g : Setting) (sp : Sparing) (d : ℕ) (c : Context) (a : Term) (p : Places) (known : KnowsAll g p c a) where
  there : Values → Context
  there t = at_next g.which c (map Some t)

  form_known : (f : Form) → form g (length c.slots) a ≡ f → (t : Values) → Completes p t → FormKnows f
  form_known f i t k = let w = known t k in subst FormKnows i (form_knows g w.definitions (length c.slots) a w.known)

  pub held : (f : Form) → form g (length c.slots) a ≡ f → (t : Values) → FormHolds g d (Holds g d) (at_next g.which c (map Some t)) a f → HoldsOf g (suc d) c a t
  held f i t h = form_held g d c (map Some t) a (subst (λ (y : Form). FormHolds g d (Holds g d) (at_next g.which c (map Some t)) a y) (sym i) h)

  pub holds : (f : Form) → form g (length c.slots) a ≡ f → (t : Values) → HoldsOf g (suc d) c a t → FormHolds g d (Holds g d) (at_next g.which c (map Some t)) a f
  holds f i t h = subst (λ (y : Form). FormHolds g d (Holds g d) (at_next g.which c (map Some t)) a y) i (held_form g d c (map Some t) a h)

  pub at_place : (t : Values) (n : ℕ) (v : Val) → slice_get (at_next g.which c (map Some t)).next n ≡ Some (Some v) → slice_get (map Some t) n ≡ Some (Some v)
  at_place t n v e = subst (λ (q : Places). slice_get q n ≡ Some (Some v)) (at_next_is g.which c (map Some t)) e

  in_place : (t : Values) (n : ℕ) (v : Val) → slice_get (map Some t) n ≡ Some (Some v) → slice_get (at_next g.which c (map Some t)).next n ≡ Some (Some v)
  in_place t n v e = subst (λ (q : Places). slice_get q n ≡ Some (Some v)) (sym (at_next_is g.which c (map Some t))) e

  -- a test

  truth_there : (r : Result Bool Fault) → TruthOf (Evaluates g.table (suc d)) (at_next g.which c p) a r → (t : Values) → IsWithin p (map Some t) → TruthOf (Evaluates g.table (suc d)) (at_next g.which c (map Some t)) a r
  truth_there r h t w = truth_keeps g.table (suc d) (at_next g.which c p) (at_next g.which c (map Some t)) (at_more g.which c p (map Some t) w) a r h

  pub test_says : form g (length c.slots) a ≡ test → (r : Result Bool Fault) → TruthOf (Evaluates g.table (suc d)) (at_next g.which c p) a r → (x : Trace) → Tested sp p (stood (suc d) (c, a)) r x → Says g sp.at c a (suc d) p x
  test_says i (Ok true) h x e = says_same g sp c a (suc d) p x (here p) e (says_passed g sp c a (suc d) p p refl (within_itself p) (λ t k. held test i t (truth_there (Ok true) h t k.has)))
  test_says i (Ok false) h x e = says_same g sp c a (suc d) p x (fails sp p (stood (suc d) (c, a)) why.TestFalse None) e
      (says_fails g sp c a (suc d) p (suc d) c a why.TestFalse None tt (λ o t. single_but g sp.at d t c a test i refl o) (λ t k m. true_false
      ((truth_fine g.table (suc d) (at_next g.which c (map Some t)) a (known t k)).one (Ok false) (Ok true) (truth_there (Ok false) h t k.has) (holds test i t m))))
  test_says i (Err f) h x e = says_same g sp c a (suc d) p x (faulted p (stood (suc d) (c, a)) f) e (says_faulted g sp c a (suc d) p (stood (suc d) (c, a)) f)

  -- x' = e

  module _ (n : ℕ) (e : Term) (i : form g (length c.slots) a ≡ assign n e) where
    value_there : (r : Result Val Fault) → Evaluates g.table d (at_next g.which c p) e r → (t : Values) → IsWithin p (map Some t) → Evaluates g.table d (at_next g.which c (map Some t)) e r
    value_there r h t w = term_keeps g.table d (at_next g.which c p) (at_next g.which c (map Some t)) (at_more g.which c p (map Some t) w) e r h

    pub at_one_value : (r s : Result Val Fault) → Evaluates g.table d (at_next g.which c p) e r → (t : Values) → Completes p t → Evaluates g.table d (at_next g.which c (map Some t)) e s → r ≡ s
    at_one_value r s h t k m =
        let w = known t k in
        (term_fine g.table d (at_next g.which c (map Some t)) e (reads_values g.table (at_next g.which c (map Some t)) e w.definitions (holds_values g.table (at_next g.which c (map Some t)) a w) (form_known (assign n e) i t k))).one
        r s (value_there r h t k.has) m

    equated_says : (v : Val) → Evaluates g.table d (at_next g.which c p) e (Ok v) → (o : Option (Option Val)) → slice_get p n ≡ o → (x : Trace) → Equated sp p (stood (suc d) (c, a)) n v o x → Says g sp.at c a (suc d) p x
    equated_says v h (Some (Some w)) q x (inl m) = says_same g sp c a (suc d) p x (here p) m.1
        (says_passed g sp c a (suc d) p p refl (within_itself p) (λ t k. held (assign n e) i t
        (v, value_there (Ok v) h t k.has, in_place t n v (subst (λ (u : Val). slice_get (map Some t) n ≡ Some (Some u)) m.0 (k.has n w q)))))
    equated_says v h (Some (Some w)) q x (inr m) = says_same g sp c a (suc d) p x (fails sp p (stood (suc d) (c, a)) (why.Differs (record { 0 = n })) (Some v)) m.1
        (says_fails g sp c a (suc d) p (suc d) c a (why.Differs (record { 0 = n })) (Some v) tt (λ o t. single_but g sp.at d t c a (assign n e) i refl o) (λ t k l.
        let r = holds (assign n e) i t l in
        let s = ok_same v r.0 (at_one_value (Ok v) (Ok r.0) h t k r.1) in
        m.0 (place_same w r.0 (sym (k.has n w q) ∙ at_place t n r.0 r.2) ∙ sym s)))
    equated_says v h (Some None) q x m = says_same g sp c a (suc d) p x (here (slice_set p n (Some v))) m
        (says_passed g sp c a (suc d) p (slice_set p n (Some v)) (set_length p n (Some v)) (set_within p n v q) (λ t k. held (assign n e) i t
        (v, value_there (Ok v) h t (within_trans p (slice_set p n (Some v)) (map Some t) (set_within p n v q) k.has), in_place t n v (k.has n v (set_there p n v q)))))
    equated_says v h None q x m = absurd m

    pub assign_says : (r : Result Val Fault) → Evaluates g.table d (at_next g.which c p) e r → (x : Trace) → Assigned sp p (stood (suc d) (c, a)) n r x → Says g sp.at c a (suc d) p x
    assign_says (Ok v) h x m = equated_says v h (slice_get p n) refl x m
    assign_says (Err f) h x m = says_same g sp c a (suc d) p x (faulted p (stood (suc d) (c, a)) f) m (says_faulted g sp c a (suc d) p (stood (suc d) (c, a)) f)

  -- x' \in S

  module _ (n : ℕ) (e : Term) (i : form g (length c.slots) a ≡ choose n e) where
    set_at_more : (r : Result Described Fault) → MeansSet (Describes g.table d) (at_next g.which c p) e r → (t : Values) → IsWithin p (map Some t) → MeansSet (Describes g.table d) (at_next g.which c (map Some t)) e r
    set_at_more r h t w = keeps_first (Describes g.table d (at_next g.which c p) e) (Describes g.table d (at_next g.which c (map Some t)) e) (set_at (place_of e))
        (set_keeps g.table d (at_next g.which c p) (at_next g.which c (map Some t)) (at_more g.which c p (map Some t) w) e) r h

    pub same_set : (S : Described) → MeansSet (Describes g.table d) (at_next g.which c p) e (Ok S) → (t : Values) → Completes p t → HoldsOf g (suc d) c a t → (v : Val) × (slice_get (map Some t) n ≡ Some (Some v)) × Belongs S v
    same_set S h t k m =
        let w = known t k in
        let r = holds (choose n e) i t m in
        let one = set_one g.table d (at_next g.which c (map Some t)) e (reads_values g.table (at_next g.which c (map Some t)) e w.definitions (holds_values g.table (at_next g.which c (map Some t)) a w) (form_known (choose n e) i t k)) in
        let s = ok_same S r.1 (one_then (Describes g.table d (at_next g.which c (map Some t)) e) (set_at (place_of e)) one (λ T o. one_set_at (place_of e) T) (Ok S) (Ok r.1) (set_at_more (Ok S) h t k.has) r.2) in
        (r.0, at_place t n r.0 r.3, subst (λ (T : Described). Belongs T r.0) (sym s) r.4)

    member_says : (S : Described) → MeansSet (Describes g.table d) (at_next g.which c p) e (Ok S) → slice_get p n ≡ Some None → (v : Val) → Belongs S v → (j : ℕ) → Says g sp.at c a (suc d) p (chosen j (here (slice_set p n (Some v))))
    member_says S h q v b j = let s = says_passed g sp c a (suc d) p (slice_set p n (Some v)) (set_length p n (Some v)) (set_within p n v q) (λ t k. held (choose n e) i t
        (v, S, set_at_more (Ok S) h t (within_trans p (slice_set p n (Some v)) (map Some t) (set_within p n v q) k.has), in_place t n v (k.has n v (set_there p n v q)), b)) in
        record { long = s.long; more = s.more; before = s.before; spared = s.spared; ends = s.ends; repaired = s.repaired }

    of_members : (S : Described) → MeansSet (Describes g.table d) (at_next g.which c p) e (Ok S) → slice_get p n ≡ Some None → (us : List Val) → ((v : Val) → Contains us v → Belongs S v)
        → ((t : Values) → Completes p t → (v : Val) → slice_get (map Some t) n ≡ Some (Some v) → Belongs S v → Contains us v)
        → (x : Trace) → Chooses (λ v y. y ≡ here (slice_set p n (Some v))) p (stood (suc d) (c, a)) us x → Says g sp.at c a (suc d) p x
    of_members S h q [] l k x m = says_same g sp c a (suc d) p x (stops p (stood (suc d) (c, a)) (place_of a) why.NoMember) m
        (says_stops g sp c a (suc d) p (suc d) c a (place_of a) why.NoMember (λ t w b. let r = same_set S h t w b in none_in r.0 (k t w r.0 r.1 r.2)))
    of_members S h q (v ∷ us) l k x m = says_same g sp c a (suc d) p x (chosen m.0 m.1.2.0) m.1.2.2
        (says_same g sp c a (suc d) p (chosen m.0 m.1.2.0) (chosen m.0 (here (slice_set p n (Some m.1.0)))) (ap (chosen m.0) m.1.2.1)
        (member_says S h q m.1.0 (l m.1.0 (get_in (v ∷ us) m.0 m.1.0 m.1.1)) m.0))

    members_says : (S : Described) → MeansSet (Describes g.table d) (at_next g.which c p) e (Ok S) → slice_get p n ≡ Some None
        → (r : Result Val Fault) → list_at (place_of e) S r → (x : Trace) → Members p (stood (suc d) (c, a)) n r x → Says g sp.at c a (suc d) p x
    members_says S h q (Err f) l x m = says_same g sp c a (suc d) p x (faulted p (stood (suc d) (c, a)) f) m (says_faulted g sp c a (suc d) p (stood (suc d) (c, a)) f)
    members_says S h q (Ok u) l x m = of_members S h q (items_of u) (listed_in (place_of e) S u l) (λ t k v w b. (listed_belong (place_of e) S u l v (value_of t n v k.values w)).0 b) x m

    pub choose_says : (r : Result Described Fault) → MeansSet (Describes g.table d) (at_next g.which c p) e r → (o : Option (Option Val)) → slice_get p n ≡ o
        → (x : Trace) → Chosen sp p (stood (suc d) (c, a)) n (place_of e) r o x → Says g sp.at c a (suc d) p x
    choose_says (Err f) h o q x m = says_same g sp c a (suc d) p x (faulted p (stood (suc d) (c, a)) f) m (says_faulted g sp c a (suc d) p (stood (suc d) (c, a)) f)
    choose_says (Ok S) h (Some (Some w)) q x (inl m) = says_same g sp c a (suc d) p x (here p) m.1
        (says_passed g sp c a (suc d) p p refl (within_itself p) (λ t k. held (choose n e) i t (w, S, set_at_more (Ok S) h t k.has, in_place t n w (k.has n w q), m.0)))
    choose_says (Ok S) h (Some (Some w)) q x (inr m) = says_same g sp c a (suc d) p x (fails sp p (stood (suc d) (c, a)) (why.NotIn (record { 0 = n })) None) m.1
        (says_fails g sp c a (suc d) p (suc d) c a (why.NotIn (record { 0 = n })) None tt (λ o t. single_but g sp.at d t c a (choose n e) i refl o) (λ t k b.
        let r = same_set S h t k b in m.0 (subst (λ (u : Val). Belongs S u) (sym (place_same w r.0 (sym (k.has n w q) ∙ r.1))) r.2)))
    choose_says (Ok S) h (Some None) q x m = members_says S h q m.0 m.1 x m.2
    choose_says (Ok S) h None q x m = absurd m
