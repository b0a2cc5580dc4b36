-- What is told of each branch of each action.
use Rattle.std.proofs.Common.{◌≡◌, refl, sym, ◌∙◌, ap, subst, arith, ℕ, zero, suc, [], ◌∷◌, length, map}
use Rattle.std.specs.Prelude.{All, Bool, true, false, List, ◌++◌, Contains, Some, Result, Ok, Err, slice_get}
use Rattle.values_core.specs.declared.fault.EvalKind.TheVariants.{Nested}
use Rattle.states_core.specs.States.{Values}
use Rattle.states_core.specs.declared.fault.Fault.{Fault}
use Rattle.names_terms.specs.Terms.{Term, place_of}
use Rattle.eval_meanings.specs.Contexts.{Context, Places}
use Rattle.eval_meanings.specs.Evaluates.{Evaluates}
use Rattle.eval_meanings.specs.Laws.{IsWithin, KnowsValues, ReadsValues}
use Rattle.eval_meanings.specs.Outcomes.{fault}
use Rattle.eval_meanings.specs.Unchanged.{TruthOf, changed_of}
use Rattle.actions_meanings.specs.Forms.{Setting, Form, form, test, assign, choose, both, either, narrowed, some, branch, arms, inside, call, changing}
use Rattle.actions_meanings.specs.Reads.{in_none}
use Rattle.actions_meanings.specs.Holds.{FormHolds, Holds, Opened, OpenedHolds, Opens, all_of, one_of}
use Rattle.steps_lines_defs.specs.Asks.{AreSeen}
use Rattle.actions_meanings.specs.Filled.{Completes, at_next}
use Rattle.steps_found_states.specs.Grounds.{OpensFrom}
use Rattle.steps_found_states.specs.Walks.{Agrees, HoldsOf}
use Rattle.steps_found_states.proofs.Changes.{changed_is_test}
use Rattle.steps_found_states.proofs.Finding.{completes_less, within_itself}
use Rattle.steps_found_states.proofs.FormParts.{form_knows}
use Rattle.steps_found_states.proofs.Inner.{are_parts, is_part}
use Rattle.steps_found_states.proofs.Lists.{all_by_place, all_from, all_in}
use Rattle.steps_found_states.proofs.Opened.{form_held, held_form, held_opened, holds_back, holds_there, opened_held}
use Rattle.steps_found_states.proofs.Openings.{FormKnows, all_placed, one_opens, opened_at, opens_at}
use Rattle.steps_found_states.proofs.Placed.{holds_values, reads_values}
use Rattle.steps_found_states.proofs.Simple.{finds_false, finds_true}
use Rattle.steps_why_branches.specs.declared.sparing.Passing.{Passing}
use Rattle.steps_why_branches.specs.declared.sparing.Passing.TheVariants as passing
use Rattle.steps_why_branches.specs.PassedOver.{called, may_spare, nothing}
use Rattle.steps_why_branches.specs.declared.sparing.Sparing.{Sparing}
use Rattle.steps_why_branches.specs.Traces.{End, SparedPart, Trace, added, after_spared, ended, faulted, here, passed, stops}
use Rattle.steps_why_branches.specs.Branches.{Altered, Branches, FormBranches, Goes, OpenedBranches, Tests, Turns, is_choice, stood, Onward}
use Rattle.steps_why_branches.specs.Repaired.{HoldsBut, HoldsButOf}
use Rattle.steps_why_branches.specs.Told.{EndRepairs, EndRepairsAll, EndSays, IsSpared, KnowsAll, Says, filled_at, EndSaysAll, SaysAll}
use Rattle.steps_why_branches.specs.declared.why.WhyKind.TheVariants as why
use Rattle.steps_why_branches.proofs.LeafSays.{assign_says, choose_says, ok_same, says_faulted, says_passed, says_same, says_stops, test_says}
use Rattle.steps_why_branches.proofs.OpenSays.{AllBut, OnWay, Opening, PartsKnow, SayingOn, StopSays, none_of, opened_says, starts, way_on, AllPassed, onward_says}
use Rattle.steps_why_branches.proofs.Repairs.{Less, form_but, less_but, one_less, opened_but}
use Rattle.values_core.specs.Ascending.{head_in, none_in}
use Rattle.std.specs.List.{AllByRecursion}
use Rattle.steps_found_states.specs.Parts.{Parts}

pub no_see : (t : Values) → AreSeen [] t
no_see t k d l = absurd (omega (arith, l))

pub none_agree : (q : Places) → Agrees [] q
none_agree q k d l = absurd (omega (arith, l))

-- the place is the same further in
pub called_at : (f : Form) (sp : Sparing) → (called f sp).at ≡ sp.at
called_at (call k es) sp = refl
called_at test sp = refl
called_at (assign n e) sp = refl
called_at (choose n e) sp = refl
called_at (both es) sp = refl
called_at (narrowed n es) sp = refl
called_at (either es) sp = refl
called_at (some bs e) sp = refl
called_at (branch q e f) sp = refl
called_at (arms cs other) sp = refl
called_at (inside e) sp = refl
called_at (changing e v) sp = refl

module _ (g : Setting) (sp : Sparing) (d : ℕ) (c : Context) (a : Term) (p : Places) (known : KnowsAll g p c a) where
  -- in one way at each state that completes the places
  one_way : (t : Values) → Completes p t → (r q : Result Opened Fault) → OpensFrom g d c p (place_of a) (form g (length c.slots) a) r
      → Opens g.table d (at_next g.which c (map Some t)) (place_of a) (form g (length c.slots) a) q → opened_at g.which (map Some t) r ≡ q
  one_way t k r q h i =
      let w = known t k in
      one_opens g.table d (at_next g.which c (map Some t)) w.definitions (holds_values g.table (at_next g.which c (map Some t)) a w) (place_of a) (form g (length c.slots) a)
      (form_knows g w.definitions (length c.slots) a w.known) (opened_at g.which (map Some t) r) q (opens_at g d c p (map Some t) (place_of a) (form g (length c.slots) a) k.has r h) i

  pub opening : (inner : Sparing) (says : SayingOn g sp inner d) → (o : Opened)
      → OpensFrom g d c p (place_of a) (form g (length c.slots) a) (Ok o) → Opening g sp inner d says p c a o
  opening inner says o h = record {
    so = λ t k m. form_held g d c (map Some t) a
        (opened_held g d (Holds g d) c p (at_next g.which c (map Some t)) a (form g (length c.slots) a) (Ok o) h (all_placed g.which (map Some t) o)
        (opens_at g d c p (map Some t) (place_of a) (form g (length c.slots) a) k.has (Ok o) h) (holds_there g d t o m));
    but = λ t k m. opened_but g sp.at d t c a (form g (length c.slots) a) refl p k.has o h m;
    back = λ t k m.
        let r = held_opened g d (Holds g d) c p (at_next g.which c (map Some t)) a (form g (length c.slots) a) (Ok o) h (held_form g d c (map Some t) a m) in
        let e = ok_same (all_placed g.which (map Some t) o) r.0 (one_way t k (Ok o) (Ok r.0) h r.1) in
        holds_back g d t o (subst (λ (x : Opened). OpenedHolds (Holds g d) x) (sym e) r.2);
  }

  pub parts_know : (inner : Sparing) (says : SayingOn g sp inner d) → (o : Opened)
      → OpensFrom g d c p (place_of a) (form g (length c.slots) a) (Ok o) → PartsKnow g sp inner d says p c a o
  parts_know inner says (all_of es) h = all_from (λ e. KnowsAll g p e.0 e.1) es (λ e m t k.
      let w = known t k in
      all_in (λ e. ReadsValues g.table (at_next g.which e.0 (map Some t)) e.1) es
      ((are_parts g d in_none p c a (form g (length c.slots) a) es h).known t (form_knows g w.definitions (length c.slots) a w.known) w.definitions (holds_values g.table (at_next g.which c (map Some t)) a w)) e m)
  parts_know inner says (one_of es) h = λ e m t k.
      let w = known t k in
      (is_part g d in_none p c a (form g (length c.slots) a) es h e m).known t k.has (form_knows g w.definitions (length c.slots) a w.known) w.definitions (holds_values g.table (at_next g.which c (map Some t)) a w)

  -- `<<A>>_v`

  module _ (says : SayingOn g sp sp d) (e v : Term) (i : form g (length c.slots) a ≡ changing e v) where
    knows_both : (t : Values) → Completes p t → KnowsValues e × KnowsValues v
    knows_both t k = let w = known t k in subst FormKnows i (form_knows g w.definitions (length c.slots) a w.known)

    pub knows_first : KnowsAll g p c e
    knows_first t k = let w = known t k in reads_values g.table (at_next g.which c (map Some t)) e w.definitions (holds_values g.table (at_next g.which c (map Some t)) a w) (knows_both t k).0

    pub knows_test : KnowsAll g p c (changed_of (place_of a) v)
    knows_test t k =
        let w = known t k in
        reads_values g.table (at_next g.which c (map Some t)) (changed_of (place_of a) v) w.definitions (holds_values g.table (at_next g.which c (map Some t)) a w) (tt, ((tt, ((knows_both t k).1, tt, tt)), (knows_both t k).1))

    pub altered_says : (q : Places) → KnowsAll g q c (changed_of (place_of a) v) → (r : Result Bool Fault) → TruthOf (Evaluates g.table d) (at_next g.which c q) (changed_of (place_of a) v) r
        → (z : Trace) → Altered q (stood d (c, changed_of (place_of a) v)) r z → Says g sp.at c (changed_of (place_of a) v) d q z
    altered_says q w (Ok true) h z m = says_same g sp c (changed_of (place_of a) v) d q z (here q) m
        (says_passed g sp c (changed_of (place_of a) v) d q q refl (within_itself q) (λ t k.
        (finds_true g c (changed_of (place_of a) v) (changed_is_test g (length c.slots) (place_of a) v) d [] in_none q w (λ C. ⊥) (none_agree q) (λ C n. absurd n) h).sound q t (head_in q []) k))
    altered_says q w (Ok false) h z m = says_same g sp c (changed_of (place_of a) v) d q z (stops q (stood d (c, changed_of (place_of a) v)) (place_of a) why.NoMember) m
        (says_stops g sp c (changed_of (place_of a) v) d q d c (changed_of (place_of a) v) (place_of a) why.NoMember (λ t k b.
        let r = (finds_false g c (changed_of (place_of a) v) (changed_is_test g (length c.slots) (place_of a) v) d [] in_none q w (λ C. ⊥) h).full t k (no_see t) b in none_in r.0 r.1))
    altered_says q w (Err f) h z m = says_same g sp c (changed_of (place_of a) v) d q z (faulted q (stood d (c, changed_of (place_of a) v)) f) m (says_faulted g sp c (changed_of (place_of a) v) d q (stood d (c, changed_of (place_of a) v)) f)

    -- a branch of A alone
    first_way : (y : Trace) → Goes (Turns g sp d) d (c, e) (here p) (passed p) y → OnWay g sp p y
    first_way y h = subst (λ (z : Trace). OnWay g sp p z) (sym h.2) (way_on g sp sp d says p (c, e) (here p) p refl (starts g sp sp d says p) h.0 (says [] c e p h.0 knows_first h.1))

    ended_says : (y : Trace) → OnWay g sp p y → ((t : Values) → EndSays g c a (suc d) y.spared y.end t) → ((t : Values) → EndRepairs g sp.at c a (suc d) y.end t) → Says g sp.at c a (suc d) p y
    ended_says y w h f = record { long = w.long; more = w.more; before = w.before; spared = w.spared; ends = h; repaired = f }

    changes_says : (y : Trace) → OnWay g sp p y → ((q : Places) → y.end ≡ passed q → y.spared ≡ [] → (t : Values) → Completes q t → HoldsOf g d c e t) → ((q : Places) → y.end ≡ passed q → (t : Values) → Completes q t → HoldsButOf g sp.at d c e t)
        → (n : End) → y.end ≡ n → (x : Trace)
        → Goes (Tests g d) d (c, changed_of (place_of a) v) y n x → Says g sp.at c a (suc d) p x
    changes_says y w b e1 (ended q s u) j x m = says_same g sp c a (suc d) p x y m (ended_says y w (λ t. subst (λ (n : End). EndSays g c a (suc d) y.spared n t) (sym j) (subst (λ (n : End). StopSays g sp n t) j (w.stops t))) (λ t. subst (λ (n : End). EndRepairs g sp.at c a (suc d) n t) (sym j) tt))
    changes_says y w b e1 (passed q) j x m =
        let long : length q ≡ length p = subst (λ (n : End). length (filled_at n) ≡ length p) j w.long in
        let more : IsWithin p q = subst (λ (n : End). IsWithin p (filled_at n)) j w.more in
        let known_there : KnowsAll g q c (changed_of (place_of a) v) = λ t k. knows_test t (completes_less p q t long more k) in
        let z = m.0 in
        let s = altered_says q known_there m.1.0 m.1.1 z m.1.2 in
        let way = way_on g sp sp d says p (c, changed_of (place_of a) v) y q j w z s in
        says_same g sp c a (suc d) p x (added (stood d (c, changed_of (place_of a) v)) y z) m.2
        (ended_says (added (stood d (c, changed_of (place_of a) v)) y z) way (λ t. both (y.spared ++ z.spared) z.spared z.end t (none_of y.spared z.spared) s.long s.more (s.ends t) (way.stops t)) (λ t. both_but z.end t s.long s.more (s.repaired t)))
      where
        both : (ws us : List SparedPart) (n : End) (t : Values) → (ws ≡ [] → (y.spared ≡ []) × (us ≡ [])) → length (filled_at n) ≡ length q → IsWithin q (filled_at n)
            → EndSays g c (changed_of (place_of a) v) d us n t → StopSays g sp n t → EndSays g c a (suc d) ws n t
        both ws us (passed r) t o l k h s = λ none f. form_held g d c (map Some t) a (subst (λ (y : Form). FormHolds g d (Holds g d) (at_next g.which c (map Some t)) a y) (sym i)
            (all_of ((at_next g.which c (map Some t), e) ∷ (at_next g.which c (map Some t), changed_of (place_of a) v) ∷ []), refl, two (b q j (o none).0 t (completes_less q r t l k f)) (h (o none).1 f)))
          where
            two : Holds g d (at_next g.which c (map Some t)) e → Holds g d (at_next g.which c (map Some t)) (changed_of (place_of a) v)
                → All {X = Context × Term} (λ e. Holds g d e.0 e.1) ((at_next g.which c (map Some t), e) ∷ (at_next g.which c (map Some t), changed_of (place_of a) v) ∷ [])
            two x y = all_by_place {X = Context × Term} (λ e. Holds g d e.0 e.1) ((at_next g.which c (map Some t), e) ∷ (at_next g.which c (map Some t), changed_of (place_of a) v) ∷ []) (x, (y, tt))
        both ws us (ended r u w) t o l k h s = h

        both_but : (n : End) (t : Values) → length (filled_at n) ≡ length q → IsWithin q (filled_at n) → EndRepairs g sp.at c (changed_of (place_of a) v) d n t → EndRepairs g sp.at c a (suc d) n t
        both_but (passed r) t l k h = λ f. form_but g sp.at d t c a (changing e v) i
            (all_of ((at_next g.which c (map Some t), e) ∷ (at_next g.which c (map Some t), changed_of (place_of a) v) ∷ []), refl, two (e1 q j t (completes_less q r t l k f)) (h f))
          where
            two : HoldsBut g sp.at d (at_next g.which c (map Some t)) e → HoldsBut g sp.at d (at_next g.which c (map Some t)) (changed_of (place_of a) v)
                → All {X = Context × Term} (λ e. HoldsBut g sp.at d e.0 e.1) ((at_next g.which c (map Some t), e) ∷ (at_next g.which c (map Some t), changed_of (place_of a) v) ∷ [])
            two x y = all_by_place {X = Context × Term} (λ e. HoldsBut g sp.at d e.0 e.1) ((at_next g.which c (map Some t), e) ∷ (at_next g.which c (map Some t), changed_of (place_of a) v) ∷ []) (x, (y, tt))
        both_but (ended r u w) t l k h = tt

    pub changing_says : (x : Trace) → FormBranches g sp d (λ inner. Branches g inner d) c a (changing e v) p x → Says g sp.at c a (suc d) p x
    changing_says x h = changes_says h.0 (first_way h.0 h.1) (λ q j i t k. first_holds q j i t k) (λ q j t k. first_but q j t k) h.0.end refl x h.2
      where
        first_holds : (q : Places) → h.0.end ≡ passed q → h.0.spared ≡ [] → (t : Values) → Completes q t → HoldsOf g d c e t
        first_holds q j i t k =
            let s = says [] c e p h.1.0 knows_first h.1.1 in
            let same : h.1.0.end ≡ passed q = sym (ap (λ (z : Trace). z.end) h.1.2) ∙ j in
            let none : h.1.0.spared ≡ [] = sym (ap (λ (z : Trace). z.spared) h.1.2) ∙ i in
            subst (λ (n : End). EndSays g c e d h.1.0.spared n t) same (s.ends t) none k

        first_but : (q : Places) → h.0.end ≡ passed q → (t : Values) → Completes q t → HoldsButOf g sp.at d c e t
        first_but q j t k =
            let s = says [] c e p h.1.0 knows_first h.1.1 in
            let same : h.1.0.end ≡ passed q = sym (ap (λ (z : Trace). z.end) h.1.2) ∙ j in
            subst (λ (n : End). EndRepairs g sp.at c e d n t) same (s.repaired t) k

  -- by the form

  module _ (says : (inner : Sparing) → inner.at ≡ sp.at → SayingOn g sp inner d) where
    opens_says : (f : Form) → form g (length c.slots) a ≡ f → (x : Trace)
        → ((r : Result Opened Fault) × OpensFrom g d c p (place_of a) f r × OpenedBranches (Turns g (called f sp) d) d (is_choice f) p (stood (suc d) (c, a)) r x) → Says g sp.at c a (suc d) p x
    opens_says f i x h =
        let o : OpensFrom g d c p (place_of a) (form g (length c.slots) a) h.0 = subst (λ (y : Form). OpensFrom g d c p (place_of a) y h.0) (sym i) h.1 in
        let parts = says (called f sp) (called_at f sp) in
        opened_says g sp (called f sp) d parts p c a (is_choice f) h.0 (λ q j. let k = subst (λ (r : Result Opened Fault). OpensFrom g d c p (place_of a) (form g (length c.slots) a) r) j o in (opening (called f sp) parts q k, parts_know (called f sp) parts q k)) x h.2

    form_says : (f : Form) → form g (length c.slots) a ≡ f → (x : Trace) → FormBranches g sp d (λ inner. Branches g inner d) c a f p x → Says g sp.at c a (suc d) p x
    form_says test i x h = test_says g sp d c a p known i h.0 h.1 x h.2
    form_says (assign n e) i x h = assign_says g sp d c a p known n e i h.0 h.1 x h.2
    form_says (choose n e) i x h = choose_says g sp d c a p known n e i h.0 h.1 (slice_get p n) refl x h.2
    form_says (changing e v) i x h = changing_says (says sp refl) e v i x h
    form_says (both es) i x h = opens_says (both es) i x h
    form_says (narrowed n es) i x h = opens_says (narrowed n es) i x h
    form_says (either es) i x h = opens_says (either es) i x h
    form_says (some bs e) i x h = opens_says (some bs e) i x h
    form_says (branch q e f) i x h = opens_says (branch q e f) i x h
    form_says (arms cs other) i x h = opens_says (arms cs other) i x h
    form_says (inside e) i x h = opens_says (inside e) i x h
    form_says (call k es) i x h = opens_says (call k es) i x h

    pub more_says : (x : Trace) → Branches g sp (suc d) c a p x → Says g sp.at c a (suc d) p x
    more_says x h = form_says (form g (length c.slots) a) refl x h

-- where less may be passed over

less_spared : (g : Setting) (a b : Passing) → Less a b → (q : Places) (w : SparedPart) → IsSpared g a q w → IsSpared g b q w
less_spared g a b l q w s = record { may = l w.part.term s.may; stands = s.stands; passable = s.passable; slots = s.slots; lacks = s.lacks }

less_says : (g : Setting) (a b : Passing) → Less a b → (c : Context) (e : Term) (d : ℕ) (p : Places) (x : Trace) → Says g a c e d p x → Says g b c e d p x
less_says g a b l c e d p x s = record {
  long = s.long;
  more = s.more;
  before = s.before;
  spared = λ w m. less_spared g a b l (filled_at x.end) w (s.spared w m);
  ends = s.ends;
  repaired = λ t. by_end x.end t (s.repaired t);
}
  where
    by_end : (n : End) (t : Values) → EndRepairs g a c e d n t → EndRepairs g b c e d n t
    by_end (passed q) t h = λ k. less_but g a b l d (at_next g.which c (map Some t)) e (h k)
    by_end (ended q s w) t h = tt

less_behind : (ws : List SparedPart) (inner sp : Sparing) → inner.at ≡ sp.at → Less (after_spared ws inner).at sp.at
less_behind ws inner sp e t h = subst (λ (at : Passing). may_spare at t ≡ true) e (by_list ws h)
  where
    by_list : (us : List SparedPart) → may_spare (after_spared us inner).at t ≡ true → may_spare inner.at t ≡ true
    by_list [] h = h
    by_list (u ∷ us) h = one_less u.told.why.at inner.at t h

-- so of each branch of each action
pub branches_say : (g : Setting) (sp : Sparing) (d : ℕ) (c : Context) (a : Term) (p : Places) (x : Trace) → KnowsAll g p c a → Branches g sp d c a p x → Says g sp.at c a d p x
branches_say g sp zero c a p x w h = says_same g sp c a zero p x (faulted p (stood zero (c, a)) (fault Nested (place_of a))) h (says_faulted g sp c a zero p (stood zero (c, a)) (fault Nested (place_of a)))
branches_say g sp (suc d) c a p x w h = more_says g sp d c a p w (λ inner e ws c a p x v k. less_says g (after_spared ws inner).at sp.at (less_behind ws inner sp e) c a d p x (branches_say g (after_spared ws inner) d c a p x v k)) x h

-- and so further in, and behind parts that were passed over
pub inner_say : (g : Setting) (sp : Sparing) (d : ℕ) (inner : Sparing) → inner.at ≡ sp.at → SayingOn g sp inner d
inner_say g sp d inner e ws c a p x v k = less_says g (after_spared ws inner).at sp.at (less_behind ws inner sp e) c a d p x (branches_say g (after_spared ws inner) d c a p x v k)

pub form_says_so : (g : Setting) (sp : Sparing) (d : ℕ) (c : Context) (a : Term) (p : Places) (w : KnowsAll g p c a) (f : Form) → form g (length c.slots) a ≡ f → (x : Trace)
    → FormBranches g sp d (λ inner. Branches g inner d) c a f p x → Says g sp.at c a (suc d) p x
form_says_so g sp d c a p w f i x h = form_says g sp d c a p w (inner_say g sp d) f i x h

-- and of parts that must all hold
pub parts_say : (g : Setting) (sp : Sparing) (d : ℕ) (es : Parts) (p : Places) (x : Trace) → AllByRecursion (λ e. KnowsAll g p e.0 e.1) es → Onward (Turns g sp d) d es (here p) x → SaysAll g sp.at d es p x
parts_say g sp d es p x w h =
    let says = inner_say g sp d sp refl in
    let r = onward_says g sp sp d says p es (here p) x w (starts g sp sp d says p) h in record {
      long = r.way.long;
      more = r.way.more;
      before = r.way.before;
      spared = r.way.spared;
      ends = λ t. by_end x.spared x.end t (r.way.stops t) r.all;
      repaired = λ t. repairs x.end t r.but;
    }
  where
    repairs : (n : End) (t : Values) → AllBut g sp d es n → EndRepairsAll g sp.at d es n t
    repairs (passed q) t h = h t
    repairs (ended q s w) t h = tt

    by_end : (ws : List SparedPart) (n : End) (t : Values) → StopSays g sp n t → AllPassed g sp d es ws n → EndSaysAll g d es ws n t
    by_end ws (passed q) t s h = λ i. h i t
    by_end ws (ended q s w) t h k = h

-- where nothing may be passed over, nothing is
pub none_spared : (g : Setting) (d : ℕ) (es : Parts) (p : Places) (x : Trace) → AllByRecursion (λ e. KnowsAll g p e.0 e.1) es → Onward (Turns g nothing d) d es (here p) x → x.spared ≡ []
none_spared g d es p x w h = by_list x.spared (parts_say g nothing d es p x w h).spared
  where
    by_list : (ws : List SparedPart) → ((w : SparedPart) → Contains ws w → IsSpared g passing.Nothing (filled_at x.end) w) → ws ≡ []
    by_list [] h = refl
    by_list (w ∷ ws) h = absurd (false_true (h w (head_in w ws)).may)
      where
        false_true : false ≡ true → ⊥
        false_true e = cc
