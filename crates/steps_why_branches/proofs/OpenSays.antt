-- What is told of each branch of an action that is taken apart, and so of each branch.
use Rattle.std.proofs.Common.{◌≡◌, inl, inr, refl, sym, ◌∙◌, ap, subst, ℕ, suc, [], ◌∷◌, ◌++◌, length}
use Rattle.std.specs.Prelude.{List, Bool, true, false, Contains, Result, Ok, Err}
use Rattle.std.specs.List.{AllByRecursion}
use Rattle.states_core.specs.States.{Values}
use Rattle.states_core.specs.declared.fault.Fault.{Fault}
use Rattle.names_terms.specs.Terms.{Term, place_of}
use Rattle.eval_meanings.specs.Contexts.{Context, Places}
use Rattle.eval_meanings.specs.Laws.{IsWithin}
use Rattle.actions_meanings.specs.Forms.{Setting}
use Rattle.actions_meanings.specs.Holds.{Opened, OpenedHolds, all_of, one_of}
use Rattle.actions_meanings.specs.Filled.{Completes}
use Rattle.steps_found_states.specs.Parts.{Parts}
use Rattle.steps_found_states.specs.Walks.{HoldsOf}
use Rattle.steps_found_states.proofs.Lists.{all_by_place, any_of, in_cases, of_any, one_in}
use Rattle.steps_found_states.proofs.Finding.{completes_less, within_itself, within_trans}
use Rattle.steps_why_branches.specs.declared.sparing.Sparing.{Sparing}
use Rattle.steps_why_branches.specs.Traces.{End, SparedPart, Stood, Trace, added, after_spared, chosen, ended, faulted, gone, here, passed, stops}
use Rattle.steps_why_branches.specs.Branches.{Branches, Goes, OneBranches, Onward, OpenedBranches, Turns, stood}
use Rattle.steps_why_branches.specs.Firsts.{IsFault}
use Rattle.steps_why_branches.specs.Repaired.{HoldsButOf}
use Rattle.steps_why_branches.specs.Told.{EndRepairs, EndSays, IsSpared, KnowsAll, Says, filled_at}
use Rattle.steps_why_branches.specs.declared.why.Why.{Why}
use Rattle.steps_why_branches.specs.declared.why.WhyKind.TheVariants as why
use Rattle.steps_why_branches.proofs.LeafSays.{says_faulted, says_same, says_stops, some_none}
use Rattle.values_core.specs.Ascending.{none_in}
use Rattle.steps_why_branches.proofs.Elements.{get_in}

-- what is told of the branches of parts, where this may be passed over, is told of them as of those of the whole
abbrev pub Saying : Setting → Sparing → Sparing → ℕ → Type 0
Saying g sp inner d = (c : Context) (a : Term) (p : Places) (x : Trace) → KnowsAll g p c a → Branches g inner d c a p x → Says g sp.at c a d p x

-- and so behind parts that were passed over
abbrev pub SayingOn : Setting → Sparing → Sparing → ℕ → Type 0
SayingOn g sp inner d = (ws : List SparedPart) → Saying g sp (after_spared ws inner) d

-- nothing in two lists together
pub none_of : (us ws : List SparedPart) → us ++ ws ≡ [] → (us ≡ []) × (ws ≡ [])
none_of [] ws e = (refl, e)
none_of (u ∷ us) ws e = absurd (some_none u (us ++ ws) e)

module _ (g : Setting) (sp : Sparing) where
  -- Parts that must all hold: what is told on the way, from the places p.

  abbrev pub StopSays : End → Values → Type 0
  StopSays (passed q) t = Unit {0}
  StopSays (ended q s w) t = Completes q t → (IsFault w.reason → ⊥) → HoldsOf g s.depth s.at s.term t → ⊥

  pub record OnWay (p : Places) (y : Trace) : Type 0 where
    pub long : length (filled_at y.end) ≡ length p
    pub more : IsWithin p (filled_at y.end)
    pub before : (s : Stood) → Contains y.before s → (t : Values) → Completes (filled_at y.end) t → HoldsOf g s.depth s.at s.term t
    pub spared : (w : SparedPart) → Contains y.spared w → IsSpared g sp.at (filled_at y.end) w
    pub stops : (t : Values) → StopSays y.end t

  -- and of the parts themselves, where all were gone through and nothing was passed over
  abbrev pub AllPassed : ℕ → Parts → List SparedPart → End → Type 0
  AllPassed d es ws (passed q) = ws ≡ [] → (t : Values) → Completes q t → AllByRecursion (λ e. HoldsOf g d e.0 e.1 t) es
  AllPassed d es ws (ended q s w) = Unit {0}

  none_passed : (d : ℕ) (ws : List SparedPart) (n : End) → AllPassed d [] ws n
  none_passed d ws (passed q) = λ i t k. tt
  none_passed d ws (ended q s w) = tt

  -- each of them would hold if those that were passed over did
  abbrev pub AllBut : ℕ → Parts → End → Type 0
  AllBut d es (passed q) = (t : Values) → Completes q t → AllByRecursion (λ e. HoldsButOf g sp.at d e.0 e.1 t) es
  AllBut d es (ended q s w) = Unit {0}

  none_but : (d : ℕ) (n : End) → AllBut d [] n
  none_but d (passed q) = λ t k. tt
  none_but d (ended q s w) = tt

  -- it lacks the same where more is filled
  later_spared : (q r : Places) (w : SparedPart) → ((t : Values) → Completes r t → Completes q t) → IsSpared g sp.at q w → IsSpared g sp.at r w
  later_spared q r w h s = record { may = s.may; stands = s.stands; passable = s.passable; slots = s.slots; lacks = λ t k. s.lacks t (h t k) }

  pub record Further (y x : End) : Type 0 where
    pub long : length (filled_at x) ≡ length (filled_at y)
    pub more : IsWithin (filled_at y) (filled_at x)

  module _ (inner : Sparing) (d : ℕ) (says : SayingOn g sp inner d) (p : Places) where
    onward_ended : (es : Parts) (y : Trace) (q : Places) (s : Stood) (w : Why) → y.end ≡ ended q s w → (x : Trace) → Onward (Turns g inner d) d es y x → x ≡ y
    onward_ended [] y q s w i x h = h
    onward_ended (e ∷ es) y q s w i x h =
        let k : h.0 ≡ y = subst (λ (n : End). Goes (Turns g inner d) d e y n h.0) i h.1 in
        onward_ended es h.0 q s w (ap (λ (z : Trace). z.end) k ∙ i) x h.2 ∙ k

    -- one part more
    pub way_on : (e : Context × Term) (y : Trace) (q : Places) → y.end ≡ passed q → OnWay p y → (z : Trace) → Says g sp.at e.0 e.1 d q z → OnWay p (added (stood d e) y z)
    way_on e y q i h z s = record {
      long = s.long ∙ subst (λ (n : End). length (filled_at n) ≡ length p) i h.long;
      more = within_trans p q (filled_at z.end) (subst (λ (n : End). IsWithin p (filled_at n)) i h.more) s.more;
      before = λ u m t k. elim (in_cases y.before (gone (stood d e) z.spared z.end z.before) u m) [
        | inl n ↦ h.before u n t (less t k)
        | inr n ↦ newer z.spared z.end u n t k s.before s.ends
      ];
      spared = λ w m. elim (in_cases y.spared z.spared w m) [
        | inl n ↦ later_spared (filled_at y.end) (filled_at z.end) w less (h.spared w n)
        | inr n ↦ s.spared w n
      ];
      stops = λ t. stopped z.spared z.end t (s.ends t);
    }
      where
        less : (t : Values) → Completes (filled_at z.end) t → Completes (filled_at y.end) t
        less t k = completes_less (filled_at y.end) (filled_at z.end) t (s.long ∙ sym (ap (λ (n : End). length (filled_at n)) i)) (subst (λ (n : End). IsWithin (filled_at n) (filled_at z.end)) (sym i) s.more) k

        newer : (ws : List SparedPart) (n : End) (u : Stood) → Contains (gone (stood d e) ws n z.before) u → (t : Values) → Completes (filled_at n) t
            → ((v : Stood) → Contains z.before v → (t : Values) → Completes (filled_at n) t → HoldsOf g v.depth v.at v.term t) → ((t : Values) → EndSays g e.0 e.1 d ws n t) → HoldsOf g u.depth u.at u.term t
        newer [] (passed r) u m t k f l = subst (λ (v : Stood). HoldsOf g v.depth v.at v.term t) (one_in (stood d e) u m) (l t refl k)
        newer [] (ended r v w) u m t k f l = f u m t k
        newer (w ∷ ws) n u m t k f l = f u m t k

        stopped : (ws : List SparedPart) (n : End) (t : Values) → EndSays g e.0 e.1 d ws n t → StopSays n t
        stopped ws (passed r) t l = tt
        stopped ws (ended r v w) t l = l

    further_on : (e : Context × Term) (y : Trace) (q : Places) → y.end ≡ passed q → (z : Trace) → Says g sp.at e.0 e.1 d q z → Further y.end z.end
    further_on e y q i z s = record {
      long = s.long ∙ sym (ap (λ (n : End). length (filled_at n)) i);
      more = subst (λ (n : End). IsWithin (filled_at n) (filled_at z.end)) (sym i) s.more;
    }

    pub record Reached (es : Parts) (y x : Trace) : Type 0 where
      pub way : OnWay p x
      pub further : Further y.end x.end
      pub none : x.spared ≡ [] → y.spared ≡ []
      pub all : AllPassed d es x.spared x.end
      pub but : AllBut d es x.end

    all_ended : (es : Parts) (ws : List SparedPart) (n : End) (q : Places) (s : Stood) (w : Why) → n ≡ ended q s w → AllPassed d es ws n
    all_ended es ws n q s w i = subst (λ (m : End). AllPassed d es ws m) (sym i) tt

    further_itself : (n : End) → Further n n
    further_itself n = record { long = refl; more = within_itself (filled_at n) }

    further_trans : (l m n : End) → Further l m → Further m n → Further l n
    further_trans l m n a b = record { long = b.long ∙ a.long; more = within_trans (filled_at l) (filled_at m) (filled_at n) a.more b.more }

    all_more : (e : Context × Term) (es : Parts) (us ws : List SparedPart) (z x : End) → (ws ≡ [] → us ≡ []) → Further z x → ((t : Values) → EndSays g e.0 e.1 d us z t) → AllPassed d es ws x
        → ((q : Places) (s : Stood) (w : Why) → z ≡ ended q s w → x ≡ z) → AllPassed d (e ∷ es) ws x
    all_more e es us ws (passed r) (passed q) n f l a j = λ i t k. (l t (n i) (completes_less r q t f.long f.more k), a i t k)
    all_more e es us ws (passed r) (ended q s w) n f l a j = tt
    all_more e es us ws (ended r s w) x n f l a j = all_ended (e ∷ es) ws x r s w (j r s w refl)

    but_ended : (es : Parts) (n : End) (q : Places) (s : Stood) (w : Why) → n ≡ ended q s w → AllBut d es n
    but_ended es n q s w i = subst (λ (m : End). AllBut d es m) (sym i) tt

    but_more : (e : Context × Term) (es : Parts) (z x : End) → Further z x → ((t : Values) → EndRepairs g sp.at e.0 e.1 d z t) → AllBut d es x → ((q : Places) (s : Stood) (w : Why) → z ≡ ended q s w → x ≡ z) → AllBut d (e ∷ es) x
    but_more e es (passed r) (passed q) f l a j = λ t k. (l t (completes_less r q t f.long f.more k), a t k)
    but_more e es (passed r) (ended q s w) f l a j = tt
    but_more e es (ended r s w) x f l a j = but_ended (e ∷ es) x r s w (j r s w refl)

    -- at each state that extends what is filled on the way
    pub know_on : (e : Context × Term) (y : Trace) (q : Places) → y.end ≡ passed q → OnWay p y → KnowsAll g p e.0 e.1 → KnowsAll g q e.0 e.1
    know_on e y q i h w t k = w t (completes_less p q t (subst (λ (n : End). length (filled_at n) ≡ length p) i h.long) (subst (λ (n : End). IsWithin p (filled_at n)) i h.more) k)

    by_end : (e : Context × Term) (es : Parts) (y x : Trace) → OnWay p y → KnowsAll g p e.0 e.1 → Onward (Turns g inner d) d (e ∷ es) y x → ((z : Trace) → OnWay p z → Onward (Turns g inner d) d es z x → Reached es z x)
        → (n : End) → y.end ≡ n → Reached (e ∷ es) y x
    by_end e es y x h w i on (passed q) j =
        let b = subst (λ (n : End). Goes (Turns g inner d) d e y n i.0) j i.1 in
        let s = says y.spared e.0 e.1 q b.0 (know_on e y q j h w) b.1 in
        let way = subst (λ (z : Trace). OnWay p z) (sym b.2) (way_on e y q j h b.0 s) in
        let r = on i.0 way i.2 in
        let same : i.0.end ≡ b.0.end = ap (λ (z : Trace). z.end) b.2 in
        let parts : i.0.spared ≡ y.spared ++ b.0.spared = ap (λ (z : Trace). z.spared) b.2 in
        let none : x.spared ≡ [] → (y.spared ≡ []) × (b.0.spared ≡ []) = λ l. none_of y.spared b.0.spared (sym parts ∙ r.none l) in
        let first = subst (λ (n : End). Further y.end n) (sym same) (further_on e y q j b.0 s) in record {
          way = r.way;
          further = further_trans y.end i.0.end x.end first r.further;
          none = λ l. (none l).0;
          all = all_more e es b.0.spared x.spared i.0.end x.end (λ l. (none l).1) r.further (λ t. subst (λ (n : End). EndSays g e.0 e.1 d b.0.spared n t) (sym same) (s.ends t)) r.all
              (λ q s w k. ap (λ (z : Trace). z.end) (onward_ended es i.0 q s w k x i.2));
          but = but_more e es i.0.end x.end r.further (λ t. subst (λ (n : End). EndRepairs g sp.at e.0 e.1 d n t) (sym same) (s.repaired t)) r.but
              (λ q s w k. ap (λ (z : Trace). z.end) (onward_ended es i.0 q s w k x i.2));
        }
    by_end e es y x h w i on (ended q s v) j =
        let k : x ≡ y = onward_ended (e ∷ es) y q s v j x i in record {
          way = subst (λ (z : Trace). OnWay p z) (sym k) h;
          further = subst (λ (z : Trace). Further y.end z.end) (sym k) (further_itself y.end);
          none = λ l. sym (ap (λ (z : Trace). z.spared) k) ∙ l;
          all = all_ended (e ∷ es) x.spared x.end q s v (ap (λ (z : Trace). z.end) k ∙ j);
          but = but_ended (e ∷ es) x.end q s v (ap (λ (z : Trace). z.end) k ∙ j);
        }

    pub onward_says : (es : Parts) (y x : Trace) → AllByRecursion (λ e. KnowsAll g p e.0 e.1) es → OnWay p y → Onward (Turns g inner d) d es y x → Reached es y x
    onward_says [] y x w h i = record {
      way = subst (λ (z : Trace). OnWay p z) (sym i) h;
      further = subst (λ (z : Trace). Further y.end z.end) (sym i) (further_itself y.end);
      none = λ l. sym (ap (λ (z : Trace). z.spared) i) ∙ l;
      all = none_passed d x.spared x.end;
      but = none_but d x.end;
    }
    onward_says (e ∷ es) y x w h i = by_end e es y x h w.0 i (λ z v k. onward_says es z x w.1 v k) y.end refl

    pub starts : OnWay p (here p)
    starts = record { long = refl; more = within_itself p; before = λ s m. absurd (none_in s m); spared = λ s m. absurd (none_in s m); stops = λ t. tt }

    module _ (c : Context) (a : Term) where
      -- what the action says of a state is what is said by what it opens to
      pub record Opening (o : Opened) : Type 0 where
        pub so : (t : Values) → Completes p t → OpenedHolds (λ b e. HoldsOf g d b e t) o → HoldsOf g (suc d) c a t
        pub but : (t : Values) → Completes p t → OpenedHolds (λ b e. HoldsButOf g sp.at d b e t) o → HoldsButOf g sp.at (suc d) c a t
        pub back : (t : Values) → Completes p t → HoldsOf g (suc d) c a t → OpenedHolds (λ b e. HoldsOf g d b e t) o

      -- and what its parts may read is a value
      abbrev pub PartsKnow : Opened → Type 0
      PartsKnow (all_of es) = AllByRecursion (λ e. KnowsAll g p e.0 e.1) es
      PartsKnow (one_of es) = (e : Context × Term) → Contains es e → KnowsAll g p e.0 e.1

      all_says : (es : Parts) → Opening (all_of es) → PartsKnow (all_of es) → (x : Trace) → Onward (Turns g inner d) d es (here p) x → Says g sp.at c a (suc d) p x
      all_says es o w x h = let r = onward_says es (here p) x w starts h in record {
        long = r.way.long;
        more = r.way.more;
        before = r.way.before;
        spared = r.way.spared;
        ends = λ t. ends x.spared x.end t r.way.long r.way.more r.all (r.way.stops t);
        repaired = λ t. repairs x.end t r.way.long r.way.more r.but;
      }
        where
          repairs : (n : End) (t : Values) → length (filled_at n) ≡ length p → IsWithin p (filled_at n) → AllBut d es n → EndRepairs g sp.at c a (suc d) n t
          repairs (passed q) t l w h = λ k. o.but t (completes_less p q t l w k) (all_by_place (λ e. HoldsButOf g sp.at d e.0 e.1 t) es (h t k))
          repairs (ended q u v) t l w h = tt

          ends : (ws : List SparedPart) (n : End) (t : Values) → length (filled_at n) ≡ length p → IsWithin p (filled_at n) → AllPassed d es ws n → StopSays n t → EndSays g c a (suc d) ws n t
          ends ws (passed q) t l w h s = λ i k. o.so t (completes_less p q t l w k) (all_by_place (λ e. HoldsOf g d e.0 e.1 t) es (h i t k))
          ends ws (ended q u v) t l w h s = s

      -- one of them, as it is
      part_says : (es : Parts) → Opening (one_of es) → PartsKnow (one_of es) → (e : Context × Term) → Contains es e → (x : Trace) → Branches g inner d e.0 e.1 p x → Says g sp.at c a (suc d) p x
      part_says es o w e m x b = let s = says [] e.0 e.1 p x (w e m) b in record {
        long = s.long;
        more = s.more;
        before = s.before;
        spared = s.spared;
        ends = λ t. ends x.spared x.end t s.long s.more (s.ends t);
        repaired = λ t. repairs x.end t s.long s.more (s.repaired t);
      }
        where
          repairs : (n : End) (t : Values) → length (filled_at n) ≡ length p → IsWithin p (filled_at n) → EndRepairs g sp.at e.0 e.1 d n t → EndRepairs g sp.at c a (suc d) n t
          repairs (passed q) t l w h = λ k. o.but t (completes_less p q t l w k) (any_of (λ e. HoldsButOf g sp.at d e.0 e.1 t) es e m (h k))
          repairs (ended q u v) t l w h = tt

          ends : (ws : List SparedPart) (n : End) (t : Values) → length (filled_at n) ≡ length p → IsWithin p (filled_at n) → EndSays g e.0 e.1 d ws n t → EndSays g c a (suc d) ws n t
          ends ws (passed q) t l w h = λ i k. o.so t (completes_less p q t l w k) (any_of (λ e. HoldsOf g d e.0 e.1 t) es e m (h i k))
          ends ws (ended q u v) t l w h = h

      chosen_says : (i : ℕ) (x : Trace) → Says g sp.at c a (suc d) p x → Says g sp.at c a (suc d) p (chosen i x)
      chosen_says i x s = record { long = s.long; more = s.more; before = s.before; spared = s.spared; ends = s.ends; repaired = s.repaired }

      one_says : (b : Bool) (es : Parts) → Opening (one_of es) → PartsKnow (one_of es) → (x : Trace) → OneBranches (Branches g inner d) b es p (stood (suc d) (c, a)) x → Says g sp.at c a (suc d) p x
      one_says false es o w x h = let r = of_any (λ e. Branches g inner d e.0 e.1 p x) es h in part_says es o w r.0 r.1 x r.2
      one_says true [] o w x h = says_same g sp c a (suc d) p x (stops p (stood (suc d) (c, a)) (place_of a) why.NoMember) h
          (says_stops g sp c a (suc d) p (suc d) c a (place_of a) why.NoMember (λ t k m. none_in _ (of_any _ [] (o.back t k m)).1))
      one_says true (e ∷ es) o w x h = says_same g sp c a (suc d) p x (chosen h.0 h.1.2.0) h.1.2.2
          (chosen_says h.0 h.1.2.0 (part_says (e ∷ es) o w h.1.0 (get_in (e ∷ es) h.0 h.1.0 h.1.1) h.1.2.0 h.1.2.1))

      pub opened_says : (b : Bool) (r : Result Opened Fault) → ((o : Opened) → r ≡ Ok o → Opening o × PartsKnow o) → (x : Trace) → OpenedBranches (Turns g inner d) d b p (stood (suc d) (c, a)) r x → Says g sp.at c a (suc d) p x
      opened_says b (Ok (all_of es)) o x h = let w = o (all_of es) refl in all_says es w.0 w.1 x h
      opened_says b (Ok (one_of es)) o x h = let w = o (one_of es) refl in one_says b es w.0 w.1 x h
      opened_says b (Err f) o x h = says_same g sp c a (suc d) p x (faulted p (stood (suc d) (c, a)) f) h (says_faulted g sp c a (suc d) p (stood (suc d) (c, a)) f)
