-- What is listed of the branches of an action, part by part: members of a set, arms, parts that must all hold.
use Rattle.std.proofs.Common.{◌≡◌, inl, inr, refl, sym, subst, arith, ℕ, suc, ◌<◌, ◌≤◌, ◌+◌, ◌-◌, List, [], ◌∷◌, ◌++◌, map, length}
use Rattle.std.specs.Prelude.{Bool, true, false, Contains, Option, None, Some, Result, Ok, Err, slice_get, slice_set}
use Rattle.values_core.specs.Data.{Val}
use Rattle.values_core.specs.Sets.{items_of}
use Rattle.states_core.specs.States.{Values}
use Rattle.states_core.specs.declared.fault.Fault.{Fault}
use Rattle.names_terms.specs.Terms.{Term, place_of}
use Rattle.values_sets.specs.DescribedSets.{Described}
use Rattle.eval_meanings.specs.Contexts.{Context, Places}
use Rattle.eval_meanings.specs.Evaluates.{Describes}
use Rattle.eval_meanings.specs.Laws.{ReadsValues}
use Rattle.eval_meanings.specs.Sets.{MeansSet, list_at}
use Rattle.actions_meanings.specs.Forms.{Setting, Form, form, choose, test, assign, both, either, narrowed, some, branch, arms, inside, call, changing}
use Rattle.steps_found_states.proofs.Lists.{any_of, in_cases, of_any, one_in, place_by_all}
use Rattle.steps_found_states.proofs.Simple.{listed_belong}
use Rattle.actions_meanings.specs.Holds.{Opened, OpenedHolds, all_of, one_of}
use Rattle.actions_meanings.specs.Filled.{Completes, at_next}
use Rattle.steps_found_states.specs.Grounds.{OpensFrom}
use Rattle.steps_found_states.specs.Parts.{Parts}
use Rattle.steps_found_states.specs.Walks.{HoldsOf}
use Rattle.steps_why_branches.specs.PassedOver.{called}
use Rattle.steps_why_branches.specs.declared.sparing.Sparing.{Sparing}
use Rattle.steps_why_branches.specs.Traces.{Earlier, End, Stood, Trace, added, after_spared, chosen, ended, faulted, here, passed, stops}
use Rattle.steps_why_branches.specs.Branches.{Branches, Chooses, Chosen, FormBranches, Goes, Members, OneBranches, Onward, OpenedBranches, Turns, is_choice, stood}
use Rattle.steps_why_branches.specs.Firsts.{Covers, Firsts, HasSoMany}
use Rattle.steps_why_branches.specs.Founds.{After, AllHold, AnyHolds, ArmsFound, EachFound, Found, FoundOf, MembersFound, Of, Sets, TurnsFound}
use Rattle.steps_why_branches.specs.Told.{KnowsAll}
use Rattle.steps_why_branches.specs.declared.why.Why.{Why}
use Rattle.steps_why_branches.specs.declared.why.WhyKind.TheVariants as why
use Rattle.steps_why_branches.proofs.Elements.{append_length, map_length}
use Rattle.steps_why_branches.proofs.FirstBranches.{firsts_one, firsts_same}
use Rattle.steps_why_branches.proofs.Turns.{cover_full, cover_more, cover_none, covered_left, covered_map, covered_right, covering_map, covers_still, each_full, each_more, each_none, goes_no_more, goes_on, turn_covers, turn_more}
use Rattle.steps_why_branches.proofs.Choosing.{chooses_some, numbers_full, numbers_more, numbers_none}
use Rattle.steps_why_branches.proofs.EachSays.{inner_say, opening}
use Rattle.steps_why_branches.proofs.One.{one_opening, one_set}
use Rattle.steps_why_branches.proofs.Copies.{one_list_at}
use Rattle.steps_why_branches.proofs.LeafSays.{same_set, value_of}
use Rattle.steps_why_branches.proofs.Found.{found_one, found_same, of_form, set_completes}
use Rattle.values_core.specs.Ascending.{head_in, none_in}

some_more : {X : Type 0} (xs ys : List X) → 1 ≤ length ys → 1 ≤ length (xs ++ ys)
some_more xs ys l = let all : length (xs ++ ys) ≡ length xs + length ys = append_length xs ys in omega (arith, all, l)

-- the members of a listed set, one after the other

pub members_none : (k : ℕ) (p : Places) (n : ℕ) → MembersFound k p n [] []
members_none k p n = record {
  firsts = numbers_none (Sets p n) k;
  covers = λ t l v m e. absurd (none_in v m);
  some = λ l. l;
}

pub members_more : (k : ℕ) (p : Places) (n : ℕ) (vs : List Val) (v : Val) (xs : List Trace) → length xs < k → MembersFound k p n vs xs
    → MembersFound k p n (vs ++ v ∷ []) (xs ++ chosen (length vs) (here (slice_set p n (Some v))) ∷ [])
members_more k p n vs v xs s a = record {
  firsts = numbers_more (Sets p n) k vs v xs (here (slice_set p n (Some v)) ∷ []) s a.firsts
      (firsts_one (k - length xs) (Sets p n v) (here (slice_set p n (Some v))) (omega (arith, s)) refl (λ x h. h));
  covers = λ t l w m e. elim (in_cases vs (v ∷ []) w m) [
    | inl i ↦ elim (a.covers t l w i e) [
      | inl o ↦ inl (covered_left xs (chosen (length vs) (here (slice_set p n (Some v))) ∷ []) t o)
      | inr o ↦ absurd (omega (arith, o, s))
    ]
    | inr i ↦ inl (covered_right xs (chosen (length vs) (here (slice_set p n (Some v))) ∷ []) t
        (chosen (length vs) (here (slice_set p n (Some v))), head_in _ [], set_completes p n v t l (subst (λ (u : Val). slice_get (map Some t) n ≡ Some (Some u)) (sym (one_in v w i)) e)))
  ];
  some = λ l. some_more xs (chosen (length vs) (here (slice_set p n (Some v))) ∷ []) (omega arith);
}

pub members_full : (k : ℕ) (p : Places) (n : ℕ) (vs : List Val) (v : Val) (xs : List Trace) → 1 ≤ k → k ≤ length xs → MembersFound k p n vs xs → MembersFound k p n (vs ++ v ∷ []) xs
members_full k p n vs v xs r s a = record {
  firsts = numbers_full (Sets p n) k vs v xs s a.firsts;
  covers = λ t l w m e. inr s;
  some = λ l. omega (arith, r, s);
}

-- the arms of a choice, one after the other

module _ (g : Setting) (sp : Sparing) (d k : ℕ) (p : Places) where
  pub arms_none : ArmsFound g sp d k p [] []
  arms_none = record {
    firsts = numbers_none (Of g sp d p) k;
    covers = λ t l m. absurd (none_in _ (of_any _ [] m).1);
    some = λ l. l;
  }

  pub arms_more : (es : Parts) (e : Context × Term) (xs zs : List Trace) → length xs < k → ArmsFound g sp d k p es xs → FoundOf g sp (k - length xs) d e.0 e.1 p zs
      → ArmsFound g sp d k p (es ++ e ∷ []) (xs ++ map (chosen (length es)) zs)
  arms_more es e xs zs s a b = record {
    firsts = numbers_more (Of g sp d p) k es e xs zs s a.firsts b.firsts;
    covers = λ t l m. let r = of_any (λ e. HoldsOf g d e.0 e.1 t) (es ++ e ∷ []) m in elim (in_cases es (e ∷ []) r.0 r.1) [
      | inl i ↦ elim (a.covers t l (any_of (λ e. HoldsOf g d e.0 e.1 t) es r.0 i r.2)) [
        | inl o ↦ inl (covered_left xs (map (chosen (length es)) zs) t o)
        | inr o ↦ absurd (omega (arith, o, s))
      ]
      | inr i ↦ elim (b.covers t l (subst (λ (z : Context × Term). HoldsOf g d z.0 z.1 t) (sym (one_in e r.0 i)) r.2)) [
        | inl o ↦ inl (covered_right xs (map (chosen (length es)) zs) t (covered_map (chosen (length es)) (λ x. refl) zs t o))
        | inr o ↦ inr (let all : length (xs ++ map (chosen (length es)) zs) ≡ length xs + length (map (chosen (length es)) zs) = append_length xs (map (chosen (length es)) zs) in
            let same : length (map (chosen (length es)) zs) ≡ length zs = map_length (chosen (length es)) zs in omega (arith, all, same, o, s))
      ]
    ];
    some = λ l. some_more xs (map (chosen (length es)) zs) (let one : 1 ≤ length zs = b.some in let same : length (map (chosen (length es)) zs) ≡ length zs = map_length (chosen (length es)) zs in omega (arith, one, same));
  }

  pub arms_full : (es : Parts) (e : Context × Term) (xs : List Trace) → 1 ≤ k → k ≤ length xs → ArmsFound g sp d k p es xs → ArmsFound g sp d k p (es ++ e ∷ []) xs
  arms_full es e xs r s a = record {
    firsts = numbers_full (Of g sp d p) k es e xs s a.firsts;
    covers = λ t l m. inr s;
    some = λ l. omega (arith, r, s);
  }

-- parts that must all hold: from each of the branches of those before

abbrev pub AllEarlier : List Trace → Trace → Type 0
AllEarlier ps y = (x : Trace) → Contains ps x → Earlier x y

module _ (g : Setting) (sp : Sparing) (d k : ℕ) (e : Context × Term) where
  pub none_gone : EachFound g sp d k e [] []
  none_gone = record { each = each_none (Turns g sp d) d k e; covers = cover_none k (HoldsOf g d e.0 e.1) }

  pub gone_on : (ps : List Trace) (y : Trace) (ys zs : List Trace) → AllEarlier ps y → length ys < k → EachFound g sp d k e ps ys → After g sp d (k - length ys) e y zs → EachFound g sp d k e (ps ++ y ∷ []) (ys ++ zs)
  gone_on ps y ys zs h s a b = record {
    each = each_more (Turns g sp d) d k e ps y ys zs h s a.each b.firsts b.some;
    covers = cover_more k (HoldsOf g d e.0 e.1) ps y ys zs a.covers b.covers;
  }

  -- what comes of a branch that goes on, and of one that does not
  pub after_passed : (y : Trace) (q : Places) (zs : List Trace) → y.end ≡ passed q → FoundOf g (after_spared y.spared sp) k d e.0 e.1 q zs → After g sp d k e y (map (added (stood d e) y) zs)
  after_passed y q zs i b =
      let same : length (map (added (stood d e) y) zs) ≡ length zs = map_length (added (stood d e) y) zs in
      let one : 1 ≤ length zs = b.some in record {
        firsts = subst (λ (n : End). Firsts k (Goes (Turns g sp d) d e y n) (map (added (stood d e) y) zs)) (sym i) (goes_on (Turns g sp d) d k e y q zs b.firsts);
        some = omega (arith, same, one);
        covers = λ t c m. covering_map (added (stood d e) y) (λ x. refl) k q (HoldsOf g d e.0 e.1) zs b.covers t (subst (λ (n : End). Covers n t) i c) m;
      }

  pub after_ended : (y : Trace) (q : Places) (u : Stood) (w : Why) → y.end ≡ ended q u w → 1 ≤ k → After g sp d k e y (y ∷ [])
  after_ended y q u w i l = record {
    firsts = subst (λ (n : End). Firsts k (Goes (Turns g sp d) d e y n) (y ∷ [])) (sym i) (goes_no_more (Turns g sp d) d k e y q u w l);
    some = omega arith;
    covers = λ t c m. covers_still k y t c;
  }

  pub gone_full : (ps : List Trace) (y : Trace) (ys : List Trace) → AllEarlier ps y → k ≤ length ys → EachFound g sp d k e ps ys → EachFound g sp d k e (ps ++ y ∷ []) ys
  gone_full ps y ys h s a = record {
    each = each_full (Turns g sp d) d k e ps y ys h s a.each;
    covers = cover_full k (HoldsOf g d e.0 e.1) (ps ++ y ∷ []) ys s;
  }

module _ (g : Setting) (sp : Sparing) (d k : ℕ) (p : Places) where
  pub turns_begin : 1 ≤ k → TurnsFound g sp d k p [] (here p ∷ [])
  turns_begin r = record {
    firsts = firsts_one k (Onward (Turns g sp d) d [] (here p)) (here p) r refl (λ x h. h);
    some = omega arith;
    covers = λ t l m. inl (here p, head_in (here p) [], l);
  }

  pub turns_go_on : (es : Parts) (e : Context × Term) (xs ys : List Trace) → 1 ≤ k → TurnsFound g sp d k p es xs → EachFound g sp d k e xs ys → TurnsFound g sp d k p (es ++ e ∷ []) ys
  turns_go_on es e xs ys r a b = record {
    firsts = turn_more (Turns g sp d) d k es e (here p) xs ys a.firsts b.each;
    some = grown b.each.grows a.some;
    covers = turn_covers k p (AllHold g d es) (HoldsOf g d e.0 e.1) (AllHold g d (es ++ e ∷ [])) xs ys (split es) b.each.grows a.covers b.covers;
  }
    where
      grown : HasSoMany (length xs) k ys → 1 ≤ length xs → 1 ≤ length ys
      grown (inl h) l = omega (arith, h, l)
      grown (inr h) l = omega (arith, h, r)

      split : (fs : Parts) (t : Values) → AllHold g d (fs ++ e ∷ []) t → AllHold g d fs t × HoldsOf g d e.0 e.1 t
      split [] t h = (tt, h.0)
      split (f ∷ fs) t h = let s = split fs t h.1 in ((h.0, s.0), s.1)

-- what a form opens to

module _ (g : Setting) (sp : Sparing) (k : ℕ) (room : 1 ≤ k) (d : ℕ) (c : Context) (a : Term) (p : Places) (known : KnowsAll g p c a) (now : ReadsValues g.table (at_next g.which c p) a) where
  abbrev Fact : Values → Type 0
  Fact = HoldsOf g (suc d) c a

  abbrev pub OpenedBy : Form → Trace → Type 0
  OpenedBy f x = (r : Result Opened Fault) × OpensFrom g d c p (place_of a) f r × OpenedBranches (Turns g (called f sp) d) d (is_choice f) p (stood (suc d) (c, a)) r x

  module _ (f : Form) (i : form g (length c.slots) a ≡ f) (r : Result Opened Fault) (h : OpensFrom g d c p (place_of a) f r) where
    opened_so : (x : Trace) → OpenedBranches (Turns g (called f sp) d) d (is_choice f) p (stood (suc d) (c, a)) r x → OpenedBy f x
    opened_so x m = (r, h, m)

    so_opened : (x : Trace) → OpenedBy f x → OpenedBranches (Turns g (called f sp) d) d (is_choice f) p (stood (suc d) (c, a)) r x
    so_opened x m = subst (λ (q : Result Opened Fault). OpenedBranches (Turns g (called f sp) d) d (is_choice f) p (stood (suc d) (c, a)) q x) (one_opening g d c a p now f i m.0 r m.1 h) m.2

  module _ (f : Form) (i : form g (length c.slots) a ≡ f) where
    back : (o : Opened) → OpensFrom g d c p (place_of a) f (Ok o) → (t : Values) → Completes p t → HoldsOf g (suc d) c a t → OpenedHolds (λ b e. HoldsOf g d b e t) o
    back o h t l m = (opening g sp d c a p known sp (inner_say g sp d sp refl) o (subst (λ (y : Form). OpensFrom g d c p (place_of a) y (Ok o)) (sym i) h)).back t l m

    pub opened_refused : (e : Fault) → OpensFrom g d c p (place_of a) f (Err e) → Found k p (OpenedBy f) Fact (faulted p (stood (suc d) (c, a)) e ∷ [])
    opened_refused e h = found_one k p (OpenedBy f) Fact (faulted p (stood (suc d) (c, a)) e) room (opened_so f i (Err e) h _ refl) (λ x m. so_opened f i (Err e) h x m) (λ t l m. (tt, l))

    pub opened_all : (es : Parts) → OpensFrom g d c p (place_of a) f (Ok (all_of es)) → (xs : List Trace) → TurnsFound g (called f sp) d k p es xs → Found k p (OpenedBy f) Fact xs
    opened_all es h xs b = found_same k p (Onward (Turns g (called f sp) d) d es (here p)) (OpenedBy f) (AllHold g d es) Fact xs
        (opened_so f i (Ok (all_of es)) h) (so_opened f i (Ok (all_of es)) h) (λ t l m. place_by_all (λ e. HoldsOf g d e.0 e.1 t) es (back (all_of es) h t l m)) (record { firsts = b.firsts; some = b.some; covers = b.covers })

    pub opened_choice : is_choice f ≡ true → (es : Parts) → OpensFrom g d c p (place_of a) f (Ok (one_of es)) → (xs : List Trace) → 1 ≤ length es → ArmsFound g (called f sp) d k p es xs → Found k p (OpenedBy f) Fact xs
    opened_choice j es h xs l b = found_same k p (OneBranches (Branches g (called f sp) d) true es p (stood (suc d) (c, a))) (OpenedBy f) (AnyHolds g d es) Fact xs
        (λ x m. opened_so f i (Ok (one_of es)) h x (subst (λ (b : Bool). OneBranches (Branches g (called f sp) d) b es p (stood (suc d) (c, a)) x) (sym j) m))
        (λ x m. subst (λ (b : Bool). OneBranches (Branches g (called f sp) d) b es p (stood (suc d) (c, a)) x) j (so_opened f i (Ok (one_of es)) h x m))
        (back (one_of es) h) (record { firsts = chooses_some (Of g (called f sp) d p) k p (stood (suc d) (c, a)) es xs l b.firsts; some = b.some l; covers = b.covers })

    pub opened_none : is_choice f ≡ true → OpensFrom g d c p (place_of a) f (Ok (one_of [])) → Found k p (OpenedBy f) Fact (stops p (stood (suc d) (c, a)) (place_of a) why.NoMember ∷ [])
    opened_none j h = found_same k p (OneBranches (Branches g (called f sp) d) true [] p (stood (suc d) (c, a))) (OpenedBy f) (AnyHolds g d []) Fact (stops p (stood (suc d) (c, a)) (place_of a) why.NoMember ∷ [])
        (λ x m. opened_so f i (Ok (one_of [])) h x (subst (λ (b : Bool). OneBranches (Branches g (called f sp) d) b [] p (stood (suc d) (c, a)) x) (sym j) m))
        (λ x m. subst (λ (b : Bool). OneBranches (Branches g (called f sp) d) b [] p (stood (suc d) (c, a)) x) j (so_opened f i (Ok (one_of [])) h x m))
        (back (one_of []) h) (found_one k p (OneBranches (Branches g (called f sp) d) true [] p (stood (suc d) (c, a))) (AnyHolds g d []) _ room refl (λ x m. m) (λ t l m. absurd (none_in _ (of_any _ [] m).1)))

    pub opened_part : is_choice f ≡ false → (e : Context × Term) → OpensFrom g d c p (place_of a) f (Ok (one_of (e ∷ []))) → (xs : List Trace) → FoundOf g (called f sp) k d e.0 e.1 p xs → Found k p (OpenedBy f) Fact xs
    opened_part j e h xs b = found_same k p (Branches g (called f sp) d e.0 e.1 p) (OpenedBy f) (HoldsOf g d e.0 e.1) Fact xs
        (λ x m. opened_so f i (Ok (one_of (e ∷ []))) h x (subst (λ (b : Bool). OneBranches (Branches g (called f sp) d) b (e ∷ []) p (stood (suc d) (c, a)) x) (sym j) (any_of (λ e. Branches g (called f sp) d e.0 e.1 p x) (e ∷ []) e (head_in e []) m)))
        (λ x m. let r = of_any (λ e. Branches g (called f sp) d e.0 e.1 p x) (e ∷ []) (subst (λ (b : Bool). OneBranches (Branches g (called f sp) d) b (e ∷ []) p (stood (suc d) (c, a)) x) j (so_opened f i (Ok (one_of (e ∷ []))) h x m)) in
        subst (λ (z : Context × Term). Branches g (called f sp) d z.0 z.1 p x) (sym (one_in e r.0 r.1)) r.2)
        (λ t l m. let r = of_any (λ e. HoldsOf g d e.0 e.1 t) (e ∷ []) (back (one_of (e ∷ [])) h t l m) in subst (λ (z : Context × Term). HoldsOf g d z.0 z.1 t) (sym (one_in e r.0 r.1)) r.2) b

  -- what a form opens to is what the action has
  pub of_opening : (f : Form) → form g (length c.slots) a ≡ f → (r : Result Opened Fault) → OpensFrom g d c p (place_of a) f r → (xs : List Trace) → Found k p (OpenedBy f) Fact xs → FoundOf g sp k (suc d) c a p xs
  of_opening (both es) i r h xs m = of_form g sp k room d c a p known now (both es) i xs m
  of_opening (narrowed n es) i r h xs m = of_form g sp k room d c a p known now (narrowed n es) i xs m
  of_opening (either es) i r h xs m = of_form g sp k room d c a p known now (either es) i xs m
  of_opening (some bs e) i r h xs m = of_form g sp k room d c a p known now (some bs e) i xs m
  of_opening (branch q e o) i r h xs m = of_form g sp k room d c a p known now (branch q e o) i xs m
  of_opening (arms cs o) i r h xs m = of_form g sp k room d c a p known now (arms cs o) i xs m
  of_opening (inside e) i r h xs m = of_form g sp k room d c a p known now (inside e) i xs m
  of_opening (call n es) i r h xs m = of_form g sp k room d c a p known now (call n es) i xs m
  of_opening (changing e v) i r h xs m = absurd h
  of_opening test i r h xs m = absurd h
  of_opening (assign n e) i r h xs m = absurd h
  of_opening (choose n e) i r h xs m = absurd h

  -- `x' \in S` where x has no value yet

  module _ (n : ℕ) (e : Term) (i : form g (length c.slots) a ≡ choose n e) (S : Described) (h : MeansSet (Describes g.table d) (at_next g.which c p) e (Ok S)) (q : slice_get p n ≡ Some None)
      (r : Result Val Fault) (l : list_at (place_of e) S r) where
    of_members : (x : Trace) → Members p (stood (suc d) (c, a)) n r x → FormBranches g sp d (λ inner. Branches g inner d) c a (choose n e) p x
    of_members x m = (Ok S, h, subst (λ (o : Option (Option Val)). Chosen sp p (stood (suc d) (c, a)) n (place_of e) (Ok S) o x) (sym q) (r, l, m))

    as_members : (x : Trace) → FormBranches g sp d (λ inner. Branches g inner d) c a (choose n e) p x → Members p (stood (suc d) (c, a)) n r x
    as_members x m =
        let s = subst (λ (o : Option (Option Val)). Chosen sp p (stood (suc d) (c, a)) n (place_of e) (Ok S) o x) q
        (subst (λ (r : Result Described Fault). Chosen sp p (stood (suc d) (c, a)) n (place_of e) r (slice_get p n) x) (one_set g d c a p now n e i m.0 (Ok S) m.1 h) m.2) in
        subst (λ (z : Result Val Fault). Members p (stood (suc d) (c, a)) n z x) (one_list_at (place_of e) S s.0 r s.1 l) s.2

    -- one branch alone
    one_member : (y : Trace) → Members p (stood (suc d) (c, a)) n r y → ((x : Trace) → Members p (stood (suc d) (c, a)) n r x → x ≡ y) → ((t : Values) → Completes p t → HoldsOf g (suc d) c a t → Covers y.end t)
        → FoundOf g sp k (suc d) c a p (y ∷ [])
    one_member y m u w = of_form g sp k room d c a p known now (choose n e) i (y ∷ [])
        (found_one k p (FormBranches g sp d (λ inner. Branches g inner d) c a (choose n e) p) (HoldsOf g (suc d) c a) y room (of_members y m) (λ x j. u x (as_members x j)) w)

  module _ (n : ℕ) (e : Term) (i : form g (length c.slots) a ≡ choose n e) (S : Described) (h : MeansSet (Describes g.table d) (at_next g.which c p) e (Ok S)) (q : slice_get p n ≡ Some None) where
    -- the set can not be listed
    pub found_no_list : (f : Fault) → list_at (place_of e) S (Err f) → FoundOf g sp k (suc d) c a p (faulted p (stood (suc d) (c, a)) f ∷ [])
    found_no_list f l = one_member n e i S h q (Err f) l (faulted p (stood (suc d) (c, a)) f) refl (λ x m. m) (λ t w b. (tt, w))

    -- the list has no member
    pub found_no_member : (u : Val) → list_at (place_of e) S (Ok u) → items_of u ≡ [] → FoundOf g sp k (suc d) c a p (stops p (stood (suc d) (c, a)) (place_of a) why.NoMember ∷ [])
    found_no_member u l z = one_member n e i S h q (Ok u) l (stops p (stood (suc d) (c, a)) (place_of a) why.NoMember)
        (none_chosen (items_of u) z _ refl) (λ x m. chosen_none (items_of u) z x m)
        (λ t w b. let r = same_set g sp d c a p known n e i S h t w b in
        absurd (none_in r.0 (subst (λ (us : List Val). Contains us r.0) z ((listed_belong (place_of e) S u l r.0 (value_of t n r.0 w.values r.1)).0 r.2))))
      where
        chosen_none : (us : List Val) → us ≡ [] → (x : Trace) → Chooses (Sets p n) p (stood (suc d) (c, a)) us x → x ≡ stops p (stood (suc d) (c, a)) (place_of a) why.NoMember
        chosen_none us z x m = subst (λ (vs : List Val). Chooses (Sets p n) p (stood (suc d) (c, a)) vs x) z m

        none_chosen : (us : List Val) → us ≡ [] → (x : Trace) → x ≡ stops p (stood (suc d) (c, a)) (place_of a) why.NoMember → Chooses (Sets p n) p (stood (suc d) (c, a)) us x
        none_chosen us z x m = subst (λ (vs : List Val). Chooses (Sets p n) p (stood (suc d) (c, a)) vs x) (sym z) m

    -- the list has members
    pub chosen_members : (u : Val) → list_at (place_of e) S (Ok u) → (xs : List Trace) → 1 ≤ length (items_of u) → MembersFound k p n (items_of u) xs → FoundOf g sp k (suc d) c a p xs
    chosen_members u l xs one b = of_form g sp k room d c a p known now (choose n e) i xs (record {
      firsts = firsts_same k (Chooses (Sets p n) p (stood (suc d) (c, a)) (items_of u)) (FormBranches g sp d (λ inner. Branches g inner d) c a (choose n e) p) xs
          (of_members n e i S h q (Ok u) l) (as_members n e i S h q (Ok u) l) (chooses_some (Sets p n) k p (stood (suc d) (c, a)) (items_of u) xs one b.firsts);
      some = b.some one;
      covers = λ t w m. let r = same_set g sp d c a p known n e i S h t w m in b.covers t w r.0 ((listed_belong (place_of e) S u l r.0 (value_of t n r.0 w.values r.1)).0 r.2) r.1;
    })
