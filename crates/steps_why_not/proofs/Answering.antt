-- From the ends of branches to the answer.
use Rattle.std.proofs.Common.{◌≡◌, ◌⊎◌, ◌↔◌, inl, inr, refl, sym, ◌∙◌, ap, subst, arith, ℕ, zero, suc, ◌<◌, ◌≤◌, ◌+◌, List, [], ◌∷◌, ◌++◌, length, take, drop}
use Rattle.std.specs.Prelude.{All, Bool, true, false, IfSome, IsTrue, Contains, Option, Some, None}
use Rattle.std.specs.Option.{IfNone}
use Rattle.std.proofs.lemmas.List.{take-append-drop, take_all}
use Rattle.std.proofs.lemmas.List.Elements.{All-contains, All-weaker}
use Rattle.values_core.specs.Ascending.{cons_cases, head_in, none_in, tail_in}
use Rattle.states_core.specs.States.{Values}
use Rattle.names_terms.specs.declared.spec.Spec.{Spec}
use Rattle.eval_meanings.specs.Contexts.{Places}
use Rattle.eval_meanings.specs.Evaluates.{max_evaluations}
use Rattle.actions_meanings.specs.declared.which.Which.TheVariants as which
use Rattle.logs_updates.specs.declared.line.Line.{Line}
use Rattle.logs_updates.specs.declared.update.See.{See}
use Rattle.steps_lines_defs.specs.Says.{BothHold, IsState, setting}
use Rattle.steps_lines_defs.specs.Asks.{AreSeen, IsSeen, Moves, act_of, asks}
use Rattle.steps_lines_defs.specs.Steps.{Step}
use Rattle.actions_meanings.specs.Filled.{Completes}
use Rattle.actions_form_laws.specs.Growth.{WholeStays}
use Rattle.steps_walk_laws.specs.Grounds.{OrderlyActionsAreGrounded}
use Rattle.steps_found_states.specs.Parts.{Parts}
use Rattle.steps_found_states.proofs.Filling.{completes_get}
use Rattle.steps_found_states.proofs.Lists.{all_by_place, all_from, in_left, of_map}
use Rattle.steps_ready_defs.specs.Ready.{IsReadyLine, IsReadySpec}
use Rattle.steps_why_branches.specs.Choices.{Choices}
use Rattle.steps_why_branches.specs.Traces.{End, SparedPart, Trace, ended, here, passed}
use Rattle.steps_why_branches.specs.Branches.{Onward, Turns}
use Rattle.steps_why_branches.specs.Firsts.{Covers, Firsts, IsFault}
use Rattle.steps_why_branches.specs.Founds.{TurnsFound}
use Rattle.steps_why_branches.specs.Told.{filled_at}
use Rattle.steps_why_branches.proofs.Cutting.{cut_more, cut_none}
use Rattle.steps_why_branches.proofs.Elements.{append_length}
use Rattle.steps_why_branches.specs.declared.why.Ended.{Ended}
use Rattle.steps_why_branches.specs.declared.why.Ended.TheVariants.{Ends, Passed}
use Rattle.steps_why_branches.specs.declared.why.Why.{Why}
use Rattle.steps_why_branches.specs.PassedOver.{nothing}
use Rattle.steps_why_branches.specs.declared.sparing.Spared.{Spared}
use Rattle.steps_why_walk.specs.Ends.{end_of, end_with, first_spared, kept}
use Rattle.steps_why_walk.proofs.Keeping.{kept_length}
use Rattle.steps_why_walk.proofs.Passing.{not_passed, passed_same}
use Rattle.steps_why_not.specs.Results.{AreUpdated, IsStuck}
use Rattle.steps_why_not.specs.Lines.{AreBoth, EndsFor, GoesThrough, IsBranch, StandsIn, is_ended, no_update, not_seen}
use Rattle.steps_why_not.specs.Taken.{AreEnds, Lacks, LeadsThere}
use Rattle.steps_why_not.specs.Whys.{AreReasons, AreWhys, EndTold, NoFault, Shows, are_ended, are_stuck}
use Rattle.steps_why_not.proofs.Telling.{each_told, line_grounded, parts_hold, same_parts}
use Rattle.steps_why_not.proofs.Updated.{is_or_not, one_updated, true_false}

-- a result that is an option

pub some_of : {A : Type 0} (o : Option A) (x : A) (P : A → Type 0) → o ≡ Some x → IfSome o P → P x
some_of o x P e h = subst (λ q. IfSome q P) e h

pub none_of : {A : Type 0} (o : Option A) (P : Type 0) → o ≡ None → IfNone o P → P
none_of o P e h = subst (λ q. IfNone q P) e h

-- what is kept of branches

kept_of : (xs : List Trace) (q : Places) (o : Option Spared) → Contains (kept xs) (Passed q o) → (x : Trace) × Contains xs x × (x.end ≡ passed q)
kept_of xs q o m = let r = of_map end_of xs (Passed q o) m in (r.0, r.1, by_end r.0.spared r.0.end r.2)
  where
    by_end : (ws : List SparedPart) (n : End) → end_with ws n ≡ Passed q o → n ≡ passed q
    by_end ws (passed p) e = ap passed (passed_same p q (first_spared ws) o e)
    by_end ws (ended p a w) e = absurd (not_passed w q o e)

kept_split : (xs : List Trace) (ns : List Ended) (n : Ended) → kept xs ≡ ns ++ n ∷ [] → (ys : List Trace) × ((x : Trace) × (xs ≡ ys ++ x ∷ []) × (kept ys ≡ ns))
kept_split [] [] n e = absurd (cc)
kept_split [] (m ∷ ns) n e = absurd (cc)
kept_split (x ∷ []) [] n e = ([], (x, refl, refl))
kept_split (x ∷ y ∷ xs) [] n e = absurd (longer (end_of x) (end_of y) (kept xs) n e)
  where
    longer : (a b : Ended) (us : List Ended) (n : Ended) → a ∷ b ∷ us ≡ n ∷ [] → ⊥
    longer a b us n e = cc
kept_split (x ∷ xs) (m ∷ ns) n e =
    let f = apart (end_of x) m (kept xs) (ns ++ n ∷ []) e in
    let r = kept_split xs ns n f.1 in
    (x ∷ r.0, (r.1.0, ap (λ (us : List Trace). x ∷ us) r.1.1, same f.0 r.1.2))
  where
    apart : (a b : Ended) (us ws : List Ended) → a ∷ us ≡ b ∷ ws → (a ≡ b) × (us ≡ ws)
    apart a b us ws e = (cc, cc)

    same : {a b : Ended} {us ws : List Ended} → a ≡ b → us ≡ ws → a ∷ us ≡ b ∷ ws
    same e f i = e i ∷ f i

zip_length : (sees : List See) (ns : List Ended) (ws : List Why) → AreReasons sees ns ws → length ws ≡ length ns
zip_length sees [] [] h = refl
zip_length sees [] (w ∷ ws) h = absurd h
zip_length sees (n ∷ ns) [] h = absurd h
zip_length sees (n ∷ ns) (w ∷ ws) h = ap suc (zip_length sees ns ws h.1)

-- the reason that stands for a branch
reason_of : (sees : List See) (xs : List Trace) (ws : List Why) → AreReasons sees (kept xs) ws → (x : Trace) → Contains xs x → (w : Why) × Contains ws w × EndsFor sees (end_of x) w
reason_of sees [] ws a x m = absurd (none_in x m)
reason_of sees (y ∷ xs) [] a x m = absurd a
reason_of sees (y ∷ xs) (w ∷ ws) a x m = elim (cons_cases y xs x m) [
  | inl e ↦ (w, head_in w ws, subst (λ (z : Trace). EndsFor sees (end_of z) w) e a.0)
  | inr n ↦ (let r = reason_of sees xs ws a.1 x n in (r.0, tail_in w ws r.0 r.1, r.2))
]

-- what stands in places stands in each state that completes them
seen_there : (sees : List See) (q : Places) (t : Values) → Completes q t → All (StandsIn q) sees → AreSeen sees t
seen_there sees q t k h = All-weaker (StandsIn q) (IsSeen t) (λ see r. (r.0, completes_get q t see.path.variable.0 r.0 k r.1, r.2)) sees h

-- a cut list: the whole, or all but its last
abbrev IsCut : ℕ → List Ended → List Ended → Bool → Type 0
IsCut most old new more = ((length old ≤ most) × (new ≡ old) × (more ≡ false)) ⊎ ((most < length old) × ((n : Ended) × (old ≡ new ++ n ∷ [])) × (more ≡ true))

within_or_past : (m n : ℕ) → (n ≤ m) ⊎ (m < n)
within_or_past m zero = inl (omega arith)
within_or_past zero (suc n) = inr (omega arith)
within_or_past (suc m) (suc n) = elim (within_or_past m n) [ inl l ↦ inl (omega (arith, l)) | inr l ↦ inr (omega (arith, l)) ]

all_but_one : (most : ℕ) (old : List Ended) → most < length old → length old ≤ suc most → (n : Ended) × (old ≡ take most old ++ n ∷ [])
all_but_one most [] l s = absurd (omega (arith, l))
all_but_one zero (n ∷ []) l s = (n, refl)
all_but_one zero (n ∷ m ∷ old) l s = absurd (omega (arith, s))
all_but_one (suc most) (n ∷ old) l s = let r = all_but_one most old (omega (arith, l)) (omega (arith, s)) in (r.0, ap (λ (us : List Ended). n ∷ us) r.1)

cut_is : (most : ℕ) (old new : List Ended) (more : Bool) → length old ≤ suc most → new ≡ take most old → (IsTrue more ↔ (most < length old)) → IsCut most old new more
cut_is most old new more few e says = elim (within_or_past most (length old)) [
  | inl l ↦ inl (l, e ∙ take_all most old l, not_more l)
  | inr l ↦ (let r = all_but_one most old l few in inr (l, (r.0, r.1 ∙ ap (λ (us : List Ended). us ++ r.0 ∷ []) (sym e)), says.1 l))
]
  where
    not_more : length old ≤ most → more ≡ false
    not_more l = elim (is_or_not more) [ inl t ↦ absurd (let m : most < length old = says.0 t in omega (arith, l, m)) | inr f ↦ f ]

cut_in : (most : ℕ) (old new : List Ended) → new ≡ take most old → (n : Ended) → Contains new n → Contains old n
cut_in most old new e n m = subst (λ (us : List Ended). Contains us n) (take-append-drop most old) (in_left (take most old) (drop most old) n (subst (λ (us : List Ended). Contains us n) e m))

-- where an update has no result

pub stuck_are : (g : Spec) (line : Line) (s : Values) (most : ℕ) (x : ℕ) (ws : List Why) (more : Bool) → IsStuck line.updates s x → ws ≡ no_update x ∷ [] → more ≡ false → AreWhys g line s most ws more
stuck_are g line s most x ws more h e f =
    subst (λ (us : List Why). AreWhys g line s most us more) (sym e) (subst (λ (b : Bool). AreWhys g line s most (no_update x ∷ []) b) (sym f) (are_stuck x h))

pub stuck_some : (ws : List Why) (x : ℕ) → ws ≡ no_update x ∷ [] → 1 ≤ length ws
stuck_some ws x e = let l : length ws ≡ 1 = ap (λ (us : List Why). length us) e in omega (arith, l)

pub stuck_show : (g : Spec) (line : Line) (s : Values) (ws : List Why) (more : Bool) → IsState (length g.variables) s → ((t : Values) → IsState (length s) t → ¬ Moves line.updates s t) → Shows g line s ws more
stuck_show g line s ws more state none uncut clean t is moves holds = absurd (none t (subst (λ (n : ℕ). IsState n t) (sym state.long) is) moves)

module _ (law : OrderlyActionsAreGrounded) (grows : WholeStays) (g : Spec) (ready : IsReadySpec g) (line : Line) (fits : IsReadyLine g line) (s : Values) (state : IsState (length g.variables) s)
    (p : Places) (a : AreUpdated line.updates s p) where
  -- where a branch was gone through, something that is seen does not stand there
  each_lacks : ((t : Values) → ¬ Step (asks g false line) s t) → (k : ℕ) (ends : List Ended) → AreEnds nothing g line s k p ends → (n : Ended) → Contains ends n → Lacks line.sees n
  each_lacks none k ends e (Ends w) m = tt
  each_lacks none k ends e (Passed q o) m = λ all.
      let gr = line_grounded law grows g ready line fits s state p a e.0 e.1 in
      let passes = e.2.passes gr.0.0 gr.0.2.0 gr.0.1 gr.0.2.1 in
      let t = (passes.further q o m).2 gr.1.0 gr.1.1 in
      let f = e.2.found in
      let x = kept_of f.0 q o (subst (λ (us : List Ended). Contains us (Passed q o)) (sym f.2) m) in
      let told = each_told law grows g ready line fits s state x.0 (p, a, (e.0, e.1, f.1.firsts.are x.0 x.1)) in
      let there : Completes (filled_at x.0.end) t.0 = subst (λ (n : End). Completes (filled_at n) t.0) (sym x.2) t.1 in
      let moves = told.moves t.0 there in
      let holds : BothHold g (act_of line.event) s t.0 = subst (λ (n : End). EndTold g line s n t.0) x.2 (told.end t.0 there) in
      none t.0 (moves.0, inl (moves.1, holds, seen_there line.sees q t.0 t.1 all))

  pub lacking : ((t : Values) → ¬ Step (asks g false line) s t) → (k most : ℕ) (old new : List Ended) → AreEnds nothing g line s k p old → new ≡ take most old → All (Lacks line.sees) new
  lacking none k most old new e c = all_by_place (Lacks line.sees) new (all_from (Lacks line.sees) new (λ n m. each_lacks none k old e n (cut_in most old new c n m)))

module _ (g : Spec) (line : Line) (s : Values) (state : IsState (length g.variables) s) (p : Places) (a : AreUpdated line.updates s p) (exact : LeadsThere line.updates s p) (es : Parts) (i : AreBoth g (act_of line.event) s es) where
  abbrev Way : Trace → Type 0
  Way x = Onward (Turns (setting which.Action g) nothing max_evaluations) max_evaluations es (here p) x

  -- a branch that lacks what is seen, and what is filled then has the state
  abbrev Reached : Values → Type 0
  Reached t = (b : Choices) × ((u : Places) × Completes u t × ((x : ℕ) × IsBranch g line s b u (not_seen x)))

  through : (x : Trace) → Way x → GoesThrough g line s x
  through x h = (p, a, (es, i, h))

  on_way : (x : Trace) → GoesThrough g line s x → Way x
  on_way x h =
      let q : h.0 ≡ p = one_updated line.updates s p a exact h.0 h.1 in
      let f : h.2.0 ≡ es = same_parts g (act_of line.event) s es h.2.0 i h.2.1 in
      subst (λ (z : Places). Onward (Turns (setting which.Action g) nothing max_evaluations) max_evaluations es (here z) x) q
      (subst (λ (us : Parts). Onward (Turns (setting which.Action g) nothing max_evaluations) max_evaluations us (here h.0) x) f h.2.2)

  line_firsts : (k : ℕ) (xs : List Trace) → Firsts k Way xs → Firsts k (GoesThrough g line s) xs
  line_firsts k xs f = record { ordered = f.ordered; few = f.few; are = λ x m. through x (f.are x m); rest = λ x h. f.rest x (on_way x h) }

  module _ (most : ℕ) (xs : List Trace) (found : TurnsFound (setting which.Action g) nothing max_evaluations (most + 1) p es xs) (old new : List Ended) (e : kept xs ≡ old) (more : Bool) (first : new ≡ take most old) (says : IsTrue more ↔ (most < length old))
      (ws : List Why) (reasons : AreReasons line.sees new ws) where
    firsts : Firsts (suc most) Way xs
    firsts = let one : most + 1 ≡ suc most = omega arith in subst (λ (k : ℕ). Firsts k Way xs) one found.firsts

    same_long : length xs ≡ length old
    same_long = kept_length xs old e

    c : IsCut most old new more
    c = let few : length xs ≤ suc most = firsts.few in cut_is most old new more (omega (arith, same_long, few)) first says

    pub whys_are : AreWhys g line s most ws more
    whys_are = elim c [
      | inl d ↦
          let l : length xs ≤ most = omega (arith, same_long, d.0) in
          let r = cut_none most Way xs l firsts in
          are_ended xs ws more (p, a) (line_firsts most xs r.0) (subst (λ (us : List Ended). AreReasons line.sees us ws) (d.1 ∙ sym e) reasons)
          (λ t. absurd (true_false more t d.2), λ h. absurd (r.1 h.0 (on_way h.0 h.1) h.2))
      | inr d ↦
          let r = kept_split xs new d.1.0 (e ∙ d.1.1) in
          let all : length (r.0 ++ r.1.0 ∷ []) ≡ length r.0 + length (r.1.0 ∷ []) = append_length r.0 (r.1.0 ∷ []) in
          let own : length xs ≡ length (r.0 ++ r.1.0 ∷ []) = ap (λ (us : List Trace). length us) r.1.1 in
          let few : length xs ≤ suc most = firsts.few in
          let l : length r.0 ≡ most = omega (arith, same_long, d.0, all, own, few) in
          let f = cut_more most Way r.0 r.1.0 l (subst (λ (us : List Trace). Firsts (suc most) Way us) r.1.1 firsts) in
          are_ended r.0 ws more (p, a) (line_firsts most r.0 f.0) (subst (λ (us : List Ended). AreReasons line.sees us ws) (sym r.1.2) reasons)
          (λ t. (r.1.0, through r.1.0 f.1, f.2), λ h. d.2)
    ]

    pub whys_some : 1 ≤ most → 1 ≤ length ws
    whys_some l =
        let same : length ws ≡ length new = zip_length line.sees new ws reasons in
        let one : 1 ≤ length xs = found.some in
        elim c [
          | inl d ↦ (let own : length new ≡ length old = ap (λ (us : List Ended). length us) d.1 in omega (arith, same, own, same_long, one))
          | inr d ↦
              let own : length old ≡ length (new ++ d.1.0 ∷ []) = ap (λ (us : List Ended). length us) d.1.1 in
              let all : length (new ++ d.1.0 ∷ []) ≡ length new + length (d.1.0 ∷ []) = append_length new (d.1.0 ∷ []) in
              omega (arith, same, own, all, d.0, l)
        ]

    pub whys_show : Shows g line s ws more
    whys_show uncut clean t is moves holds = elim c [
      | inl d ↦ elim (found.covers t ((exact t).1 (subst (λ (n : ℕ). IsState n t) (sym state.long) is, moves)) (parts_hold g (act_of line.event) s t es i holds)) [
        | inl v ↦ by_reason v.0 v.1 (reason_of line.sees xs ws (subst (λ (us : List Ended). AreReasons line.sees us ws) (d.1 ∙ sym e) reasons) v.0 v.1) v.2
        | inr n ↦ absurd (omega (arith, n, d.0, same_long))
      ]
      | inr d ↦ absurd (true_false more d.2 uncut)
    ]
      where
        by_end : (x : Trace) → Contains xs x → (w : Why) → Contains ws w → EndsFor line.sees (end_of x) w → (n : End) → x.end ≡ n → Covers n t → Reached t
        by_end x m w o f (passed q) j k =
            let h : EndsFor line.sees (Passed q (first_spared x.spared)) w = subst (λ (n : End). EndsFor line.sees (end_with x.spared n) w) j f in
            let b : IsBranch g line s x.choices (filled_at x.end) w = is_ended x w (through x (found.firsts.are x m)) f in
            (x.choices, (q, k, (h.0, subst (λ (v : Why). IsBranch g line s x.choices q v) h.2 (subst (λ (n : End). IsBranch g line s x.choices (filled_at n) w) j b))))
        by_end x m w o f (ended q part v) j k =
            let h : w ≡ v = subst (λ (n : End). EndsFor line.sees (end_with x.spared n) w) j f in
            absurd (All-contains NoFault ws w clean o (subst (λ (z : Why). IsFault z.reason) (sym h) k.0))

        by_reason : (x : Trace) → Contains xs x → (w : Why) × Contains ws w × EndsFor line.sees (end_of x) w → Covers x.end t → Reached t
        by_reason x m r k = by_end x m r.0 r.1 r.2 x.end refl k
