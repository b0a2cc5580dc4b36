-- Runs, what they reach, and that clean states are one.
use Rattle.std.proofs.Common.{◌≡◌, ◌≤◌, ◌<◌, ℕ, zero, suc, List, [], ◌∷◌, ◌++◌, length, arith, refl, sym, subst, ap, ◌∙◌, Some, None, Option, take}
use Rattle.std.specs.List.{slice_get}
use Rattle.base_core.specs.declared.place.LineAt.{LineAt}
use Rattle.states_core.specs.States.{Values, shown}
use Rattle.states_core.specs.Runs.{Run, start, wait, go}
use Rattle.states_core.specs.declared.state.Mark.{Mark}
use Rattle.states_core.specs.declared.state.Mark.TheVariants.{Init, Silent, Line}
use Rattle.states_core.specs.declared.state.Shown.{Shown}
use Rattle.states_verdicts.specs.Asks.{PairAsks, IsComposed}
use Rattle.states_verdicts.specs.Cleans.{Reached, nowhere, reach, reached, reached_at, FitsAt, IsClean, AreClean}
use Rattle.states_verdicts.specs.Founds.{behind}
use Rattle.states_verdicts.specs.Laws.{CleanRun}
use Rattle.states_verdicts.proofs.Lists.{take_more, take_past}

pub reached_push : (p : Reached) (w : List Shown) (x : Shown) → reached p (w ++ x ∷ []) ≡ reach (reached p w) x
reached_push p [] x = refl
reached_push p (y ∷ w) x = reached_push (reach p y) w x

-- a run reaches its end
pub run_reached : (a : PairAsks) → IsComposed a → (n j : ℕ) (s : Values) (w : List Shown) → Run a.system n j s w → reached nowhere w ≡ behind n j s
run_reached a ok n j s w (start u i e) = ap (λ (v : Values). behind 0 0 v) (ok.state u)
run_reached a ok n j s w (wait m k u t v r lt le h) =
    reached_push nowhere v (shown Silent (a.system.state_of t)) ∙ ap (λ (p : Reached). reach p (shown Silent (a.system.state_of t))) (run_reached a ok m k u v r)
    ∙ ap (λ (x : Values). behind m (suc k) x) (ok.state t)
run_reached a ok n j s w (go m k u t v r lt h) =
    reached_push nowhere v (shown (Line (a.system.at m u t)) (a.system.state_of t)) ∙ ap (λ (p : Reached). reach p (shown (Line (a.system.at m u t)) (a.system.state_of t))) (run_reached a ok m k u v r)
    ∙ ap (λ (x : Values). behind (suc m) 0 x) (ok.state t)

abbrev pub IsSpan : PairAsks → List Shown → Type 0
IsSpan a u = (n j : ℕ) × (s : Values) × Run a.system n j s u

span_more : (a : PairAsks) → IsComposed a → (n j : ℕ) (s : Values) (u : List Shown) (m : Mark) (t : Values) → Run a.system n j s u → FitsAt a (Some s) n j m t → IsSpan a (u ++ shown m t ∷ [])
span_more a ok n j s u Init t r f = absurd f
span_more a ok n j s u Silent t r f = (
  n,
  suc j,
  t,
  subst (λ (x : Values). Run a.system n (suc j) t (u ++ shown Silent x ∷ [])) (ok.state t) (wait n j s t u r f.0 f.1 f.2),
)
span_more a ok n j s u (Line at) t r f = (
  suc n,
  0,
  t,
  subst (λ (l : LineAt). Run a.system (suc n) 0 t (u ++ shown (Line l) t ∷ [])) (sym f.1)
      (subst (λ (x : Values). Run a.system (suc n) 0 t (u ++ shown (Line (a.system.at n s t)) x ∷ [])) (ok.state t) (go n j s t u r f.0 f.2)),
)

span_first : (a : PairAsks) → IsComposed a → (m : Mark) (t : Values) → FitsAt a None 0 0 m t → IsSpan a (shown m t ∷ [])
span_first a ok Init t f = (0, 0, t, subst (λ (x : Values). Run a.system 0 0 t (shown Init x ∷ [])) (ok.state t) (start t f.0 f.1))
span_first a ok Silent t f = absurd f
span_first a ok (Line at) t f = absurd f

pub clean_some : (a : PairAsks) (p : Reached) (z : Option Shown) → IsClean a p z → (x : Shown) × (z ≡ Some x) × FitsAt a p.last p.line p.silents x.mark x.state
clean_some a p None c = absurd c
clean_some a p (Some x) c = (x, refl, c.0)

span_of : (a : PairAsks) → IsComposed a → (w : List Shown) (i : ℕ) → AreClean a w (suc i) → IsSpan a (take (suc i) w)
span_of a ok w zero c =
    let h = clean_some a nowhere (slice_get w 0) (c 0 (omega arith)) in
    subst (λ (u : List Shown). IsSpan a u) (sym (take_more w 0 h.0 h.1)) (span_first a ok h.0.mark h.0.state h.2)
span_of a ok w (suc i) c =
    let old = span_of a ok w i (λ k lt. c k (omega arith)) in
    let h = clean_some a (reached_at w (suc i)) (slice_get w (suc i)) (c (suc i) (omega arith)) in
    let p = run_reached a ok old.0 old.1 old.2 (take (suc i) w) old.3 in
    let f : FitsAt a (Some old.2) old.0 old.1 h.0.mark h.0.state = subst (λ (q : Reached). FitsAt a q.last q.line q.silents h.0.mark h.0.state) p h.2 in
    subst (λ (u : List Shown). IsSpan a u) (sym (take_more w (suc i) h.0 h.1)) (span_more a ok old.0 old.1 old.2 (take (suc i) w) h.0.mark h.0.state old.3 f)

pub span_whole : (a : PairAsks) → IsComposed a → (w : List Shown) → 0 < length w → AreClean a w (length w) → IsSpan a w
span_whole a ok [] lt c = absurd (omega arith)
span_whole a ok (x ∷ w) lt c = subst (λ (u : List Shown). IsSpan a u) (take_past (x ∷ w) (length (x ∷ w)) (omega arith)) (span_of a ok (x ∷ w) (length w) c)

pub clean_run : (a : PairAsks) → IsComposed a → CleanRun a
clean_run a ok w some c =
    let r = span_whole a ok w some c in
    let p = run_reached a ok r.0 r.1 r.2 w r.3 in
    (r.2, ap (λ (q : Reached). q.last) p, subst (λ (q : Reached). Run a.system q.line q.silents r.2 w) (sym p) r.3)

-- behind the last line no silent state stands
pub run_end : (a : PairAsks) (n j : ℕ) (s : Values) (w : List Shown) → a.system.count ≤ n → Run a.system n j s w → j ≡ 0
run_end a n j s w le (start t i e) = refl
run_end a n j s w le (wait m k t u v r lt o h) = absurd (omega arith)
run_end a n j s w le (go m k t u v r lt h) = refl
