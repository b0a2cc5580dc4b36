-- A behaviour that a search finds where nothing faults is clean in each state.
use Rattle.std.proofs.Common.{◌≡◌, ◌<◌, ℕ, List, [], ◌∷◌, ◌++◌, length, arith, refl, sym, subst, inl, inr, Some}
use Rattle.std.proofs.lemmas.Bool.{cases_lt}
use Rattle.std.proofs.lemmas.List.{length-append, take-append-le}
use Rattle.states_core.specs.States.{Values, shown}
use Rattle.states_core.specs.Runs.{Run, start, wait, go, Layer}
use Rattle.states_core.specs.declared.state.Mark.TheVariants.{Init, Silent, Line}
use Rattle.states_core.specs.declared.state.Shown.{Shown}
use Rattle.states_verdicts.specs.Asks.{PairAsks, IsComposed, IsLineStep, IsMonotone}
use Rattle.states_verdicts.specs.Cleans.{Reached, nowhere, reached, IsClean, IsCleanAt, AreClean}
use Rattle.states_verdicts.specs.Founds.{behind}
use Rattle.states_verdicts.specs.Laws.{IsFaultless, FoundIsValid}
use Rattle.states_verdicts.proofs.Lists.{get_left, get_end, take_end}
use Rattle.states_verdicts.proofs.Runs.{run_reached}

-- one more clean state
pub clean_push : (a : PairAsks) (w : List Shown) (x : Shown) → AreClean a w (length w) → IsClean a (reached nowhere w) (Some x) → AreClean a (w ++ x ∷ []) (length (w ++ x ∷ []))
clean_push a w x old now k lt = elim (cases_lt k (length w)) [
  | inl less ↦ rw (get_left w (x ∷ []) k less, take-append-le k w (x ∷ []) (omega arith)) (old k less)
  | inr more ↦ (let long = length-append w (x ∷ []) in let same : k ≡ length w = omega arith in
      subst (λ (i : ℕ). IsCleanAt a (w ++ x ∷ []) i) (sym same) (rw (get_end w x, take_end w (x ∷ [])) now))
]

-- the same behind a run
clean_more : (a : PairAsks) → IsComposed a → (n j : ℕ) (s : Values) (w : List Shown) (x : Shown) → Run a.system n j s w → AreClean a w (length w)
    → IsClean a (behind n j s) (Some x) → AreClean a (w ++ x ∷ []) (length (w ++ x ∷ []))
clean_more a ok n j s w x r old now = clean_push a w x old (subst (λ (p : Reached). IsClean a p (Some x)) (sym (run_reached a ok n j s w r)) now)

layer : (a : PairAsks) (n j : ℕ) (s : Values) (w : List Shown) → Run a.system n j s w → Layer a.system n j s
layer a n j s w r = record { states = w; run = r }

step_seen : (a : PairAsks) (n : ℕ) (s t : Values) → IsLineStep a n s t → a.system.Seen n s t
step_seen a n s t (inl h) = h.shows
step_seen a n s t (inr h) = h.shows

step_clean : (a : PairAsks) → IsComposed a → IsMonotone a → IsFaultless a.system a.system.count → (n j : ℕ) (s t : Values) (w : List Shown) → n < a.system.count → Run a.system n j s w
    → a.system.Step n s t → IsClean a (behind n j s) (Some (shown (Line (a.system.at n s t)) t))
step_clean a ok up c n j s t w lt r h = (
  (lt, refl, h),
  λ f bad. c.steps n j lt (
    s,
    t,
    f,
    layer a n j s w r,
    lt,
    inl (up.step n s t f lt bad.1, step_seen a n s t ((ok.step n s t).0 h)),
  ),
)

-- the states as they are, for those that are shown
as_shown : (a : PairAsks) → IsComposed a → (P : Values → Type 0) (t : Values) → P t → P (a.system.state_of t)
as_shown a ok P t h = subst P (sym (ok.state t)) h

pub run_clean : (a : PairAsks) → IsComposed a → IsMonotone a → IsFaultless a.system a.system.count → (n j : ℕ) (s : Values) (w : List Shown) → Run a.system n j s w → AreClean a w (length w)
run_clean a ok up c n j s w (start u i e) =
    as_shown a ok (λ (x : Values). AreClean a (shown Init x ∷ []) 1) u
    (clean_push a [] (shown Init u) (λ k lt. absurd (omega arith)) ((i, e), λ f bad. c.init (u, f, up.init u f bad, e)))
run_clean a ok up c n j s w (wait m k u t v r lt le h) =
    as_shown a ok (λ (x : Values). AreClean a (v ++ shown Silent x ∷ []) (length (v ++ shown Silent x ∷ []))) t
    (clean_more a ok m k u v (shown Silent t) r (run_clean a ok up c m k u v r)
    ((lt, le, h), λ f bad. c.steps m k lt (u, t, f, layer a m k u v r, lt, inr (le, up.silent u t f bad))))
run_clean a ok up c n j s w (go m k u t v r lt h) =
    as_shown a ok (λ (x : Values). AreClean a (v ++ shown (Line (a.system.at m u t)) x ∷ []) (length (v ++ shown (Line (a.system.at m u t)) x ∷ []))) t
    (clean_more a ok m k u v (shown (Line (a.system.at m u t)) t) r (run_clean a ok up c m k u v r) (step_clean a ok up c m k u t v lt r h))

pub found_is_valid : (a : PairAsks) → IsComposed a → FoundIsValid a
found_is_valid a ok up c w b = (b, run_clean a ok up c a.system.count 0 b.0 w b.1)
