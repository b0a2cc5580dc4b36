-- Which line a place chooses, as the code looks for it.
use Rattle.std.proofs.Common.{◌≡◌, inl, inr, ◌↔◌, ℕ, suc, zero, ◌+◌, ◌<◌, ◌≤◌, Bool, true, false, IsTrue, List, [], ◌∷◌, ◌++◌, length, map, drop, get_or, Option, Some, None, ap, sym, ◌∙◌, subst, refl, arith, append_assoc, add-one}
use Rattle.std.proofs.Math.Seq.{drop-cons}
use Rattle.std.proofs.lemmas.List.{length-map}
use Rattle.std.specs.Prelude.{MatchOption, slice_get}
use Rattle.base_core.specs.declared.place.LineAt.{LineAt}
use Rattle.states_core.specs.declared.state.Mark.{Mark}
use Rattle.states_core.specs.declared.state.Shown.{Shown}
use Rattle.base_clock_order.specs.declared.order.LineRef.{LineRef}
use Rattle.logs_updates.specs.declared.line.Line.{Line}
use Rattle.base_cuts.specs.Cuts.{Cut, next}
use Rattle.base_cuts.specs.Orders.{IsReadyAt}
use Rattle.base_cuts.proofs.Growing.{nat_lt_or}
use Rattle.base_cuts.proofs.Lengths.{next_is}
use Rattle.base_cuts.proofs.Rules.{some_is}
use Rattle.logs_tied.specs.Lines.{AreTied, StandsIn}
use Rattle.logs_tied.specs.Named.{IsChosen, IsNamed, name_of, names}
use Rattle.logs_tied.specs.declared.logs.Logs.{Logs}
use Rattle.logs_tied.proofs.Taking.{not_off}
use Rattle.logs_tied.proofs.Zips.{one_line, stands_log}

-- the places of the states behind, with that of one more state
pub places_more : (w : List Shown) (i : ℕ) (x : Shown) (old new : List LineAt) → i < length w → x ≡ get_or w i x → ((rest : List LineAt) → new ++ rest ≡ old ++ name_of x.mark rest)
    → old ++ names (drop i w) ≡ names w → new ++ names (drop (i + 1) w) ≡ names w
places_more w i x old new h e more all =
    let here : drop i w ≡ x ∷ drop (i + 1) w = rw (add-one i) (drop-cons w i x h ∙ ap (λ (d : Shown). d ∷ drop (suc i) w) (sym e)) in
    more (names (drop (i + 1) w)) ∙ ap (λ (v : List Shown). old ++ names v) (sym here) ∙ all

pub places_all : (w : List Shown) (places : List LineAt) → places ≡ [] → places ++ names (drop 0 w) ≡ names w
places_all w places none = ap (λ (ps : List LineAt). ps ++ names w) none

pub places_end : (w : List Shown) (i : ℕ) (places : List LineAt) → drop i w ≡ [] → places ++ names (drop i w) ≡ names w → places ≡ names w
places_end w i places none all = sym (nil_end places) ∙ ap (λ (v : List Shown). places ++ names v) (sym none) ∙ all
  where
    nil_end : (xs : List LineAt) → xs ++ [] ≡ xs
    nil_end [] = refl
    nil_end (x ∷ xs) = ap (λ (zs : List LineAt). x ∷ zs) (nil_end xs)

pub with_that : (old new : List LineAt) (at : LineAt) → new ≡ old ++ at ∷ [] → (rest : List LineAt) → new ++ rest ≡ old ++ at ∷ rest
with_that old new at e rest = ap (λ (ps : List LineAt). ps ++ rest) e ∙ append_assoc old (at ∷ []) rest

none_at : (l : LineAt) → ◌≡◌ {A = Option LineAt} None (Some l) → ⊥
none_at l e = cc

-- where none is named none is the one
pub none_is_named : (files : List (List Line)) (place : Option LineAt) → place ≡ None → (l : LineRef) → IsNamed files place l → ⊥
none_is_named files place none l n = none_at n.0.at (sym none ∙ n.2)

-- the line that stands there is at the place
pub is_at : (files : List (List Line)) (l : LineRef) (line : Line) (at : LineAt) → StandsIn files l line → (b : Bool) → (IsTrue b ↔ (line.at ≡ at)) → IsTrue b ↔ IsNamed files (Some at) l
is_at files l line at stands b h = (
  λ t. (line, stands, ap Some (sym (h.0 t))),
  λ n. h.1 (ap (λ (x : Line). x.at) (one_line files l line n.0 stands n.1) ∙ sym (some_is n.2)),
)

pub none_at_all : (files : List (List Line)) (l : LineRef) (at : LineAt) → ((line : Line) → StandsIn files l line → ⊥) → IsTrue false ↔ IsNamed files (Some at) l
none_at_all files l at none = (λ e. absurd (no_true e), λ n. absurd (none n.0 n.1))
  where
    no_true : IsTrue false → ⊥
    no_true e = cc

pub both_so : {P Q : Type 0} (b : Bool) → (IsTrue b ↔ P) → Q → IsTrue b ↔ (P × Q)
both_so b h q = (λ t. (h.0 t, q), λ p. h.1 p.0)

pub not_both : {P Q : Type 0} (b : Bool) → (IsTrue b ↔ Q) → b ≡ false → IsTrue false ↔ (P × Q)
not_both {P} {Q} b h off = (λ e. absurd (no_true e), λ p. absurd (not_off {P = Q} b h off p.1))
  where
    no_true : IsTrue false → ⊥
    no_true e = cc

-- the next line of that log is ready and stands at the place
abbrev pub IsThere : Logs → Cut → LineAt → ℕ → Type 0
IsThere logs c at f = IsReadyAt logs.order c (next c f) × IsNamed logs.files.items (Some at) (next c f)

-- that of none of the first n logs
abbrev pub NoneThere : Logs → Cut → LineAt → ℕ → Type 0
NoneThere logs c at n = (i : ℕ) → i < n → IsThere logs c at i → ⊥

module _ (logs : Logs) (c : Cut) (at : LineAt) where
  pub none_more : (n : ℕ) → NoneThere logs c at n → (IsThere logs c at n → ⊥) → NoneThere logs c at (n + 1)
  none_more n h last i l r = elim (nat_lt_or i n) [
    | inl less ↦ h i less r
    | inr over ↦ let same : i ≡ n = omega (arith, l, over) in last (subst (IsThere logs c at) same r)
  ]

  pub none_anywhere : AreTied logs → (n : ℕ) → length logs.files.items ≤ n → NoneThere logs c at n → (l : LineRef) → IsReadyAt logs.order c l → IsNamed logs.files.items (Some at) l → ⊥
  none_anywhere tied n over none l ready named =
      let here = next_is logs.order tied.made c l ready in
      let b : l.file < length (map length logs.files.items) = stands_log logs.files.items l named.0 named.1 in
      let long = length-map logs.files.items length in
      none l.file (omega (arith, b, long, over)) (subst (IsReadyAt logs.order c) here ready, subst (IsNamed logs.files.items (Some at)) here named)
