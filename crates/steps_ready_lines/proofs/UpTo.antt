-- What holds of the items of a list up to a place.
use Rattle.std.proofs.Common.{◌≡◌, ◌<◌, ◌≤◌, ◌+◌, ℕ, List, length, get_or, sym, ◌∙◌, subst, arith, inl, inr}
use Rattle.std.specs.Prelude.{All}
use Rattle.std.proofs.lemmas.Bool.{cases_lt}
use Rattle.std.proofs.lemmas.List.{get_or_default}
use Rattle.values_core.specs.Data.{Val}
use Rattle.values_core.specs.IsValue.{IsValue}
use Rattle.eval_meanings.specs.Laws.{AreValues}

abbrev pub UpTo : {X : Type 0} → (X → Type 0) → List X → ℕ → Type 0
UpTo {X} P xs i = (k : ℕ) (d : X) → k < i → k < length xs → P (get_or xs k d)

pub up_to_none : {X : Type 0} (P : X → Type 0) (xs : List X) → UpTo P xs 0
up_to_none P xs k d below l = absurd (omega (arith, below))

pub up_to_more : {X : Type 0} (P : X → Type 0) (xs : List X) (i : ℕ) (x : X) → i < length xs → x ≡ get_or xs i x → P x → UpTo P xs i → UpTo P xs (i + 1)
up_to_more {X} P xs i x inside is holds before k d below l = elim (cases_lt k i) [
  | inl lt ↦ before k d lt l
  | inr past ↦ at_last (omega (arith, below, past))
]
  where
    here : P (get_or xs i d)
    here = subst P (is ∙ get_or_default xs i x d inside) holds

    at_last : k ≡ i → P (get_or xs k d)
    at_last e = subst (λ (j : ℕ). P (get_or xs j d)) (sym e) here

pub up_to_all : {X : Type 0} (P : X → Type 0) (xs : List X) (i : ℕ) → length xs ≤ i → UpTo P xs i → All P xs
up_to_all P xs i end h k d l = h k d (omega (arith, l, end)) l

pub values_so : (vs : List Val) → All IsValue vs → AreValues vs
values_so vs h v (k, inside, e) = subst IsValue e (h k v inside)
