-- Tests that are answered, and what holds of the items of a list that a loop has passed.
use Rattle.std.proofs.Common.{◌≡◌, ◌⊎◌, inl, inr, ℕ, ◌+◌, ◌<◌, ◌≤◌, List, length, get_or, ap, sym, ◌∙◌, subst, refl, arith}
use Rattle.std.specs.Prelude.{◌↔◌, Bool, true, false, IsTrue, slice_get, Some, None, Contains}
use Rattle.std.proofs.lemmas.Option.{slice_get_read, slice_get_within, get_or_from_slice_get, slice_get_cases}

pub denied : (P : Type 0) → ¬ P → IsTrue false ↔ P
denied P n = (λ e. cc, λ p. absurd (n p))

pub granted : (P : Type 0) → P → IsTrue true ↔ P
granted P p = (λ e. p, λ q. refl)

pub refuted : (P : Type 0) (b : Bool) → (IsTrue b ↔ P) → b ≡ false → ¬ P
refuted P b w e p = let f : b ≡ true = w.1 p in cc

pub confirmed : (P : Type 0) (b : Bool) → (IsTrue b ↔ P) → b ≡ true → P
confirmed P b w e = w.0 e

pub item_at : {X : Type 0} (xs : List X) (i : ℕ) (x : X) → i < length xs → x ≡ get_or xs i x → slice_get xs i ≡ Some x
item_at xs i x h e = slice_get_read xs (length xs) i x refl h e

pub none_within : {X : Type 0} (xs : List X) (i : ℕ) → slice_get xs i ≡ None → length xs ≤ i
none_within xs i e = elim (slice_get_cases xs i).1 [
  | inl g ↦ let f : None ≡ Some g.0 = sym e ∙ g.2 in cc
  | inr g ↦ g.0
]

below_or : (k i : ℕ) → k < i + 1 → (k < i) ⊎ (k ≡ i)
below_or k i h = grind arith

module _ {X : Type 0} where
  -- each item before the index meets G
  abbrev pub EachBelow : (X → Type 0) → List X → ℕ → Type 0
  EachBelow G xs i = (k : ℕ) (y : X) → k < i → slice_get xs k ≡ Some y → G y

  pub none_below : (G : X → Type 0) (xs : List X) → EachBelow G xs 0
  none_below G xs k y l e = absurd (omega arith)

  pub one_more : (G : X → Type 0) (xs : List X) (i : ℕ) (x : X) → slice_get xs i ≡ Some x → G x → EachBelow G xs i → EachBelow G xs (i + 1)
  one_more G xs i x e g f k y l h = elim (below_or k i l) [
    | inl m ↦ f k y m h
    | inr m ↦
        let p : Some x ≡ Some y = sym e ∙ ap (λ n. slice_get xs n) (sym m) ∙ h in
        let q : x ≡ y = cc in
        subst G q g
  ]

  pub all_of : (G : X → Type 0) (xs : List X) (i : ℕ) → length xs ≤ i → EachBelow G xs i → (y : X) → Contains xs y → G y
  all_of G xs i l f y h = f h.0 y (omega (arith, h.1)) (slice_get_read xs (length xs) h.0 y refl h.1 (sym h.2))

  pub is_in : (xs : List X) (i : ℕ) (x : X) → slice_get xs i ≡ Some x → Contains xs x
  is_in xs i x e = (i, slice_get_within xs i x e, get_or_from_slice_get xs i x x e)
