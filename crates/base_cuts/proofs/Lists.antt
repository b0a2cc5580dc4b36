-- Lists, and what holds of any two of their places.
use Rattle.std.proofs.Common.{◌≡◌, ◌⊎◌, inl, inr, ℕ, zero, suc, ◌<◌, List, [], ◌∷◌, length, get_or, subst, refl, arith}
use Rattle.std.specs.List.{Contains, AllPairs}

module _ {X : Type 0} where
  pub cons_cases : (x : X) (xs : List X) (v : X) → Contains (x ∷ xs) v → (x ≡ v) ⊎ Contains xs v
  cons_cases x xs v (zero, l, e) = inl e
  cons_cases x xs v (suc k, l, e) = inr (k, omega arith, e)

  pub head_in : (x : X) (xs : List X) → Contains (x ∷ xs) x
  head_in x xs = (0, omega arith, refl)

  pub tail_in : (x : X) (xs : List X) (v : X) → Contains xs v → Contains (x ∷ xs) v
  tail_in x xs v h = (suc h.0, omega arith, h.2)

  pub none_in : (v : X) → Contains {X = X} [] v → ⊥
  none_in v h = omega (arith, h.1)

  pub before : (R : X → X → Type 0) (x : X) (xs : List X) (y : X) → AllPairs R (x ∷ xs) → Contains xs y → R x y
  before R x xs y p h = subst (λ (w : X). R x w) h.2 (p 0 (suc h.0) y (omega arith) (omega (arith, h.1)))

  pub rest : (R : X → X → Type 0) (x : X) (xs : List X) → AllPairs R (x ∷ xs) → AllPairs R xs
  rest R x xs p = λ i j d h l. p (suc i) (suc j) d (omega arith) (omega arith)

  pub pairs_none : (R : X → X → Type 0) → AllPairs R []
  pairs_none R = λ i j d h l. absurd (omega (arith, l))

  pub get_or_any : (xs : List X) (i : ℕ) (a b : X) → i < length xs → get_or xs i a ≡ get_or xs i b
  get_or_any [] i a b h = absurd (omega (arith, h))
  get_or_any (x ∷ xs) zero a b h = refl
  get_or_any (x ∷ xs) (suc i) a b h = get_or_any xs i a b (omega (arith, h))

  pub pairs_more : (R : X → X → Type 0) (x : X) (xs : List X) → ((y : X) → Contains xs y → R x y) → AllPairs R xs → AllPairs R (x ∷ xs)
  pairs_more R x xs each p i zero d h l = absurd (omega (arith, h))
  pairs_more R x xs each p zero (suc j) d h l = let b : j < length xs = omega (arith, l) in each (get_or xs j d) (j, b, get_or_any xs j (get_or xs j d) d b)
  pairs_more R x xs each p (suc i) (suc j) d h l = p i j d (omega (arith, h)) (omega (arith, l))
