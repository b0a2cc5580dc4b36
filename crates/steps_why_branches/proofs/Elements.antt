-- Elements of lists.
use Rattle.std.proofs.Common.{◌≡◌, ◌⊎◌, inl, inr, refl, sym, ap, subst, arith, ℕ, zero, suc, ◌<◌, ◌+◌, List, [], ◌∷◌, ◌++◌, map, length}
use Rattle.std.specs.Prelude.{Contains, Some, None, Option, slice_get}
use Rattle.values_core.specs.Ascending.{cons_cases, head_in, none_in, tail_in}

pub in_map : {X Y : Type 0} (f : X → Y) (xs : List X) (x : X) → Contains xs x → Contains (map f xs) (f x)
in_map f [] x h = absurd (none_in x h)
in_map f (y ∷ xs) x h = elim (cons_cases y xs x h) [
  | inl e ↦ subst (λ z. Contains (f y ∷ map f xs) (f z)) e (head_in (f y) (map f xs))
  | inr g ↦ tail_in (f y) (map f xs) (f x) (in_map f xs x g)
]

pub map_length : {X Y : Type 0} (f : X → Y) (xs : List X) → length (map f xs) ≡ length xs
map_length f [] = refl
map_length f (x ∷ xs) = let h : length (map f xs) ≡ length xs = map_length f xs in omega (arith, h)

pub append_length : {X : Type 0} (xs ys : List X) → length (xs ++ ys) ≡ length xs + length ys
append_length [] ys = omega arith
append_length (x ∷ xs) ys = let h : length (xs ++ ys) ≡ length xs + length ys = append_length xs ys in omega (arith, h)

-- what stands at an index

pub some_one : {X : Type 0} (x y : X) → ◌≡◌ {A = Option X} (Some x) (Some y) → x ≡ y
some_one x y e = cc

pub none_some : {X : Type 0} (y : X) → ◌≡◌ {A = Option X} None (Some y) → ⊥
none_some y e = cc

pub get_nil : {X : Type 0} (i : ℕ) (y : X) → slice_get {X = X} [] i ≡ Some y → ⊥
get_nil i y e = none_some y e

pub get_before : {X : Type 0} (xs ys : List X) (i : ℕ) (y : X) → slice_get xs i ≡ Some y → slice_get (xs ++ ys) i ≡ Some y
get_before [] ys i y e = absurd (get_nil i y e)
get_before (x ∷ xs) ys zero y e = e
get_before (x ∷ xs) ys (suc i) y e = get_before xs ys i y e

pub get_last : {X : Type 0} (xs : List X) (y : X) → slice_get (xs ++ y ∷ []) (length xs) ≡ Some y
get_last [] y = refl
get_last (x ∷ xs) y = get_last xs y

pub get_below : {X : Type 0} (xs : List X) (i : ℕ) (y : X) → slice_get xs i ≡ Some y → i < length xs
get_below [] i y e = absurd (get_nil i y e)
get_below (x ∷ xs) zero y e = omega arith
get_below (x ∷ xs) (suc i) y e = let h : i < length xs = get_below xs i y e in omega (arith, h)

pub get_cases : {X : Type 0} (xs : List X) (z : X) (i : ℕ) (y : X) → slice_get (xs ++ z ∷ []) i ≡ Some y → (slice_get xs i ≡ Some y) ⊎ ((i ≡ length xs) × (y ≡ z))
get_cases [] z zero y e = inr (refl, sym (some_one z y e))
get_cases [] z (suc i) y e = absurd (get_nil i y e)
get_cases (x ∷ xs) z zero y e = inl e
get_cases (x ∷ xs) z (suc i) y e = elim (get_cases xs z i y e) [
  | inl h ↦ inl h
  | inr h ↦ inr (ap suc h.0, h.1)
]

pub get_in : {X : Type 0} (ws : List X) (j : ℕ) (w : X) → slice_get ws j ≡ Some w → Contains ws w
get_in [] j w k = absurd (get_nil j w k)
get_in (u ∷ ws) zero w k = subst (λ z. Contains (u ∷ ws) z) (some_one u w k) (head_in u ws)
get_in (u ∷ ws) (suc j) w k = tail_in u ws w (get_in ws j w k)
