-- Elements of lists.
use Rattle.std.proofs.Common.{◌≡◌, ◌⊎◌, inl, inr, refl, subst, arith, ℕ, zero, suc, ◌<◌, List, [], ◌∷◌, ◌++◌, map, length, get_or}
use Rattle.std.specs.Prelude.{Any, Contains}
use Rattle.std.specs.List.{AllByRecursion}
use Rattle.values_core.specs.Ascending.{cons_cases, head_in, tail_in, none_in}

pub one_in : {X : Type 0} (x y : X) → Contains (x ∷ []) y → x ≡ y
one_in x y h = elim (cons_cases x [] y h) [
  | inl e ↦ e
  | inr g ↦ absurd (none_in y g)
]

pub in_left : {X : Type 0} (xs ys : List X) (x : X) → Contains xs x → Contains (xs ++ ys) x
in_left [] ys x h = absurd (none_in x h)
in_left (y ∷ xs) ys x h = elim (cons_cases y xs x h) [
  | inl e ↦ subst (λ z. Contains (y ∷ (xs ++ ys)) z) e (head_in y (xs ++ ys))
  | inr g ↦ tail_in y (xs ++ ys) x (in_left xs ys x g)
]

pub in_right : {X : Type 0} (xs ys : List X) (x : X) → Contains ys x → Contains (xs ++ ys) x
in_right [] ys x h = h
in_right (y ∷ xs) ys x h = tail_in y (xs ++ ys) x (in_right xs ys x h)

pub in_cases : {X : Type 0} (xs ys : List X) (x : X) → Contains (xs ++ ys) x → Contains xs x ⊎ Contains ys x
in_cases [] ys x h = inr h
in_cases (y ∷ xs) ys x h = elim (cons_cases y (xs ++ ys) x h) [
  | inl e ↦ inl (subst (λ z. Contains (y ∷ xs) z) e (head_in y xs))
  | inr g ↦ elim (in_cases xs ys x g) [
    | inl k ↦ inl (tail_in y xs x k)
    | inr k ↦ inr k
  ]
]

pub all_in : {X : Type 0} (P : X → Type 0) (xs : List X) → AllByRecursion P xs → (x : X) → Contains xs x → P x
all_in P [] a x h = absurd (none_in x h)
all_in P (y ∷ ys) a x h = elim (cons_cases y ys x h) [
  | inl e ↦ subst P e a.0
  | inr g ↦ all_in P ys a.1 x g
]

pub all_from : {X : Type 0} (P : X → Type 0) (xs : List X) → ((x : X) → Contains xs x → P x) → AllByRecursion P xs
all_from P [] f = tt
all_from P (x ∷ xs) f = (f x (head_in x xs), all_from P xs (λ y h. f y (tail_in x xs y h)))

-- All and Any, by elements

pub all_by_place : {X : Type 0} (P : X → Type 0) (xs : List X) → AllByRecursion P xs → (k : ℕ) (d : X) → k < length xs → P (get_or xs k d)
all_by_place P [] a k d h = absurd (omega (arith, h))
all_by_place P (x ∷ xs) a zero d h = a.0
all_by_place P (x ∷ xs) a (suc k) d h = all_by_place P xs a.1 k d (omega (arith, h))

pub place_by_all : {X : Type 0} (P : X → Type 0) (xs : List X) → ((k : ℕ) (d : X) → k < length xs → P (get_or xs k d)) → AllByRecursion P xs
place_by_all P [] f = tt
place_by_all P (x ∷ xs) f = (f zero x (omega arith), place_by_all P xs (λ k d h. f (suc k) d (omega (arith, h))))

pub any_of : {X : Type 0} (P : X → Type 0) (xs : List X) (x : X) → Contains xs x → P x → Any P xs
any_of P xs x h p = (h.0, x, h.1, h.2, p)

pub of_any : {X : Type 0} (P : X → Type 0) (xs : List X) → Any P xs → (x : X) × Contains xs x × P x
of_any P xs a = (a.1, (a.0, a.2, a.3), a.4)

-- maps

pub map_twice : {X Y Z : Type 0} (f : Y → Z) (g : X → Y) (h : X → Z) → ((x : X) → f (g x) ≡ h x) → (xs : List X) → map f (map g xs) ≡ map h xs
map_twice f g h e [] = refl
map_twice f g h e (x ∷ xs) = let a = e x in let b = map_twice f g h e xs in λ i. a i ∷ b i

pub of_map : {X Y : Type 0} (f : X → Y) (xs : List X) (y : Y) → Contains (map f xs) y → (x : X) × Contains xs x × (f x ≡ y)
of_map f [] y h = absurd (none_in y h)
of_map f (x ∷ xs) y h = elim (cons_cases (f x) (map f xs) y h) [
  | inl e ↦ (x, head_in x xs, e)
  | inr g ↦ let r = of_map f xs y g in (r.0, tail_in x xs r.0 r.1, r.2)
]
