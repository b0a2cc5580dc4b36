-- Membership in lists, and how long lists of distinct members are.
use Rattle.std.proofs.Common.{◌≡◌, ◌≢◌, ◌≤◌, ◌<◌, ◌+◌, ◌-◌, ℕ, suc, List, [], ◌∷◌, ◌++◌, length, arith, refl, sym, subst, ap, ◌∙◌, ◌⊎◌, inl, inr, map, get_or, Some}
use Rattle.std.specs.List.{Contains, AllPairs, slice_get}
use Rattle.std.proofs.lemmas.Bool.{cases_lt}
use Rattle.std.proofs.lemmas.Option.{slice_get_within, get_or_from_slice_get, slice_get-get_or}
use Rattle.std.proofs.lemmas.Grind.{common_steps}
use Rattle.std.proofs.lemmas.List.Quantifiers.{all_pairs_push}

pub in_nil : {A : Type 0} (x : A) → Contains [] x → ⊥
in_nil x h = absurd (omega (arith, h.1))

pub in_left : {A : Type 0} (xs ys : List A) (x : A) → Contains xs x → Contains (xs ++ ys) x
in_left xs ys x h = let k = h.0 in let lt : k < length xs = h.1 in let e : get_or xs k x ≡ x = h.2 in
    (k, grind (arith, common_steps), grind (arith, common_steps))

pub in_right : {A : Type 0} (xs ys : List A) (x : A) → Contains ys x → Contains (xs ++ ys) x
in_right xs ys x h = let k = h.0 in let lt : k < length ys = h.1 in let e : get_or ys k x ≡ x = h.2 in
    (length xs + k, grind (arith, common_steps), grind (arith, common_steps))

pub in_append : {A : Type 0} (xs ys : List A) (x : A) → Contains (xs ++ ys) x → Contains xs x ⊎ Contains ys x
in_append xs ys x h = let k = h.0 in let lt : k < length (xs ++ ys) = h.1 in let e : get_or (xs ++ ys) k x ≡ x = h.2 in
    elim (cases_lt k (length xs)) [
      | inl a ↦ inl (k, a, grind (arith, common_steps))
      | inr b ↦ inr (k - length xs, grind (arith, common_steps), grind (arith, common_steps))
    ]

pub in_one : {A : Type 0} (x y : A) → Contains (x ∷ []) y → x ≡ y
in_one x y h = let k = h.0 in let lt : k < 1 = h.1 in let z : k ≡ 0 = omega arith in
    let e : get_or (x ∷ []) k y ≡ y = h.2 in let f : get_or (x ∷ []) 0 y ≡ y = subst (λ (n : ℕ). get_or (x ∷ []) n y ≡ y) z e in f

pub in_map : {A B : Type 0} (f : A → B) (xs : List A) (x : A) → Contains xs x → Contains (map f xs) (f x)
in_map f xs x h = let k = h.0 in let lt : k < length xs = h.1 in let e : get_or xs k x ≡ x = h.2 in
    (k, grind (arith, common_steps), grind (arith, common_steps))

pub distinct_push : {A : Type 0} (xs : List A) (y : A) → AllPairs (λ a b. a ≢ b) xs → (Contains xs y → ⊥) → AllPairs (λ a b. a ≢ b) (xs ++ y ∷ [])
distinct_push xs y d new = all_pairs_push (λ a b. a ≢ b) xs y d
    (λ k x lt e. new (k, lt, grind (arith, common_steps)))

pub map_in : {A B : Type 0} (f : A → B) (xs : List A) (y : B) → Contains (map f xs) y → (x : A) × Contains xs x × (f x ≡ y)
map_in f [] y h = absurd (in_nil y h)
map_in f (x ∷ xs) y h = elim (in_append (f x ∷ []) (map f xs) y h) [
  | inl a ↦ (x, (0, omega arith, refl), in_one (f x) y a)
  | inr b ↦ (let r = map_in f xs y b in (r.0, in_right (x ∷ []) xs r.0 r.1, r.2))
]

pub distinct_append : {A : Type 0} (xs ys : List A) → AllPairs (λ a b. a ≢ b) xs → AllPairs (λ a b. a ≢ b) ys
    → ((x : A) → Contains xs x → Contains ys x → ⊥) → AllPairs (λ a b. a ≢ b) (xs ++ ys)
distinct_append xs ys d e apart i j x lt under =
    let all : length (xs ++ ys) ≡ length xs + length ys = grind (arith, common_steps) in
    elim (cases_lt j (length xs)) [
      | inl a ↦ (let p : get_or (xs ++ ys) i x ≡ get_or xs i x = grind (arith, common_steps) in
          let q : get_or (xs ++ ys) j x ≡ get_or xs j x = grind (arith, common_steps) in
          rw (p, q) (d i j x lt a))
      | inr b ↦ (let q : get_or (xs ++ ys) j x ≡ get_or ys (j - length xs) x = grind (arith, common_steps) in
          elim (cases_lt i (length xs)) [
            | inl a ↦ (let p : get_or (xs ++ ys) i x ≡ get_or xs i x = grind (arith, common_steps) in
                rw (p, q) (λ same. apart (get_or xs i x) (i, a, grind (arith, common_steps)) (j - length xs, omega arith, (let low : j - length xs < length ys = omega arith in let g : get_or ys (j - length xs) (get_or xs i x) ≡ get_or ys (j - length xs) x = grind (arith, common_steps) in g ∙ sym same))))
            | inr c ↦ (let p : get_or (xs ++ ys) i x ≡ get_or ys (i - length xs) x = grind (arith, common_steps) in
                rw (p, q) (e (i - length xs) (j - length xs) x (omega arith) (omega arith)))
          ])
    ]

pub distinct_head : {A : Type 0} (x : A) (xs : List A) → AllPairs (λ a b. a ≢ b) (x ∷ xs) → (y : A) → Contains xs y → x ≢ y
distinct_head x xs d y h e = let k = h.0 in let lt : k < length xs = h.1 in let at : get_or xs k y ≡ y = h.2 in
    d 0 (suc k) y (omega arith) (omega arith) (e ∙ sym at)

pub distinct_tail : {A : Type 0} (x : A) (xs : List A) → AllPairs (λ a b. a ≢ b) (x ∷ xs) → AllPairs (λ a b. a ≢ b) xs
distinct_tail x xs d i j y lt under = d (suc i) (suc j) y (omega arith) (omega arith)

pub record Split {A : Type 0} (xs : List A) (y : A) : Type 0 where
  pub before : List A
  pub after : List A
  pub is : xs ≡ before ++ (y ∷ after)

pub split : {A : Type 0} (xs : List A) (y : A) → Contains xs y → Split xs y
split [] y h = absurd (in_nil y h)
split (x ∷ xs) y h = elim (in_append (x ∷ []) xs y h) [
  | inl a ↦ record { before = []; after = xs; is = ap (λ z. z ∷ xs) (in_one x y a) }
  | inr b ↦ (let r = split xs y b in record { before = x ∷ r.before; after = r.after; is = ap (λ zs. x ∷ zs) r.is })
]

-- members of a list, each once, are at most as many as the list
pub no_longer : {A : Type 0} (ys xs : List A) → AllPairs (λ a b. a ≢ b) ys → ((y : A) → Contains ys y → Contains xs y) → length ys ≤ length xs
no_longer [] xs d sub = omega arith
no_longer {A} (y ∷ ys) xs d sub =
    let r = split xs y (sub y (0, omega arith, refl)) in
    let rest : length ys ≤ length (r.before ++ r.after) = no_longer ys (r.before ++ r.after) (distinct_tail y ys d)
    (λ z h. elim (in_append r.before (y ∷ r.after) z (subst (λ zs. Contains zs z) r.is (sub z (in_right (y ∷ []) ys z h)))) [
      | inl a ↦ in_left r.before r.after z a
      | inr b ↦ (elim (in_append (y ∷ []) r.after z b) [
        | inl c ↦ absurd (distinct_head y ys d z h (in_one y z c))
        | inr c ↦ in_right r.before r.after z c
      ])
    ]) in
    let all : length xs ≡ length (r.before ++ (y ∷ r.after)) = ap (λ zs. length zs) r.is in
    let left : length (r.before ++ (y ∷ r.after)) ≡ length r.before + suc (length r.after) = grind (arith, common_steps) in
    let right : length (r.before ++ r.after) ≡ length r.before + length r.after = grind (arith, common_steps) in
    omega arith

pub distinct_cons : {A : Type 0} (x : A) (xs : List A) → (Contains xs x → ⊥) → AllPairs (λ a b. a ≢ b) xs → AllPairs (λ a b. a ≢ b) (x ∷ xs)
distinct_cons x xs new d = distinct_append (x ∷ []) xs (λ i j y lt under. absurd (omega arith)) d
    (λ y h in_xs. new (subst (λ z. Contains xs z) (sym (in_one x y h)) in_xs))

pub distinct_map : {A B : Type 0} (f : A → B) → ((x y : A) → f x ≡ f y → x ≡ y) → (xs : List A) → AllPairs (λ a b. a ≢ b) xs → AllPairs (λ a b. a ≢ b) (map f xs)
distinct_map f inj [] d = λ i j y lt under. absurd (omega arith)
distinct_map f inj (x ∷ xs) d = distinct_cons (f x) (map f xs)
    (λ h. let r = map_in f xs (f x) h in distinct_head x xs d r.0 r.1 (inj x r.0 (sym r.2)))
    (distinct_map f inj xs (distinct_tail x xs d))

pub get_below : {A : Type 0} (xs : List A) (i : ℕ) (x : A) → slice_get xs i ≡ Some x → i < length xs
get_below xs i x e = slice_get_within xs i x e

pub get_in : {A : Type 0} (xs : List A) (i : ℕ) (x : A) → slice_get xs i ≡ Some x → Contains xs x
get_in xs i x e = (i, slice_get_within xs i x e, get_or_from_slice_get xs i x x e)

pub in_get : {A : Type 0} (xs : List A) (x : A) → Contains xs x → (i : ℕ) × (slice_get xs i ≡ Some x)
in_get xs x h = (h.0, slice_get-get_or xs h.0 x h.1 ∙ ap (λ z. Some z) h.2)

pub get_same : {A : Type 0} (xs : List A) (i : ℕ) (x z : A) → slice_get xs i ≡ Some x → slice_get xs i ≡ Some z → x ≡ z
get_same xs i x z a b = cc
