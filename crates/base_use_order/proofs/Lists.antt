-- Elements of lists, one after another, and from the back.
use Rattle.std.proofs.Common.{◌≡◌, ◌≢◌, ◌⊎◌, inl, inr, ℕ, zero, suc, ◌<◌, ◌≤◌, List, [], ◌∷◌, ◌++◌, length, map, reverse, ap, sym, ◌∙◌, subst, refl, arith, length-append}
use Rattle.std.specs.List.{Contains, AllPairs, range_with_len}
use Rattle.std.proofs.lemmas.List.{reverse-append}
use Rattle.std.proofs.lemmas.List.Elements.{Contains-append_left, Contains-append_right, Contains-append_cases, Contains-push}
use Rattle.std.proofs.lemmas.List.FromFn.{length-range_with_len, get_or-range_with_len}

pub same_or_not : (m n : ℕ) → (m ≡ n) ⊎ (m ≢ n)
same_or_not m n = grind arith

pub within_or_past : (m n : ℕ) → (m < n) ⊎ (n ≤ m)
within_or_past m n = grind arith

module _ {X : Type 0} where
  pub cons_cases : (x : X) (xs : List X) (v : X) → Contains (x ∷ xs) v → (x ≡ v) ⊎ Contains xs v
  cons_cases x xs v (zero, l, e) = inl e
  cons_cases x xs v (suc k, l, e) = inr (k, omega arith, e)

  pub head_in : (x : X) (xs : List X) → Contains (x ∷ xs) x
  head_in x xs = (0, omega arith, refl)

  pub tail_in : (x : X) (xs : List X) (v : X) → Contains xs v → Contains (x ∷ xs) v
  tail_in x xs v h = (suc h.0, omega arith, h.2)

  pub none_in : (v : X) → Contains {X = X} [] v → ⊥
  none_in v h = omega (arith, h.1)

  pub cut_at : (xs : List X) (x : X) → Contains xs x → (before : List X) × (after : List X) × (xs ≡ before ++ x ∷ after)
  cut_at [] x h = absurd (none_in x h)
  cut_at (y ∷ ys) x h = elim (cons_cases y ys x h) [
    | inl e ↦ ([], ys, ap (λ (w : X). w ∷ ys) e)
    | inr g ↦ let r = cut_at ys x g in (y ∷ r.0, r.1, ap (λ (w : List X). y ∷ w) r.2)
  ]

  -- of each later one
  pub earlier : (R : X → X → Type 0) (x : X) (xs : List X) (y : X) → AllPairs R (x ∷ xs) → Contains xs y → R x y
  earlier R x xs y p h = subst (λ (w : X). R x w) h.2 (p 0 (suc h.0) y (omega arith) (omega (arith, h.1)))

  pub of_rest : (R : X → X → Type 0) (x : X) (xs : List X) → AllPairs R (x ∷ xs) → AllPairs R xs
  of_rest R x xs p = λ i j d h l. p (suc i) (suc j) d (omega arith) (omega arith)

  -- what stands once does not stand before itself
  pub not_twice : (before after : List X) (x : X) → AllPairs (λ a b. a ≢ b) (before ++ x ∷ after) → Contains before x → ⊥
  not_twice [] after x once h = none_in x h
  not_twice (y ∷ ys) after x once h = elim (cons_cases y ys x h) [
    | inl e ↦ earlier (λ a b. a ≢ b) y (ys ++ x ∷ after) x once (Contains-append_right ys (x ∷ after) x (head_in x after)) e
    | inr g ↦ not_twice ys after x (of_rest (λ a b. a ≢ b) y (ys ++ x ∷ after) once) g
  ]

  -- distinct elements of a list are no more than it has
  pub no_more : (xs ys : List X) → AllPairs (λ a b. a ≢ b) xs → ((x : X) → Contains xs x → Contains ys x) → length xs ≤ length ys
  no_more [] ys once among = omega arith
  no_more (x ∷ xs) ys once among =
      let cut = cut_at ys x (among x (head_in x xs)) in
      let others : (v : X) → Contains xs v → Contains (cut.0 ++ cut.1) v = λ v h.
      elim (Contains-append_cases cut.0 (x ∷ cut.1) v (subst (λ (w : List X). Contains w v) cut.2 (among v (tail_in x xs v h)))) [
        | inl a ↦ Contains-append_left cut.0 cut.1 v a
        | inr b ↦ elim (cons_cases x cut.1 v b) [
          | inl e ↦ absurd (earlier (λ a b. a ≢ b) x xs v once h e)
          | inr g ↦ Contains-append_right cut.0 cut.1 v g
        ]
      ] in
      let fewer : length xs ≤ length (cut.0 ++ cut.1) = no_more xs (cut.0 ++ cut.1) (of_rest (λ a b. a ≢ b) x xs once) others in
      omega (arith, fewer, length-append cut.0 cut.1, length-append cut.0 (x ∷ cut.1), ap length cut.2)

  pub nil_of : (xs : List X) → length xs ≡ 0 → xs ≡ []
  nil_of [] e = refl
  nil_of (x ∷ xs) e = absurd (omega (arith, e))

  pub reverse-push : (xs : List X) (x : X) → reverse (xs ++ x ∷ []) ≡ x ∷ reverse xs
  reverse-push xs x = reverse-append xs (x ∷ [])

  pub reverse-cons : (x : X) (xs : List X) → reverse (x ∷ xs) ≡ reverse xs ++ x ∷ []
  reverse-cons x xs = reverse-append (x ∷ []) xs

  pub reversed_in : (xs : List X) (v : X) → Contains (reverse xs) v → Contains xs v
  reversed_in [] v h = h
  reversed_in (x ∷ xs) v h = elim (Contains-append_cases (reverse xs) (x ∷ []) v (subst (λ (w : List X). Contains w v) (reverse-cons x xs) h)) [
    | inl a ↦ tail_in x xs v (reversed_in xs v a)
    | inr b ↦ elim (cons_cases x [] v b) [ inl e ↦ subst (λ (w : X). Contains (x ∷ xs) w) e (head_in x xs) | inr g ↦ absurd (none_in v g) ]
  ]

  pub in_reversed : (xs : List X) (v : X) → Contains xs v → Contains (reverse xs) v
  in_reversed [] v h = h
  in_reversed (x ∷ xs) v h = subst (λ (w : List X). Contains w v) (sym (reverse-cons x xs)) (elim (cons_cases x xs v h) [
    | inl e ↦ subst (λ (w : X). Contains (reverse xs ++ x ∷ []) w) e (Contains-push (reverse xs) x)
    | inr g ↦ Contains-append_left (reverse xs) (x ∷ []) v (in_reversed xs v g)
  ])

  pub reverse-map : {Y : Type 0} (f : X → Y) (xs : List X) → reverse (map f xs) ≡ map f (reverse xs)
  reverse-map f [] = refl
  reverse-map f (x ∷ xs) = reverse-append (f x ∷ []) (map f xs) ∙ ap (λ ys. ys ++ f x ∷ []) (reverse-map f xs) ∙ sym (ap (map f) (reverse-cons x xs) ∙ map_push f (reverse xs) x)
    where
      map_push : {Y : Type 0} (f : X → Y) (xs : List X) (x : X) → map f (xs ++ x ∷ []) ≡ map f xs ++ f x ∷ []
      map_push f [] x = refl
      map_push f (y ∷ ys) x = ap (λ w. f y ∷ w) (map_push f ys x)

pub below_in : (n a : ℕ) → a < n → Contains (range_with_len 0 n) a
below_in n a l = (a, omega (arith, length-range_with_len 0 n), get_or-range_with_len 0 n a a l ∙ omega arith)

pub in_below : (n a : ℕ) → Contains (range_with_len 0 n) a → a < n
in_below n a h =
    let l : h.0 < n = omega (arith, h.1, length-range_with_len 0 n) in
    omega (arith, h.2, get_or-range_with_len 0 n h.0 a l)

pub below_once : (n : ℕ) → AllPairs (λ a b. a ≢ b) (range_with_len 0 n)
below_once n i j d l m e =
    let k : j < n = omega (arith, m, length-range_with_len 0 n) in
    let h : i < n = omega arith in
    omega (arith, e, get_or-range_with_len 0 n i d h, get_or-range_with_len 0 n j d k)
