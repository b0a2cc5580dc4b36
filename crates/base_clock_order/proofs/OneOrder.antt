-- A rule that tells any two lines apart leaves one order.
use Rattle.std.proofs.Common.{◌≡◌, ◌≢◌, ◌⊎◌, inl, inr, ℕ, zero, suc, ◌<◌, ℤ, pos, negsuc, ◌<ℤ◌, List, [], ◌∷◌, ap, sym, ◌∙◌, subst, refl, arith}
use Rattle.std.proofs.lemmas.Int.{ints}
use Rattle.std.specs.List.{Contains, AllPairs}
use Rattle.base_clock_order.specs.Orders.{Clocks, IsLine, FollowsInLog, FollowsByFile, IsMerged, IsOnlyOrder}
use Rattle.base_clock_order.specs.declared.order.LineRef.{LineRef}

module _ {X : Type 0} where
  pub cons_cases : (x : X) (xs : List X) (v : X) → Contains (x ∷ xs) v → (x ≡ v) ⊎ Contains xs v
  cons_cases x xs v (zero, l, e) = inl e
  cons_cases x xs v (suc k, l, e) = inr (k, omega arith, e)

  pub head_in : (x : X) (xs : List X) → Contains (x ∷ xs) x
  head_in x xs = (0, omega arith, refl)

  pub tail_in : (x : X) (xs : List X) (v : X) → Contains xs v → Contains (x ∷ xs) v
  tail_in x xs v h = (suc h.0, omega arith, h.2)

  pub none_in : (v : X) → Contains {X = X} [] v → ⊥
  none_in v h = omega (arith, h.1)

  -- of each later one
  before : (R : X → X → Type 0) (x : X) (xs : List X) (y : X) → AllPairs R (x ∷ xs) → Contains xs y → R x y
  before R x xs y p h = subst (λ (w : X). R x w) h.2 (p 0 (suc h.0) y (omega arith) (omega (arith, h.1)))

  rest : (R : X → X → Type 0) (x : X) (xs : List X) → AllPairs R (x ∷ xs) → AllPairs R xs
  rest R x xs p = λ i j d h l. p (suc i) (suc j) d (omega arith) (omega arith)

  -- what is behind the first of both lists
  behind : (x y : X) (xs ys : List X) (z : X) → x ≡ y → AllPairs (λ a b. a ≢ b) (x ∷ xs) → Contains (y ∷ ys) z → Contains xs z → Contains ys z
  behind x y xs ys z e once h k = elim (cons_cases y ys z h) [
    | inl f ↦ absurd (before (λ a b. a ≢ b) x xs z once k (e ∙ f))
    | inr g ↦ g
  ]

  pub one_order : (R : X → X → Type 0) (P : X → Type 0) → ((x y : X) → P x → P y → (x ≡ y) ⊎ R x y ⊎ R y x) → (a b : List X) → ((x : X) → Contains a x → P x)
      → AllPairs (λ x y. x ≢ y) a → AllPairs (λ x y. x ≢ y) b → AllPairs (λ x y. ¬ R x y) a → AllPairs (λ x y. ¬ R x y) b
      → ((x : X) → Contains a x → Contains b x) → ((x : X) → Contains b x → Contains a x) → a ≡ b
  one_order R P t [] [] p oa ob ra rb to back = refl
  one_order R P t [] (y ∷ ys) p oa ob ra rb to back = absurd (none_in y (back y (head_in y ys)))
  one_order R P t (x ∷ xs) [] p oa ob ra rb to back = absurd (none_in x (to x (head_in x xs)))
  one_order R P t (x ∷ xs) (y ∷ ys) p oa ob ra rb to back =
      let first : x ≡ y = elim (t x y (p x (head_in x xs)) (p y (back y (head_in y ys)))) [
        | inl e ↦ e
        | inr h ↦ elim h [
          | inl r ↦ elim (cons_cases x xs y (back y (head_in y ys))) [ inl e ↦ e | inr k ↦ absurd (before (λ u v. ¬ R u v) x xs y ra k r) ]
          | inr r ↦ elim (cons_cases y ys x (to x (head_in x xs))) [ inl e ↦ sym e | inr k ↦ absurd (before (λ u v. ¬ R u v) y ys x rb k r) ]
        ]
      ] in
      let tails : xs ≡ ys = one_order R P t xs ys (λ z h. p z (tail_in x xs z h)) (rest (λ u v. u ≢ v) x xs oa) (rest (λ u v. u ≢ v) y ys ob) (rest (λ u v. ¬ R u v) x xs ra) (rest (λ u v. ¬ R u v) y ys rb)
      (λ z h. behind x y xs ys z first oa (to z (tail_in x xs z h)) h) (λ z h. behind y x ys xs z (sym first) ob (back z (tail_in y ys z h)) h) in
      λ i. first i ∷ tails i

nat_three : (m n : ℕ) → (m ≡ n) ⊎ (m < n) ⊎ (n < m)
nat_three m n = grind arith

pub int_three : (c d : ℤ) → (c ≡ d) ⊎ (c <ℤ d) ⊎ (d <ℤ c)
int_three (pos m) (pos n) = elim (nat_three m n) [ inl e ↦ inl (ap pos e) | inr h ↦ elim h [ inl l ↦ inr (inl (omega (arith, ints, l))) | inr l ↦ inr (inr (omega (arith, ints, l))) ] ]
int_three (pos m) (negsuc n) = inr (inr (omega (arith, ints)))
int_three (negsuc m) (pos n) = inr (inl (omega (arith, ints)))
int_three (negsuc m) (negsuc n) = elim (nat_three m n) [ inl e ↦ inl (ap negsuc e) | inr h ↦ elim h [ inl l ↦ inr (inr (omega (arith, ints, l))) | inr l ↦ inr (inl (omega (arith, ints, l))) ] ]

abbrev Follows : Clocks → LineRef → LineRef → Type 0
Follows clocks x y = FollowsByFile clocks x y ⊎ FollowsInLog x y

-- of two lines one follows the other, or they are one
three : (clocks : Clocks) (x y : LineRef) → IsLine clocks x → IsLine clocks y → (x ≡ y) ⊎ Follows clocks x y ⊎ Follows clocks y x
three clocks x y p q = elim (int_three p.0 q.0) [
  | inl e ↦ elim (nat_three x.file y.file) [
    | inl f ↦ elim (nat_three x.index y.index) [
      | inl g ↦ inl (λ i. record { file = f i; index = g i })
      | inr h ↦ elim h [ inl l ↦ inr (inr (inr (sym f, l))) | inr l ↦ inr (inl (inr (f, l))) ]
    ]
    | inr h ↦ elim h [ inl l ↦ inr (inr (inl (q.0, p.0, q.1, p.1, inr (e, l)))) | inr l ↦ inr (inl (inl (p.0, q.0, p.1, q.1, inr (sym e, l)))) ]
  ]
  | inr h ↦ elim h [ inl l ↦ inr (inr (inl (q.0, p.0, q.1, p.1, inl l))) | inr l ↦ inr (inl (inl (p.0, q.0, p.1, q.1, inl l))) ]
]

none_follows : (clocks : Clocks) (a : List LineRef) → IsMerged clocks a → AllPairs (λ x y. ¬ Follows clocks x y) a
none_follows clocks a m = λ i j d h l f. elim f [ inl g ↦ m.rule i j d h l g | inr g ↦ m.in_log i j d h l g ]

pub only_order : IsOnlyOrder
only_order clocks a b p q =
    one_order (Follows clocks) (IsLine clocks) (three clocks) a b p.lines.lines p.lines.once q.lines.once (none_follows clocks a p) (none_follows clocks b q)
    (λ x h. q.lines.all x (p.lines.lines x h)) (λ x h. p.lines.all x (q.lines.lines x h))
