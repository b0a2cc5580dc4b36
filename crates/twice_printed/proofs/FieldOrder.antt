-- The numbers of the variables in the order of a state's fields: each once, and their names ascend.
use Rattle.std.proofs.Common.{◌≡◌, ◌≢◌, inl, inr, ℕ, zero, suc, ◌+◌, ◌<◌, ◌≤◌, ◌==◌, List, [], ◌∷◌, length, get_or, true, false, cond, Ordering, Less, Equal, Greater, refl, sym, ap, ◌∙◌, arith, true≢false, sum_by, AllPairs, Contains}
use Rattle.std.proofs.lemmas.Bool.{cases_eq, cases_lt}
use Rattle.std.proofs.lemmas.Bool.Decides.{nat_tests}
use Rattle.std.proofs.lemmas.List.Elements.{Contains-append_right, recursion_from_All, All-from_recursion}
use Rattle.std.proofs.lemmas.List.Sorted.{IsPermutation-refl, All-permutation, Contains-permutation, sum_by-IsPermutation, sum_by_pushed}
use Rattle.std.proofs.lemmas.Option.{slice_get-get_or}
use Rattle.std.specs.Cmp.Lexicographic.{slice_cmp, nat_list_cmp_total, nat_list_eq_equiv, texts_ties, same_text}
use Rattle.std.specs.List.{AllByRecursion}
use Rattle.std.specs.Ordering.{is_eq, is_lt, nat_cmp, ordering_reverse}
use Rattle.run_texts.specs.Places.{name_at, text_or_none}
use Rattle.run_texts.specs.States.{in_order}
use Rattle.run_texts.specs.Ordered.{Ascends, OrderAscends, numbers_below}

equal : (o : Ordering) → is_eq o ≡ true → o ≡ Equal
equal Less e = absurd (true≢false (sym e))
equal Equal e = refl
equal Greater e = absurd (true≢false (sym e))

pub equal_itself : (k : List ℕ) → slice_cmp nat_cmp k k ≡ Equal
equal_itself k = equal (slice_cmp nat_cmp k k) (sym (texts_ties k k) ∙ nat_list_eq_equiv.refl k)

pub equal_same : (k l : List ℕ) → slice_cmp nat_cmp k l ≡ Equal → k ≡ l
equal_same k l e = same_text k l (sym (texts_ties k l ∙ ap is_eq e))

greater : (o : Ordering) → is_lt o ≡ false → ¬ (o ≡ Equal) → o ≡ Greater
greater Less e n = absurd (true≢false e)
greater Equal e n = absurd (n refl)
greater Greater e n = refl

-- how often x is a number of the list
abbrev hit : ℕ → ℕ → ℕ
hit x y = cond (y == x) 1 0

hit_most : (x y : ℕ) → hit x y ≤ 1
hit_most x y = grind (arith, nat_tests)

hit_itself : (x : ℕ) → hit x x ≡ 1
hit_itself x = grind (arith, nat_tests)

hit_below : (x y : ℕ) → y < x → hit x y ≡ 0
hit_below x y h = grind (arith, nat_tests, h)

hit_above : (x y : ℕ) → x < y → hit x y ≡ 0
hit_above x y h = grind (arith, nat_tests, h)

one_more : (x y : ℕ) (ys : List ℕ) → sum_by (hit x) (y ∷ ys) ≡ hit x y + sum_by (hit x) ys
one_more x y ys = sum_by_pushed (hit x) y ys (y ∷ ys) (IsPermutation-refl (y ∷ ys))

none_beyond : (n x : ℕ) → n ≤ x → sum_by (hit x) (numbers_below n) ≡ 0
none_beyond zero x h = refl
none_beyond (suc n) x h = let more = one_more x n (numbers_below n) in let rest = none_beyond n x (omega (arith, h)) in let first = hit_below x n (omega (arith, h)) in omega (arith, more, rest, first)

once : (n x : ℕ) → sum_by (hit x) (numbers_below n) ≤ 1
once zero x = omega arith
once (suc n) x = elim (cases_lt x n) [
  | inl below ↦ let more = one_more x n (numbers_below n) in let rest = once n x in let first = hit_above x n below in omega (arith, more, rest, first)
  | inr most ↦ let more = one_more x n (numbers_below n) in let rest = none_beyond n x most in let first = hit_most x n in omega (arith, more, rest, first)
]

absent : (x : ℕ) (ys : List ℕ) → sum_by (hit x) ys ≡ 0 → AllByRecursion (λ y. ¬ (y ≡ x)) ys
absent x [] h = tt
absent x (y ∷ ys) h =
    let more = one_more x y ys in
    (λ e. let first : hit x y ≡ 1 = ap (hit x) e ∙ hit_itself x in absurd (omega (arith, more, h, first)), absent x ys (omega (arith, more, h)))

below_all : (n k : ℕ) → n ≤ k → AllByRecursion (λ m. m < k) (numbers_below n)
below_all zero k h = tt
below_all (suc n) k h = (omega (arith, h), below_all n k (omega (arith, h)))

in_numbers : (n i : ℕ) → i < n → Contains (numbers_below n) i
in_numbers zero i h = absurd (omega (arith, h))
in_numbers (suc n) i h = elim (cases_eq n i) [
  | inl same ↦ (0, omega arith, same)
  | inr other ↦ Contains-append_right (n ∷ []) (numbers_below n) i (in_numbers n i (omega (arith, h, other)))
]

module _ (names : List (List ℕ)) where
  pub name_is : (i : ℕ) → i < length names → name_at names i ≡ get_or names i []
  name_is i h = ap text_or_none (slice_get-get_or names i [] h)

  apart : AllPairs (λ a b. a ≢ b) names → (i j : ℕ) → i < j → j < length names → ¬ (name_at names i ≡ name_at names j)
  apart differ i j less below e = differ i j [] less below (sym (name_is i (omega (arith, less, below))) ∙ e ∙ name_is j below)

  pub names_apart : AllPairs (λ a b. a ≢ b) names → (i j : ℕ) → i < length names → j < length names → ¬ (i ≡ j) → ¬ (name_at names i ≡ name_at names j)
  names_apart differ i j h k other e = elim (cases_lt i j) [
    | inl less ↦ apart differ i j less k e
    | inr most ↦ apart differ j i (omega (arith, most, other)) h (sym e)
  ]

  -- each name is below those behind it
  abbrev pub Rises : List ℕ → Type 0
  Rises [] = Unit {0}
  Rises (n ∷ ns) = AllByRecursion (λ m. slice_cmp nat_cmp (name_at names n) (name_at names m) ≡ Less) ns × Rises ns

  less : AllPairs (λ a b. a ≢ b) names → (n m : ℕ) → n < length names → m < length names → ¬ (m ≡ n) → is_lt (slice_cmp nat_cmp (name_at names m) (name_at names n)) ≡ false
      → slice_cmp nat_cmp (name_at names n) (name_at names m) ≡ Less
  less differ n m h k other e =
      let above = greater (slice_cmp nat_cmp (name_at names m) (name_at names n)) e (λ q. names_apart differ m n k h other (equal_same (name_at names m) (name_at names n) q)) in
      nat_list_cmp_total.antisymm (name_at names n) (name_at names m) ∙ ap ordering_reverse above

  all_less : AllPairs (λ a b. a ≢ b) names → (n : ℕ) (ms : List ℕ) → n < length names → AllByRecursion (λ m. m < length names) ms → AllByRecursion (λ m. ¬ (m ≡ n)) ms
      → AllByRecursion (λ m. is_lt (slice_cmp nat_cmp (name_at names m) (name_at names n)) ≡ false) ms → AllByRecursion (λ m. slice_cmp nat_cmp (name_at names n) (name_at names m) ≡ Less) ms
  all_less differ n [] h hs other low = tt
  all_less differ n (m ∷ ms) h hs other low = (less differ n m h hs.0 other.0 low.0, all_less differ n ms h hs.1 other.1 low.1)

  rises : AllPairs (λ a b. a ≢ b) names → (ns : List ℕ) → AllByRecursion (λ m. m < length names) ns → ((x : ℕ) → sum_by (hit x) ns ≤ 1) → Ascends names ns → Rises ns
  rises differ [] hs single up = tt
  rises differ (n ∷ ns) hs single up =
      let more = one_more n n ns in
      let first = hit_itself n in
      let all = single n in (
        all_less differ n ns hs.0 hs.1 (absent n ns (omega (arith, more, first, all))) up.0,
        rises differ ns hs.1 (λ x. let each = one_more x n ns in let most = single x in omega (arith, each, most)) up.1,
      )

  pub in_order_below_length : OrderAscends → AllByRecursion (λ m. m < length names) (in_order names)
  in_order_below_length law =
      recursion_from_All (λ m. m < length names) (in_order names) (All-permutation (λ m. m < length names) (numbers_below (length names)) (in_order names) (law names).0 (All-from_recursion (λ m. m < length names) (numbers_below (length names)) (below_all (length names) (length names) (omega arith))))

  pub in_order_rises : OrderAscends → AllPairs (λ a b. a ≢ b) names → Rises (in_order names)
  in_order_rises law differ =
      rises differ (in_order names) (in_order_below_length law)
      (λ x. let same = sum_by-IsPermutation (hit x) (numbers_below (length names)) (in_order names) (law names).0 in let most = once (length names) x in omega (arith, same, most)) (law names).1

  pub in_order_has : OrderAscends → (i : ℕ) → i < length names → Contains (in_order names) i
  in_order_has law i h = Contains-permutation (numbers_below (length names)) (in_order names) i (law names).0 (in_numbers (length names) i h)
