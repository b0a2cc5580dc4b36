-- For the prover: the order of a state's fields ascends.
use Rattle.std.proofs.Common.{◌≡◌, ℕ, zero, suc, Bool, true, false, if◌then◌else◌, List, [], ◌∷◌, length, refl, sym, ap, ◌∙◌, Ordering, Less, Equal, Greater, true≢false, IsPermutation}
use Rattle.std.specs.List.{AllByRecursion}
use Rattle.std.specs.Ordering.{is_lt, nat_cmp, ordering_reverse}
use Rattle.std.specs.Cmp.Lexicographic.{slice_cmp, nat_list_cmp_total}
use Rattle.std.proofs.lemmas.List.Sorted.{IsPermutation-refl, IsPermutation-cons, IsPermutation-trans, IsPermutation-sym, IsPermutation-middle}
use Rattle.run_texts.specs.Places.{name_at}
use Rattle.run_texts.specs.States.{with_number, in_order_below}
use Rattle.run_texts.specs.Ordered.{numbers_below, Ascends, OrderAscends}

less : (o : Ordering) → is_lt o ≡ true → o ≡ Less
less Less e = refl
less Equal e = absurd (true≢false (sym e))
less Greater e = absurd (true≢false (sym e))

module _ (names : List (List ℕ)) where
  abbrev NotBelow : ℕ → ℕ → Type 0
  NotBelow n m = is_lt (slice_cmp nat_cmp (name_at names m) (name_at names n)) ≡ false

  turned : (o : Ordering) → o ≡ Less → is_lt (ordering_reverse o) ≡ false
  turned o e = ap (λ (p : Ordering). is_lt (ordering_reverse p)) e

  -- the one is below the other, which is therefore not below the one
  one_way : (n m : ℕ) → slice_cmp nat_cmp (name_at names n) (name_at names m) ≡ Less → NotBelow n m
  one_way n m e = ap is_lt (nat_list_cmp_total.antisymm (name_at names m) (name_at names n)) ∙ turned _ e

  -- what is not below m is not below n, which is below m
  further : (n m z : ℕ) → slice_cmp nat_cmp (name_at names n) (name_at names m) ≡ Less → NotBelow m z → NotBelow n z
  further n m z e h = by_order (slice_cmp nat_cmp (name_at names z) (name_at names n)) refl
    where
      by_order : (o : Ordering) → slice_cmp nat_cmp (name_at names z) (name_at names n) ≡ o → is_lt o ≡ false
      by_order Less q = absurd (true≢false (sym (ap is_lt (nat_list_cmp_total.trans (name_at names z) (name_at names n) (name_at names m) q e)) ∙ h))
      by_order Equal q = refl
      by_order Greater q = refl

  further_all : (n m : ℕ) → slice_cmp nat_cmp (name_at names n) (name_at names m) ≡ Less → (ms : List ℕ) → AllByRecursion (NotBelow m) ms → AllByRecursion (NotBelow n) ms
  further_all n m e [] all = tt
  further_all n m e (z ∷ ms) all = (further n m z e all.0, further_all n m e ms all.1)

  all_with : (P : ℕ → Type 0) (n : ℕ) (ms : List ℕ) → P n → AllByRecursion P ms → AllByRecursion P (with_number names n ms)
  all_with P n [] h all = (h, tt)
  all_with P n (m ∷ ms) h all =
      elim (is_lt (slice_cmp nat_cmp (name_at names n) (name_at names m))) as (λ b. AllByRecursion P (if b then n ∷ m ∷ ms else m ∷ with_number names n ms)) [ true ↦ (h, all) | false ↦ (all.0, all_with P n ms h all.1) ]

  rises : (n : ℕ) (ms : List ℕ) → Ascends names ms → Ascends names (with_number names n ms)
  rises n [] up = (tt, tt)
  rises n (m ∷ ms) up = by_test (is_lt (slice_cmp nat_cmp (name_at names n) (name_at names m))) refl (rises n ms up.1)
    where
      by_test : (b : Bool) → is_lt (slice_cmp nat_cmp (name_at names n) (name_at names m)) ≡ b → Ascends names (with_number names n ms)
          → Ascends names (if b then n ∷ m ∷ ms else m ∷ with_number names n ms)
      by_test true e more =
          let below = less (slice_cmp nat_cmp (name_at names n) (name_at names m)) e in
          ((one_way n m below, further_all n m below ms up.0), up)
      by_test false e more = (all_with (NotBelow m) n ms e up.0, more)

  same : (n : ℕ) (ms : List ℕ) → IsPermutation (n ∷ ms) (with_number names n ms)
  same n [] = IsPermutation-refl (n ∷ [])
  same n (m ∷ ms) =
      elim (is_lt (slice_cmp nat_cmp (name_at names n) (name_at names m))) as (λ b. IsPermutation (n ∷ m ∷ ms) (if b then n ∷ m ∷ ms else m ∷ with_number names n ms)) [
        | true ↦ IsPermutation-refl (n ∷ m ∷ ms)
        | false ↦ IsPermutation-trans (n ∷ m ∷ ms) (m ∷ n ∷ ms) (m ∷ with_number names n ms) (IsPermutation-sym (m ∷ n ∷ ms) (n ∷ m ∷ ms) (IsPermutation-middle (m ∷ []) n ms)) (IsPermutation-cons m (n ∷ ms) (with_number names n ms) (same n ms))
      ]

  each_once : (n : ℕ) → IsPermutation (numbers_below n) (in_order_below names n)
  each_once zero = IsPermutation-refl []
  each_once (suc n) = IsPermutation-trans (n ∷ numbers_below n) (n ∷ in_order_below names n) (with_number names n (in_order_below names n)) (IsPermutation-cons n (numbers_below n) (in_order_below names n) (each_once n)) (same n (in_order_below names n))

  ascends : (n : ℕ) → Ascends names (in_order_below names n)
  ascends zero = tt
  ascends (suc n) = rises n (in_order_below names n) (ascends n)

pub order_ascends : OrderAscends
order_ascends names = (each_once names (length names), ascends names (length names))
