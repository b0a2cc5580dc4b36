-- How many sets, functions, tuples and records there are at most.
use Rattle.std.proofs.Common.{◌≡◌, ◌⊎◌, inl, inr, ℕ, zero, suc, ◌*◌, ◌^◌, ◌<◌, ◌≤◌, pos, List, [], ◌∷◌, length, map, replicate, ap, sym, ◌∙◌, subst, refl, arith}
use Rattle.std.specs.List.{Contains, zip}
use Rattle.std.proofs.Math.Nat.{pow-zero, pow-succ'}
use Rattle.std.proofs.Math.Pow.{pow_mono}
use Rattle.values_core.specs.Data.{Val, string}
use Rattle.values_core.specs.Ascending.{cons_cases, head_in, tail_in, none_in}
use Rattle.values_core.specs.Sets.{items_of}
use Rattle.values_core.specs.SetOperations.{AreDifferent, InPowerset}
use Rattle.values_core.specs.Functions.{IsFunctionOf}
use Rattle.values_core.specs.Products.{InFunctionSet, InProduct, InRecordSet}
use Rattle.values_operations.specs.Choices.{IsChoice, IsChoiceOf, choice}
use Rattle.values_operations.specs.Counts.{HasAtMost, SubsetsAreCounted, SubsetsAreFew, FunctionsAreCounted, TuplesAreCounted, RecordsAreCounted, not_too_many, ways}
use Rattle.values_operations.specs.Listed.{ints_from}
use Rattle.values_operations.specs.Subsets.{IsSubsetOf}
use Rattle.values_operations.proofs.Adapted.{function_choice, in_product, in_record_set}
use Rattle.values_operations.proofs.Choosing.{way_of}
use Rattle.values_operations.proofs.Listing.{no_longer}
use Rattle.values_operations.proofs.Subsets.{numbered_subset, one_subset}
use Rattle.values_operations.proofs.Ways.{one_function}

-- the numbers below n
abbrev numbers_below : ℕ → List ℕ
numbers_below zero = []
numbers_below (suc n) = n ∷ numbers_below n

length-numbers_below : (n : ℕ) → length (numbers_below n) ≡ n
length-numbers_below zero = refl
length-numbers_below (suc n) = ap suc (length-numbers_below n)

in_numbers_below : (n k : ℕ) → k < n → Contains (numbers_below n) k
in_numbers_below zero k h = absurd (omega (arith, h))
in_numbers_below (suc n) k h = elim (last_or_below k n h) [
  | inl e ↦ subst (λ j. Contains (n ∷ numbers_below n) j) (sym e) (head_in n (numbers_below n))
  | inr g ↦ tail_in n (numbers_below n) k (in_numbers_below n k g)
]
  where
    last_or_below : (k n : ℕ) → k < suc n → (k ≡ n) ⊎ (k < n)
    last_or_below k n h = grind arith

-- where each value has a number below n of its own
module _ (P : Val → Type 0) (Q : ℕ → Val → Type 0) (n : ℕ) (number : (v : Val) → P v → (k : ℕ) × (k < n) × Q k v) (one : (k : ℕ) (v w : Val) → Q k v → Q k w → v ≡ w) where
  abbrev numbers_of : (vs : List Val) → ((v : Val) → Contains vs v → P v) → List ℕ
  numbers_of [] f = []
  numbers_of (v ∷ vs) f = (number v (f v (head_in v vs))).0 ∷ numbers_of vs (λ w h. f w (tail_in v vs w h))

  length-numbers_of : (vs : List Val) (f : (v : Val) → Contains vs v → P v) → length (numbers_of vs f) ≡ length vs
  length-numbers_of [] f = refl
  length-numbers_of (v ∷ vs) f = ap suc (length-numbers_of vs (λ w h. f w (tail_in v vs w h)))

  in_numbers_of : (vs : List Val) (f : (v : Val) → Contains vs v → P v) (k : ℕ) → Contains (numbers_of vs f) k → (v : Val) × Contains vs v × (k < n) × Q k v
  in_numbers_of [] f k h = absurd (none_in k h)
  in_numbers_of (v ∷ vs) f k h =
      let w = number v (f v (head_in v vs)) in
      elim (cons_cases w.0 (numbers_of vs (λ u g. f u (tail_in v vs u g))) k h) [
        | inl e ↦ (v, head_in v vs, subst (λ j. j < n) e w.1, subst (λ j. Q j v) e w.2)
        | inr g ↦ let u = in_numbers_of vs (λ z i. f z (tail_in v vs z i)) k g in (u.0, tail_in v vs u.0 u.1, u.2, u.3)
      ]

  different_numbers : (vs : List Val) (f : (v : Val) → Contains vs v → P v) → AreDifferent vs → AreDifferent (numbers_of vs f)
  different_numbers [] f d = tt
  different_numbers (v ∷ vs) f d = (
    λ h.
        let w = number v (f v (head_in v vs)) in
        let u = in_numbers_of vs (λ z i. f z (tail_in v vs z i)) w.0 h in
        d.0 (subst (λ z. Contains vs z) (one w.0 u.0 v u.3 w.2) u.1),
    different_numbers vs (λ z i. f z (tail_in v vs z i)) d.1,
  )

  pub numbered_at_most : HasAtMost n P
  numbered_at_most vs d f =
      let fewer = no_longer (numbers_of vs f) (numbers_below n) (different_numbers vs f d) (λ k h. in_numbers_below n k (in_numbers_of vs f k h).2) in
      omega (arith, fewer, length-numbers_of vs f, length-numbers_below n)

at_most_of : (n : ℕ) (P Q : Val → Type 0) → ((v : Val) → P v → Q v) → HasAtMost n Q → HasAtMost n P
at_most_of n P Q there h vs d f = h vs d (λ v g. there v (f v g))

pub subsets_are_counted : SubsetsAreCounted
subsets_are_counted a = numbered_at_most (InPowerset a) (IsSubsetOf (items_of a)) (2 ^ length (items_of a)) (numbered_subset a) (one_subset (items_of a))

pub subsets_are_few : SubsetsAreFew
subsets_are_few a few =
    let least : 2 ^ length (items_of a) ≤ 2 ^ 16 = pow_mono few in
    not_too_many (2 ^ length (items_of a)) (InPowerset a) (omega (arith, least)) (subsets_are_counted a)

pub choices_are_counted : (keys parts : List Val) → HasAtMost (ways parts) (IsChoice keys parts)
choices_are_counted keys parts =
    numbered_at_most (IsChoice keys parts) (IsChoiceOf keys parts) (ways parts)
    (λ f p. let w = way_of parts p.0 p.1 in (w.0, w.1, subst (λ (us : List Val). IsFunctionOf (zip keys us) f) (sym w.2) p.2))
    (λ k f g m n. one_function (zip keys (choice parts k)) f g m n)

ways-replicate : (n : ℕ) (c : Val) → ways (replicate n c) ≡ length (items_of c) ^ n
ways-replicate zero c = sym (pow-zero (length (items_of c)))
ways-replicate (suc n) c = ap (λ k. length (items_of c) * k) (ways-replicate n c) ∙ sym (pow-succ' (length (items_of c)) n)

pub functions_are_counted : FunctionsAreCounted
functions_are_counted d c valid =
    let ks = items_of d in
    subst (λ n. HasAtMost n (λ f. InFunctionSet d c f)) (ways-replicate (length ks) c)
    (at_most_of (ways (replicate (length ks) c)) (λ f. InFunctionSet d c f) (IsChoice ks (replicate (length ks) c)) (function_choice d c valid) (choices_are_counted ks (replicate (length ks) c)))

pub tuples_are_counted : TuplesAreCounted
tuples_are_counted parts =
    let ks = ints_from (pos 1) (length parts) in
    at_most_of (ways parts) (InProduct parts) (IsChoice ks parts) (λ f p. (in_product parts (length parts) f refl).1 p) (choices_are_counted ks parts)

pub records_are_counted : RecordsAreCounted
records_are_counted names parts l =
    at_most_of (ways parts) (InRecordSet names parts) (IsChoice (map string names) parts) (λ f p. (in_record_set names parts f l).1 p) (choices_are_counted (map string names) parts)
