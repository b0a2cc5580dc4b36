-- What is seen of one variable, of what is sorted by variable.
use Rattle.std.proofs.Common.{◌≡◌, inl, inr, sym, subst, ap, ◌∙◌, ℕ, ◌+◌, ◌-◌, ◌≤◌, ◌<◌, List, [], ◌∷◌, ◌++◌, length, drop, take, get_or, arith}
use Rattle.std.specs.Prelude.{◌⊎◌, Contains, All}
use Rattle.std.proofs.lemmas.Bool.{cases_order}
use Rattle.std.specs.List.{AllWithin}
use Rattle.std.specs.List.Sorted.{IsNonDecreasingBy}
use Rattle.std.proofs.lemmas.List.{get_or-drop, get_or-take, length-drop, length-take-le, take_more, take_all}
use Rattle.std.proofs.lemmas.List.Elements.{All-get_or, All-more, All-weaker}
use Rattle.std.proofs.lemmas.List.Sorted.{IsNonDecreasingBy-push}
use Rattle.logs_updates.specs.declared.update.See.{See}
use Rattle.steps_walk.specs.Seen.{TellsOf}

abbrev pub of_see : See → ℕ
of_see see = see.path.variable.0

-- one more that is not below the greatest
module _ (xs : List See) (i : ℕ) (see : See) (least new : ℕ) (l : i < length xs) (e : see ≡ get_or xs i see) (up : least ≤ new) (is : new ≡ of_see see) (all : All (λ x. of_see x ≤ least) (take i xs)) where
  grown : take i xs ++ see ∷ [] ≡ take (i + 1) xs
  grown = ap (λ (w : See). take i xs ++ w ∷ []) e ∙ sym (take_more xs i see l)

  pub sorted_on : IsNonDecreasingBy of_see (take i xs) → IsNonDecreasingBy of_see (take (i + 1) xs)
  sorted_on h = subst (λ (us : List See). IsNonDecreasingBy of_see us) grown
      (IsNonDecreasingBy-push of_see (take i xs) see h (λ d some.
      let before : of_see (get_or (take i xs) (length (take i xs) - 1) d) ≤ least = All-get_or (λ (x : See). of_see x ≤ least) (take i xs) (length (take i xs) - 1) d (omega (arith, some)) all in
      omega (arith, before, up, is)))

  pub below_on : All (λ x. of_see x ≤ new) (take (i + 1) xs)
  below_on =
      let before = All-weaker (λ (x : See). of_see x ≤ least) (λ (x : See). of_see x ≤ new) (λ x b. omega (arith, b, up)) (take i xs) all in
      let last : of_see see ≤ new = omega (arith, is) in
      All-more (λ (x : See). of_see x ≤ new) xs i see l before (subst (λ (x : See). of_see x ≤ new) e last)

-- what stands between two bounds, before which all is of variables below and behind which all is of variables above
pub tells : (x : ℕ) (all some : List See) (n m : ℕ) → length some ≡ m → n + m ≤ length all → ((k : ℕ) (d : See) → k < m → get_or some k d ≡ get_or all (n + k) d)
    → AllWithin (λ s. s.path.variable.0 < x) all 0 n → ((k : ℕ) (d : See) → n + m ≤ k → k < length all → x < (get_or all k d).path.variable.0) → TellsOf x all some
tells x all some n m long fits same low high = (
  (λ s c. let l : c.0 < m = omega (arith, c.1, long) in (n + c.0, omega (arith, l, fits), sym (same c.0 s l) ∙ c.2)),
  (λ s v c. here s v c.0 c.1 c.2 (cases_order c.0 n) (cases_order c.0 (n + m))),
)
  where
    there : (s : See) → s.path.variable.0 ≡ x → (k : ℕ) → k < length all → get_or all k s ≡ s → n ≤ k → k < n + m → Contains some s
    there s v k l e a b =
        let at : k - n < m = omega (arith, a, b) in
        let is : n + (k - n) ≡ k = omega (arith, a) in
        (k - n, omega (arith, at, long), same (k - n) s at ∙ ap (λ i. get_or all i s) is ∙ e)

    below : (s : See) → s.path.variable.0 ≡ x → (k : ℕ) → get_or all k s ≡ s → k < n → ⊥
    below s v k e a = let less : (get_or all k s).path.variable.0 < x = low k s (omega arith) a in let is : (get_or all k s).path.variable.0 ≡ s.path.variable.0 = ap of_see e in omega (arith, less, is, v)

    above : (s : See) → s.path.variable.0 ≡ x → (k : ℕ) → k < length all → get_or all k s ≡ s → n + m ≤ k → ⊥
    above s v k l e a = let more : x < (get_or all k s).path.variable.0 = high k s a l in let is : (get_or all k s).path.variable.0 ≡ s.path.variable.0 = ap of_see e in omega (arith, more, is, v)

    here : (s : See) → s.path.variable.0 ≡ x → (k : ℕ) → k < length all → get_or all k s ≡ s → (k ≡ n) ⊎ ((k < n) ⊎ (n < k)) → (k ≡ n + m) ⊎ ((k < n + m) ⊎ (n + m < k)) → Contains some s
    here s v k l e (inr (inl a)) t = absurd (below s v k e a)
    here s v k l e (inl a) (inl b) = absurd (above s v k l e (omega (arith, b)))
    here s v k l e (inl a) (inr (inl b)) = there s v k l e (omega (arith, a)) b
    here s v k l e (inl a) (inr (inr b)) = absurd (above s v k l e (omega (arith, b)))
    here s v k l e (inr (inr a)) (inl b) = absurd (above s v k l e (omega (arith, b)))
    here s v k l e (inr (inr a)) (inr (inl b)) = there s v k l e (omega (arith, a)) b
    here s v k l e (inr (inr a)) (inr (inr b)) = absurd (above s v k l e (omega (arith, b)))

-- the part that starts at n and has m
pub cut_tells : (x : ℕ) (all rest : List See) (n m : ℕ) → rest ≡ take (length all - n) (drop n all) → n ≤ length all → m ≤ length rest → AllWithin (λ s. s.path.variable.0 < x) all 0 n
    → AllWithin (λ s. x < s.path.variable.0) rest m (length rest) → TellsOf x all (take m rest)
cut_tells x all rest n m is within fits low high =
    let behind : length (drop n all) ≡ length all - n = length-drop n all in
    let whole : rest ≡ drop n all = is ∙ take_all (length all - n) (drop n all) (omega (arith, behind)) in
    let long : length rest ≡ length all - n = ap length whole ∙ behind in
    let at : (k : ℕ) (d : See) → get_or rest k d ≡ get_or all (n + k) d = λ k d. ap (λ xs. get_or xs k d) whole ∙ get_or-drop n all k d in
    tells x all (take m rest) n m (length-take-le m rest fits) (omega (arith, within, fits, long)) (λ k d l. get_or-take m rest k d l ∙ at k d) low
    (λ k d a b. let is : n + (k - n) ≡ k = omega (arith, a) in
    let more : x < (get_or rest (k - n) d).path.variable.0 = high (k - n) d (omega (arith, a)) (omega (arith, a, b, long)) in
    subst (λ (y : See). x < y.path.variable.0) (at (k - n) d ∙ ap (λ i. get_or all i d) is) more)
