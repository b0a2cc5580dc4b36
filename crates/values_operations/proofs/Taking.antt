-- What the loops over the parts keep: a number's digits, and the count of the ways.
use Rattle.std.proofs.Common.{◌≡◌, ◌⊎◌, inl, inr, ℕ, zero, suc, ◌+◌, ◌*◌, ◌/◌, ◌%◌, ◌<◌, ◌≤◌, List, [], ◌∷◌, ◌++◌, length, take, drop, get_or, ap, sym, ◌∙◌, subst, arith, append_assoc}
use Rattle.std.specs.List.{zip}
use Rattle.std.proofs.Math.Nat.{mul-zero, mul-one, one-mul, mul_assoc, mul-suc, mul-le-mul_left, mod-lt}
use Rattle.std.proofs.lemmas.List.{get_or_default, take_more}
use Rattle.std.proofs.lemmas.List.Elements.{Contains-append_left, Contains-append_right, Contains-append_cases}
use Rattle.values_core.specs.Data.{Val, model, truth, integer, string, set, function}
use Rattle.values_core.specs.IsValue.{IsValue}
use Rattle.values_core.specs.Ascending.{cons_cases, head_in, none_in}
use Rattle.values_core.specs.Sets.{items_of}
use Rattle.values_operations.specs.Choices.{AreNumbered, choice}
use Rattle.values_operations.specs.Counts.{ways}
use Rattle.values_operations.proofs.Choosing.{some_left, quotient_below}
use Rattle.values_operations.proofs.Walking.{first_drop}

pub first_part : (ps : List Val) (i : ℕ) (d : Val) → i < length ps → drop i ps ≡ get_or ps i d ∷ drop (i + 1) ps
first_part ps i d h = first_drop ps i (get_or ps i d) h (get_or_default ps i d (get_or ps i d) h)

-- the part at hand has a member, and the number has a digit for it
pub some_member : (ps ms : List Val) (i n : ℕ) → i < length ps → ((d : Val) → ms ≡ items_of (get_or ps i d)) → (d : Val) → n < ways (drop i ps) → 0 < length ms
some_member ps ms i n h e d b =
    let l : length ms ≡ length (items_of (get_or ps i d)) = ap (λ xs. length xs) (e d) in
    let w : n < ways (get_or ps i d ∷ drop (i + 1) ps) = subst (λ qs. n < ways qs) (first_part ps i d h) b in
    omega (arith, l, some_left (length (items_of (get_or ps i d))) (ways (drop (i + 1) ps)) n w)

pub rest_below : (ps ms : List Val) (i n : ℕ) → i < length ps → ((d : Val) → ms ≡ items_of (get_or ps i d)) → (d : Val) → n < ways (drop i ps) → n / length ms < ways (drop (i + 1) ps)
rest_below ps ms i n h e d b =
    let w : n < ways (get_or ps i d ∷ drop (i + 1) ps) = subst (λ qs. n < ways qs) (first_part ps i d h) b in
    subst (λ xs. n / length xs < ways (drop (i + 1) ps)) (sym (e d)) (quotient_below (length (items_of (get_or ps i d))) (ways (drop (i + 1) ps)) n w)

-- one more pair is taken
pub one_more : (out : List (Val × Val)) (ks ps ms : List Val) (i n : ℕ) (k v : Val) → i < length ks → i < length ps → k ≡ get_or ks i k → ((d : Val) → ms ≡ items_of (get_or ps i d))
    → v ≡ get_or ms (n % length ms) v → n < ways (drop i ps)
    → (out ++ (k, v) ∷ []) ++ zip (drop (i + 1) ks) (choice (drop (i + 1) ps) (n / length ms)) ≡ out ++ zip (drop i ks) (choice (drop i ps) n)
one_more out ks ps ms i n k v h g ek em ev b =
    let p = get_or ps i k in
    let taken : v ≡ get_or (items_of (get_or ps i k)) (n % length (items_of (get_or ps i k))) (get_or ps i k) =
    ev ∙ get_or_default ms (n % length ms) v (get_or ps i k) (mod-lt n (some_member ps ms i n g em k b)) ∙ ap (λ xs. get_or xs (n % length xs) (get_or ps i k)) (em k) in
    let quotient : n / length ms ≡ n / length (items_of (get_or ps i k)) = ap (λ xs. n / length xs) (em k) in
    append_assoc out ((k, v) ∷ []) (zip (drop (i + 1) ks) (choice (drop (i + 1) ps) (n / length ms)))
    ∙ ap (λ q. out ++ (k, v) ∷ zip (drop (i + 1) ks) (choice (drop (i + 1) ps) q)) quotient
    ∙ ap (λ w. out ++ (k, w) ∷ zip (drop (i + 1) ks) (choice (drop (i + 1) ps) (n / length (items_of (get_or ps i k))))) taken
    ∙ ap (λ qs. out ++ zip (k ∷ drop (i + 1) ks) (choice qs n)) (sym (first_part ps i k g))
    ∙ ap (λ js. out ++ zip js (choice (drop i ps) n)) (sym (first_drop ks i k h ek))

-- the count is that of the ways, or both are above what a set may have
abbrev pub IsLimited : ℕ → ℕ → Type 0
IsLimited c w = ((c ≤ 100000) × (c ≡ w)) ⊎ ((c ≡ 100001) × (100000 < w))

pub ways_push : (ps : List Val) (p : Val) → ways (ps ++ p ∷ []) ≡ ways ps * length (items_of p)
ways_push [] p = mul-one (length (items_of p)) ∙ sym (one-mul (length (items_of p)))
ways_push (q ∷ qs) p = ap (λ n. length (items_of q) * n) (ways_push qs p) ∙ sym (mul_assoc (length (items_of q)) (ways qs) (length (items_of p)))

limited_by : (c w l n : ℕ) → IsLimited c w → (c * l ≤ 100000 → n ≡ c * l) → (100000 < c * l → n ≡ 100001) → IsLimited n (w * l)
limited_by c w zero n k few many = inl (omega (arith, few (omega (arith, mul-zero c)), mul-zero c, mul-zero w), omega (arith, few (omega (arith, mul-zero c)), mul-zero c, mul-zero w))
limited_by c w (suc l) n (inl k) few many =
    let same : c * suc l ≡ w * suc l = ap (λ m. m * suc l) k.1 in
    either (c * suc l) (w * suc l) same few many
  where
    either : (a b : ℕ) → a ≡ b → (a ≤ 100000 → n ≡ a) → (100000 < a → n ≡ 100001) → IsLimited n b
    either a b e f g = grind (arith, e, f, g)
limited_by c w (suc l) n (inr k) few many = inr (many (omega (arith, k.0, mul-suc c l)), omega (arith, k.1, mul-suc w l))

pub limited_step : (ps ms : List Val) (i c n : ℕ) → i < length ps → ((d : Val) → ms ≡ items_of (get_or ps i d)) → (d : Val) → IsLimited c (ways (take i ps)) → (c * length ms ≤ 100000 → n ≡ c * length ms) → (100000 < c * length ms → n ≡ 100001)
    → IsLimited n (ways (take (i + 1) ps))
limited_step ps ms i c n h e d k few many =
    let more : ways (take (i + 1) ps) ≡ ways (take i ps) * length ms = ap ways (take_more ps i d h) ∙ ways_push (take i ps) (get_or ps i d) ∙ ap (λ xs. ways (take i ps) * length xs) (sym (e d)) in
    subst (λ w. IsLimited n w) (sym more) (limited_by c (ways (take i ps)) (length ms) n k few many)

pub small_product : (c s : ℕ) → c ≤ 100001 → s ≤ 100000 → c * s ≤ 10000100000
small_product c s h g = let most : c * s ≤ c * 100000 = mul-le-mul_left c g in omega (arith, most, h)

-- one more value is made
pub numbered_push : (Q : ℕ → Val → Type 0) (n : ℕ) (vs : List Val) (v : Val) → AreNumbered Q n vs → Q n v → AreNumbered Q (n + 1) (vs ++ v ∷ [])
numbered_push Q n vs v a q = record {
  each = λ w h. elim (Contains-append_cases vs (v ∷ []) w h) [
    | inl g ↦ let k = a.each w g in (k.0, omega (arith, k.1), k.2)
    | inr g ↦ elim (cons_cases v [] w g) [
      | inl e ↦ (n, omega arith, subst (λ (z : Val). Q n z) e q)
      | inr i ↦ absurd (none_in w i)
    ]
  ];
  all = λ k h. elim (below_or_last k n h) [
    | inl g ↦ let w = a.all k g in (w.0, Contains-append_left vs (v ∷ []) w.0 w.1, w.2)
    | inr e ↦ (v, Contains-append_right vs (v ∷ []) v (head_in v []), subst (λ j. Q j v) (sym e) q)
  ];
}
  where
    below_or_last : (k n : ℕ) → k < n + 1 → (k < n) ⊎ (k ≡ n)
    below_or_last k n h = grind arith

pub numbered_none : (Q : ℕ → Val → Type 0) → AreNumbered Q 0 []
numbered_none Q = record { each = λ v h. absurd (none_in v h); all = λ k h. absurd (omega (arith, h)) }

-- a value has few members
pub few_items : (s : Val) → IsValue s → length (items_of s) ≤ 100000
few_items (set vs) p = p.canonical.0.few
few_items (model s) p = omega arith
few_items (truth s) p = omega arith
few_items (integer s) p = omega arith
few_items (string s) p = omega arith
few_items (function s) p = omega arith

pub at_most_limit : {c w : ℕ} → IsLimited c w → c ≤ 100001
at_most_limit (inl k) = omega (arith, k.0)
at_most_limit (inr k) = omega (arith, k.0)
