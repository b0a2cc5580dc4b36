-- The pairs of a sequence.
use Rattle.std.proofs.Common.{◌≡◌, ℕ, suc, ◌+◌, ◌<◌, ◌≤◌, List, [], ◌∷◌, ◌++◌, zero, length, map, get_or, ap, ◌∙◌, refl, arith, pos}
use Rattle.std.specs.declared.cmp.Ordering.TheVariants.{Less}
use Rattle.std.specs.Int.{w64}
use Rattle.std.specs.Prelude.{FitsSigned}
use Rattle.std.specs.List.{AllByRecursion}
use Rattle.std.specs.List.Sorted.{IsStrictlySortedBy}
use Rattle.std.proofs.lemmas.Int.{ints}
use Rattle.std.proofs.lemmas.Bool.Decides.{nat_tests}
use Rattle.values_core.specs.Data.{Val, integer, function, Pairs, no_pairs, more_pairs, entries, pairs_of, pairs_depth, vals_of, vals_depth}
use Rattle.values_core.specs.IsValue.{IsValue, HaveCanonical, AreCanonical}
use Rattle.values_core.specs.Order.{val_cmp}
use Rattle.values_core.specs.Functions.{numbered_from, sequence_of}
use Rattle.values_core.proofs.FunctionLemmas.{valid_function}

pub length-numbered : (n : ℕ) (vs : List Val) → length (numbered_from n vs) ≡ length vs
length-numbered n [] = refl
length-numbered n (v ∷ vs) = ap suc (length-numbered (suc n) vs)

pub depth-numbered : (n : ℕ) (vs : List Val) → pairs_depth (pairs_of (numbered_from n vs)) ≡ vals_depth (vals_of vs)
depth-numbered n [] = refl
depth-numbered n (v ∷ vs) = omega (arith, depth-numbered (suc n) vs)

pub numbered-push : (n : ℕ) (vs : List Val) (v : Val) → numbered_from n (vs ++ v ∷ []) ≡ numbered_from n vs ++ (integer (pos (n + length vs)), v) ∷ []
numbered-push n [] v = let e : n ≡ n + 0 = omega arith in ap (λ m. (integer (pos m), v) ∷ []) e
numbered-push n (u ∷ us) v =
    let e : suc n + length us ≡ n + suc (length us) = omega arith in
    ap (λ ps. (integer (pos n), u) ∷ ps) (numbered-push (suc n) us v ∙ ap (λ m. numbered_from (suc n) us ++ (integer (pos m), v) ∷ []) e)

less : (m n : ℕ) → m < n → val_cmp (integer (pos m)) (integer (pos n)) ≡ Less
unfolding val_cmp
less m n h = grind (arith, nat_tests)

all_above : (m n : ℕ) (vs : List Val) → m < n → AllByRecursion (λ j. val_cmp (integer (pos m)) j ≡ Less) (map (λ p. p.0) (numbered_from n vs))
all_above m n [] h = tt
all_above m n (v ∷ vs) h = (less m n h, all_above m (suc n) vs (omega arith))

ascending-numbered : (n : ℕ) (vs : List Val) → IsStrictlySortedBy val_cmp (map (λ p. p.0) (numbered_from n vs))
unfolding IsStrictlySortedBy
ascending-numbered n [] = tt
ascending-numbered n (v ∷ vs) = (all_above n (suc n) vs (omega arith), ascending-numbered (suc n) vs)

fits : (n : ℕ) → n ≤ 200000 → FitsSigned w64 (pos n)
fits n h = omega (arith, ints)

canonical-numbered : (n : ℕ) (vs : List Val) → n + length vs ≤ 200000 → AreCanonical (vals_of vs) → HaveCanonical (pairs_of (numbered_from n vs))
canonical-numbered n [] h k = tt
canonical-numbered n (v ∷ vs) h k = (fits n (omega arith), k.0, canonical-numbered (suc n) vs (omega arith) k.1)

pub valid_sequence : (vs : List Val) → length vs ≤ 100000 → AreCanonical (vals_of vs) → vals_depth (vals_of vs) < 32 → IsValue (sequence_of vs)
valid_sequence vs l k d =
    valid_function (numbered_from 1 vs) (ascending-numbered 1 vs) (omega (arith, length-numbered 1 vs)) (canonical-numbered 1 vs (omega arith) k) (omega (arith, depth-numbered 1 vs))

-- pairs with the keys from n on are those of a sequence
pub numbered_by_places : (n : ℕ) (ps : List (Val × Val)) → ((k m : ℕ) (d : Val × Val) → m ≡ n + k → k < length ps → (get_or ps k d).0 ≡ integer (pos m))
    → pairs_of ps ≡ pairs_of (numbered_from n (map (λ p. p.1) (entries (pairs_of ps))))
numbered_by_places n [] h = refl
numbered_by_places n (p ∷ ps) h =
    let first : p.0 ≡ integer (pos n) = h 0 n p (omega arith) (omega arith) in
    let rest = numbered_by_places (suc n) ps (λ k m d is l. h (suc k) m d (omega arith) (omega arith)) in
    λ i. more_pairs (first i) p.1 (rest i)

abbrev key_of : Pairs → Val
key_of no_pairs = integer (pos 0)
key_of (more_pairs k v ps) = k

abbrev rest_of : Pairs → Pairs
rest_of no_pairs = no_pairs
rest_of (more_pairs k v ps) = ps

pub places_of_numbered : (n : ℕ) (ps : List (Val × Val)) (vs : List Val) (k m : ℕ) (d : Val × Val) → m ≡ n + k → pairs_of ps ≡ pairs_of (numbered_from n vs) → k < length ps → (get_or ps k d).0 ≡ integer (pos m)
places_of_numbered n [] vs k m d is e l = absurd (omega arith)
places_of_numbered n (x ∷ ps) [] k m d is e l = cc
places_of_numbered n (x ∷ ps) (v ∷ vs) zero m d is e l = ap key_of e ∙ ap (λ j. integer (pos j)) (let z : n ≡ m = omega arith in z)
places_of_numbered n (x ∷ ps) (v ∷ vs) (suc k) m d is e l = places_of_numbered (suc n) ps vs k m d (omega arith) (ap rest_of e) (omega arith)

abbrev tree_of : Val → Pairs
tree_of (function ps) = ps
tree_of _ = no_pairs

-- a sequence has the tree of its numbered values
pub tree_of_sequence : (ps : Pairs) (vs : List Val) → function ps ≡ sequence_of vs → ps ≡ pairs_of (numbered_from 1 vs)
tree_of_sequence ps vs e = ap tree_of e
