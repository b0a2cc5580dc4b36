-- Pairs that are sorted, and keys that come twice.
use Rattle.std.proofs.Common.{◌≡◌, inl, inr, ℕ, zero, suc, ◌+◌, ◌<◌, ◌≤◌, max, List, [], ◌∷◌, length, map, get_or, ap, subst, refl, arith, true, false, Bool, cond}
use Rattle.std.specs.declared.cmp.Ordering.{Ordering}
use Rattle.std.specs.declared.cmp.Ordering.TheVariants.{Less, Equal, Greater}
use Rattle.std.specs.Ordering.{is_lt, is_eq, ordering_reverse, ordering_then}
use Rattle.std.specs.List.{Contains, AllByRecursion}
use Rattle.std.specs.List.Sorted.{IsStrictlySortedBy, IsPermutation}
use Rattle.std.proofs.lemmas.List.Sorted.{sum_by-IsPermutation, Contains-permutation, IsPermutation-sym}
use Rattle.values_core.specs.Data.{Val, function, pairs_of, depth, pairs_depth}
use Rattle.values_core.specs.IsValue.{IsValue, HaveCanonical}
use Rattle.values_core.specs.Order.{val_cmp, val_eq}
use Rattle.values_core.specs.OrderLaws.{val_total, val_eq_equiv}
use Rattle.values_core.specs.Ascending.{cons_cases, head_in, tail_in, none_in}
use Rattle.values_core.specs.Functions.{HasKeyTwice, IsFunctionOf}
use Rattle.values_core.specs.FunctionLaws.{pairs_ascending, entries-pairs_of, key_count, count_cons, at_most_one}
use Rattle.values_core.specs.View.{pair_cmp}

-- two pairs side by side with one key
pub two_alike : (ps : List (Val × Val)) (i j : ℕ) (p q : Val × Val) → j ≡ i + 1 → j < length ps → p ≡ get_or ps i p → q ≡ get_or ps j q → val_eq p.0 q.0 ≡ true → HasKeyTwice ps
two_alike ps i j p q n h ep eq same = record {
  key = q.0;
  twice = counted ps i j n h ep eq;
}
  where
    one : (b : Bool) → b ≡ true → 1 ≤ cond b 1 0
    one true e = omega arith
    one false e = cc

    here : (xs : List (Val × Val)) → q ≡ get_or xs 0 q → 0 < length xs → 1 ≤ key_count q.0 xs
    here [] e l = absurd (omega arith)
    here (x ∷ xs) e l =
        let a : val_eq x.0 q.0 ≡ true = subst (λ (w : Val × Val). val_eq w.0 q.0 ≡ true) e (val_eq_equiv.refl q.0) in
        omega (arith, count_cons q.0 x xs, one (val_eq x.0 q.0) a)

    counted : (xs : List (Val × Val)) (k m : ℕ) → m ≡ k + 1 → m < length xs → p ≡ get_or xs k p → q ≡ get_or xs m q → 2 ≤ key_count q.0 xs
    counted [] k m n l e f = absurd (omega arith)
    counted (x ∷ xs) k zero n l e f = absurd (omega arith)
    counted (x ∷ xs) zero (suc (suc m)) n l e f = absurd (omega arith)
    counted (x ∷ xs) zero (suc zero) n l e f =
        let a : val_eq x.0 q.0 ≡ true = subst (λ (w : Val × Val). val_eq w.0 q.0 ≡ true) e same in
        omega (arith, count_cons q.0 x xs, one (val_eq x.0 q.0) a, here xs f (omega arith))
    counted (x ∷ xs) (suc k) (suc m) n l e f = omega (arith, count_cons q.0 x xs, counted xs k m (omega arith) (omega arith) e f)

-- sorted pairs side by side whose keys differ, ascend by key
pub keys_ascend : (p q : Val × Val) → is_lt (pair_cmp q p) ≡ false → val_eq p.0 q.0 ≡ false → val_cmp p.0 q.0 ≡ Less
keys_ascend p q h n = turned (val_cmp p.0 q.0) (val_cmp q.0 p.0) (val_total.antisymm q.0 p.0) n (first (val_cmp q.0 p.0) (val_cmp q.1 p.1) h)
  where
    first : (o r : Ordering) → is_lt (ordering_then o r) ≡ false → is_lt o ≡ false
    first Less r e = e
    first Equal r e = refl
    first Greater r e = refl

    turned : (o r : Ordering) → r ≡ ordering_reverse o → is_eq o ≡ false → is_lt r ≡ false → o ≡ Less
    turned Less r e f g = refl
    turned Equal r e f g = cc
    turned Greater r e f g = let k : is_lt r ≡ true = ap is_lt e in cc

-- a list whose neighbours ascend, ascends
pub ascending_from_neighbours : (ps : List (Val × Val)) → ((k j : ℕ) (d : Val × Val) → j ≡ k + 1 → j < length ps → val_cmp (get_or ps k d).0 (get_or ps j d).0 ≡ Less)
    → IsStrictlySortedBy val_cmp (map (λ p. p.0) ps)
unfolding IsStrictlySortedBy
ascending_from_neighbours [] h = tt
ascending_from_neighbours (p ∷ []) h = (tt, tt)
ascending_from_neighbours (p ∷ q ∷ ps) h =
    let rest = ascending_from_neighbours (q ∷ ps) (λ k j d e l. h (suc k) (suc j) d (omega arith) (omega arith)) in
    let first : val_cmp p.0 q.0 ≡ Less = h 0 1 p (omega arith) (omega arith) in
    ((first, further p.0 q.0 (map (λ r. r.0) ps) first rest.0), rest)
  where
    further : (k l : Val) (ks : List Val) → val_cmp k l ≡ Less → AllByRecursion (λ j. val_cmp l j ≡ Less) ks → AllByRecursion (λ j. val_cmp k j ≡ Less) ks
    further k l [] e a = tt
    further k l (j ∷ ks) e a = (val_total.trans k l j e a.0, further k l ks e a.1)

pub no_key_twice : (xs ps : List (Val × Val)) → IsPermutation xs ps → IsStrictlySortedBy val_cmp (map (λ p. p.0) ps) → ¬ HasKeyTwice xs
no_key_twice xs ps perm s t =
    omega (arith, t.twice, at_most_one ps t.key (pairs_ascending ps s), sum_by-IsPermutation (λ (q : Val × Val). cond (val_eq q.0 t.key) 1 0) xs ps perm)

pub key_twice_before : (xs ps : List (Val × Val)) → IsPermutation xs ps → HasKeyTwice ps → HasKeyTwice xs
key_twice_before xs ps perm t = record {
  key = t.key;
  twice = omega (arith, t.twice, sum_by-IsPermutation (λ (q : Val × Val). cond (val_eq q.0 t.key) 1 0) xs ps perm);
}

-- the depth of pairs in another order
pub pair_depth_in : (ps : List (Val × Val)) (p : Val × Val) → Contains ps p → max (depth p.0) (depth p.1) ≤ pairs_depth (pairs_of ps)
pair_depth_in [] p h = absurd (none_in p h)
pair_depth_in (q ∷ qs) p h = elim (cons_cases q qs p h) [
  | inl e ↦ let a : depth q.0 ≡ depth p.0 = ap (λ (w : Val × Val). depth w.0) e in let b : depth q.1 ≡ depth p.1 = ap (λ (w : Val × Val). depth w.1) e in omega arith
  | inr g ↦ let d = pair_depth_in qs p g in omega (arith, d)
]

pub pair_depth_all : (ps : List (Val × Val)) (n : ℕ) → ((p : Val × Val) → Contains ps p → max (depth p.0) (depth p.1) ≤ n) → pairs_depth (pairs_of ps) ≤ n
pair_depth_all [] n f = omega arith
pair_depth_all (p ∷ ps) n f = let d = pair_depth_all ps n (λ q h. f q (tail_in p ps q h)) in omega (arith, d, f p (head_in p ps))

pub depth_permutation : (xs ps : List (Val × Val)) → IsPermutation xs ps → pairs_depth (pairs_of ps) ≡ pairs_depth (pairs_of xs)
depth_permutation xs ps perm = omega (arith, there, back)
  where
    there : pairs_depth (pairs_of ps) ≤ pairs_depth (pairs_of xs)
    there = pair_depth_all ps (pairs_depth (pairs_of xs)) (λ p h. pair_depth_in xs p (Contains-permutation ps xs p (IsPermutation-sym xs ps perm) h))

    back : pairs_depth (pairs_of xs) ≤ pairs_depth (pairs_of ps)
    back = pair_depth_all xs (pairs_depth (pairs_of ps)) (λ p h. pair_depth_in ps p (Contains-permutation xs ps p perm h))

-- keys, in order and few, with what is canonical and not too deep, are a value
pub valid_function : (ps : List (Val × Val)) → IsStrictlySortedBy val_cmp (map (λ p. p.0) ps) → length ps ≤ 100000 → HaveCanonical (pairs_of ps) → pairs_depth (pairs_of ps) < 32
    → IsValue (function (pairs_of ps))
valid_function ps s l k d = record {
  canonical = (record { ascending = rw entries-pairs_of s; few = rw entries-pairs_of (shorter ps l) }, k);
  shallow = omega arith;
}
  where
    lengths : (qs : List (Val × Val)) → length (map (λ (p : Val × Val). p.0) qs) ≡ length qs
    lengths [] = refl
    lengths (q ∷ qs) = ap suc (lengths qs)

    shorter : (qs : List (Val × Val)) → length qs ≤ 100000 → length (map (λ (p : Val × Val). p.0) qs) ≤ 100000
    shorter qs h = omega (arith, lengths qs)

pub function_of : (xs ps : List (Val × Val)) → IsPermutation xs ps → IsValue (function (pairs_of ps)) → IsFunctionOf xs (function (pairs_of ps))
function_of xs ps perm v = record {
  valid = v;
  is_function = tt;
  same = λ key w. (
    λ h. Contains-permutation ps xs (key, w) (IsPermutation-sym xs ps perm) (rw entries-pairs_of at h),
    λ h. rw entries-pairs_of (Contains-permutation xs ps (key, w) perm h),
  );
}
