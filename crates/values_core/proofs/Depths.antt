-- A value in a list is no deeper than the list.
use Rattle.std.proofs.lemmas.List.{take_more}
use Rattle.values_core.specs.IsValue.{IsCanonical, AreCanonical, HaveCanonical}
use Rattle.std.proofs.Common.{take, ◌++◌, ◌≡◌, ℕ, zero, suc, ◌+◌, ◌<◌, ◌≤◌, max, List, [], ◌∷◌, length, get_or, ap, arith}
use Rattle.values_core.specs.Data.{Val, vals_of, pairs_of, depth, vals_depth, pairs_depth}
use Rattle.values_core.specs.declared.value.Entry.{Entry}
use Rattle.values_core.specs.declared.value.Field.{Field}
use Rattle.values_core.specs.View.{entries_view, fields_view}

pub depth_item : (vs xs : List Val) (i : ℕ) (v : Val) → xs ≡ vs → i < length xs → v ≡ get_or xs i v → depth v ≤ vals_depth (vals_of vs)
depth_item vs xs i v e h is = let k : vals_depth (vals_of xs) ≡ vals_depth (vals_of vs) = ap (λ us. vals_depth (vals_of us)) e in omega (arith, at xs i h is)
  where
    at : (us : List Val) (j : ℕ) → j < length us → v ≡ get_or us j v → depth v ≤ vals_depth (vals_of us)
    at [] j h e = absurd (omega arith)
    at (u ∷ us) zero h e = let k : depth v ≡ depth u = ap depth e in omega arith
    at (u ∷ us) (suc j) h e = omega (arith, at us j (omega arith) e)

pub depth_entry : (es xs : List Entry) (i : ℕ) (v : Entry) → xs ≡ es → i < length xs → v ≡ get_or xs i v → max (depth v.key) (depth v.value) ≤ pairs_depth (entries_view es)
depth_entry es xs i v e h is = let k : pairs_depth (entries_view xs) ≡ pairs_depth (entries_view es) = ap (λ us. pairs_depth (entries_view us)) e in omega (arith, at xs i h is)
  where
    at : (us : List Entry) (j : ℕ) → j < length us → v ≡ get_or us j v → max (depth v.key) (depth v.value) ≤ pairs_depth (entries_view us)
    at [] j h e = absurd (omega arith)
    at (u ∷ us) zero h e = let k : max (depth v.key) (depth v.value) ≡ max (depth u.key) (depth u.value) = ap (λ (w : Entry). max (depth w.key) (depth w.value)) e in omega arith
    at (u ∷ us) (suc j) h e = omega (arith, at us j (omega arith) e)

pub depth_field : (fs xs : List Field) (i : ℕ) (v : Field) → xs ≡ fs → i < length xs → v ≡ get_or xs i v → depth v.value ≤ pairs_depth (fields_view fs)
depth_field fs xs i v e h is = let k : pairs_depth (fields_view xs) ≡ pairs_depth (fields_view fs) = ap (λ us. pairs_depth (fields_view us)) e in omega (arith, at xs i h is)
  where
    at : (us : List Field) (j : ℕ) → j < length us → v ≡ get_or us j v → depth v.value ≤ pairs_depth (fields_view us)
    at [] j h e = absurd (omega arith)
    at (u ∷ us) zero h e = let k : depth v.value ≡ depth u.value = ap (λ (w : Field). depth w.value) e in omega arith
    at (u ∷ us) (suc j) h e = omega (arith, at us j (omega arith) e)

depth_push : (us : List Val) (v : Val) → vals_depth (vals_of (us ++ v ∷ [])) ≡ max (vals_depth (vals_of us)) (depth v)
depth_push [] v = omega arith
depth_push (u ∷ us) v = omega (arith, depth_push us v)

pub depth_more : (us : List Val) (i : ℕ) (v : Val) → i < length us → v ≡ get_or us i v → vals_depth (vals_of (take (i + 1) us)) ≡ max (vals_depth (vals_of (take i us))) (depth v)
depth_more us i v h e = rw (take_more us i v, ← e) (depth_push (take i us) v)

entry_push : (us : List Entry) (v : Entry) → pairs_depth (entries_view (us ++ v ∷ [])) ≡ max (pairs_depth (entries_view us)) (max (depth v.key) (depth v.value))
entry_push [] v = omega arith
entry_push (u ∷ us) v = omega (arith, entry_push us v)

pub entry_more : (us : List Entry) (i : ℕ) (v : Entry) → i < length us → v ≡ get_or us i v → pairs_depth (entries_view (take (i + 1) us)) ≡ max (pairs_depth (entries_view (take i us))) (max (depth v.key) (depth v.value))
entry_more us i v h e = rw (take_more us i v, ← e) (entry_push (take i us) v)

canonical_push : (us : List Val) (v : Val) → AreCanonical (vals_of us) → IsCanonical v → AreCanonical (vals_of (us ++ v ∷ []))
canonical_push [] v h k = (k, tt)
canonical_push (u ∷ us) v h k = (h.0, canonical_push us v h.1 k)

pub canonical_more : (us : List Val) (i : ℕ) (v : Val) → i < length us → v ≡ get_or us i v → AreCanonical (vals_of (take i us)) → IsCanonical v → AreCanonical (vals_of (take (i + 1) us))
canonical_more us i v h e a k = rw (take_more us i v, ← e) (canonical_push (take i us) v a k)

pairs_push : (us : List (Val × Val)) (v : Val × Val) → pairs_depth (pairs_of (us ++ v ∷ [])) ≡ max (pairs_depth (pairs_of us)) (max (depth v.0) (depth v.1))
pairs_push [] v = omega arith
pairs_push (u ∷ us) v = omega (arith, pairs_push us v)

pub pairs_more : (us : List (Val × Val)) (i : ℕ) (v : Val × Val) → i < length us → v ≡ get_or us i v → pairs_depth (pairs_of (take (i + 1) us)) ≡ max (pairs_depth (pairs_of (take i us))) (max (depth v.0) (depth v.1))
pairs_more us i v h e = rw (take_more us i v, ← e) (pairs_push (take i us) v)

pairs_canonical : (us : List (Val × Val)) (v : Val × Val) → HaveCanonical (pairs_of us) → IsCanonical v.0 → IsCanonical v.1 → HaveCanonical (pairs_of (us ++ v ∷ []))
pairs_canonical [] v h k l = (k, l, tt)
pairs_canonical (u ∷ us) v h k l = (h.0, h.1, pairs_canonical us v h.2 k l)

pub pairs_canonical_more : (us : List (Val × Val)) (i : ℕ) (v : Val × Val) → i < length us → v ≡ get_or us i v → HaveCanonical (pairs_of (take i us)) → IsCanonical v.0 → IsCanonical v.1 → HaveCanonical (pairs_of (take (i + 1) us))
pairs_canonical_more us i v h e a k l = rw (take_more us i v, ← e) (pairs_canonical (take i us) v a k l)
