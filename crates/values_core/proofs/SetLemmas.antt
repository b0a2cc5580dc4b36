-- Sets made of lists, and membership by search.
use Rattle.std.proofs.Common.{◌≡◌, ◌↔◌, ℕ, ◌+◌, ◌<◌, ◌≤◌, List, [], length, get_or, ap, ◌∙◌, refl, arith, Ok, Err, Result, is_ok, IsTrue, inl, inr}
use Rattle.std.specs.declared.cmp.Ordering.TheVariants.{Less, Equal, Greater}
use Rattle.std.specs.Ordering.{is_lt, ordering_reverse}
use Rattle.std.specs.Cmp.{Equal-is}
use Rattle.std.specs.List.{Contains, dedup}
use Rattle.std.specs.List.Retain.{IsFiltered, DiffersFromLast}
use Rattle.std.specs.List.Sorted.{IsStrictlySortedBy, IsPermutation, IsSorted, IsSortedBy, IsBinarySearchResult, IsSearchInRange}
use Rattle.std.proofs.lemmas.Cmp.{tied_itself}
use Rattle.std.proofs.lemmas.Bool.{cases_lt}
use Rattle.std.proofs.lemmas.List.Kept.{IsStrictlySortedBy-dedup, Contains-dedup, Contains-from_dedup}
use Rattle.std.proofs.lemmas.List.Filters.{dedup_is}
use Rattle.std.proofs.lemmas.List.Sorted.{Contains-permutation, IsPermutation-sym, searchable_from_sorted}
use Rattle.std.proofs.lemmas.Map.Keys.{Less-from_sorted}
use Rattle.values_core.specs.Data.{Val, set, vals_of, vals_depth}
use Rattle.values_core.specs.IsValue.{IsValue, AreCanonical}
use Rattle.values_core.specs.Order.{val_cmp, val_eq}
use Rattle.values_core.specs.OrderLaws.{val_total, val_ties, val_eq_equiv}
use Rattle.values_core.specs.SetLaws.{members-vals_of}
use Rattle.values_core.specs.Sets.{IsAscendingOf, IsSetOf}

deduped : (xs ys : List Val) → IsPermutation xs ys → IsSorted val_cmp ys → IsAscendingOf xs (dedup val_eq ys)
deduped xs ys p s = record {
  ascending = IsStrictlySortedBy-dedup val_total (λ a b. refl) ys s;
  same = λ v. (
    λ h. Contains-permutation ys xs v (IsPermutation-sym xs ys p) (Contains-from_dedup val_eq ys v h),
    λ h. Contains-dedup val_eq_equiv (λ a b e. val_ties a b ((Equal-is (val_cmp a b)).0 e)) ys v (Contains-permutation xs ys v p h),
  );
}

pub ascending_of : (xs ys zs : List Val) → IsPermutation xs ys → IsSorted val_cmp ys → IsFiltered (DiffersFromLast val_eq) [] ys zs → IsAscendingOf xs zs
ascending_of xs ys zs p s f = rw (dedup_is val_eq ys zs f) (deduped xs ys p s)

sorted_from_strict : (ks : List Val) → IsStrictlySortedBy val_cmp ks → IsSortedBy (λ a b. is_lt (val_cmp a b)) ks
sorted_from_strict ks s k d h g =
    ap is_lt (val_total.antisymm (get_or ks (k + 1) d) (get_or ks k d) ∙ ap ordering_reverse (Less-from_sorted val_cmp ks k (k + 1) d s (omega arith) g))

pub contains_by_search : (ks : List Val) (v : Val) (r : Result ℕ ℕ) → IsStrictlySortedBy val_cmp ks → IsSearchInRange r (length ks) → IsBinarySearchResult (λ y. val_cmp y v) ks r → IsTrue (is_ok r) ↔ Contains ks v
contains_by_search ks v (Ok i) s b p = (λ t. (i, b, val_ties (get_or ks i v) v (p v)), λ h. refl)
contains_by_search ks v (Err i) s b p = (λ t. cc, λ h. absurd (none h))
  where
    none : Contains ks v → ⊥
    none h =
        let parts = p (searchable_from_sorted val_total (λ x. x) ks v (sorted_from_strict ks s)) in
        let same : val_cmp (get_or ks h.0 v) v ≡ Equal = rw h.2 (tied_itself val_total v) in
        elim (cases_lt h.0 i) [
          | inl l ↦ let e : val_cmp (get_or ks h.0 v) v ≡ Less = parts.0 h.0 v (omega arith) l in cc
          | inr l ↦ let e : val_cmp (get_or ks h.0 v) v ≡ Greater = parts.1 h.0 v l h.1 in cc
        ]

pub valid_set : (xs ks : List Val) → IsAscendingOf xs ks → length ks ≤ 100000 → AreCanonical (vals_of ks) → vals_depth (vals_of ks) < 32 → IsValue (set (vals_of ks))
valid_set xs ks a h k d = record {
  canonical = (record { ascending = rw members-vals_of a.ascending; few = rw members-vals_of h }, k);
  shallow = omega arith;
}

pub set_of : (xs ks : List Val) → IsAscendingOf xs ks → IsValue (set (vals_of ks)) → IsSetOf xs (set (vals_of ks))
set_of xs ks a v = record {
  valid = v;
  is_set = tt;
  same = λ w. (λ h. (a.same w).0 (rw members-vals_of at h), λ h. rw members-vals_of ((a.same w).1 h));
}
