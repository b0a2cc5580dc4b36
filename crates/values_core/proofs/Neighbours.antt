-- Lists whose neighbours ascend.
use Rattle.std.proofs.Common.{◌≡◌, ◌⊎◌, inl, inr, ℕ, zero, suc, ◌+◌, ◌-◌, ◌<◌, List, [], ◌∷◌, length, get_or, ◌≤◌, refl, arith, false}
use Rattle.std.specs.declared.cmp.Ordering.{Ordering}
use Rattle.std.specs.declared.cmp.Ordering.TheVariants.{Less, Equal, Greater}
use Rattle.std.specs.Ordering.{is_ge}
use Rattle.std.specs.List.{AllByRecursion}
use Rattle.std.specs.List.Sorted.{IsStrictlySortedBy}
use Rattle.values_core.specs.Data.{Val}
use Rattle.values_core.specs.Order.{val_cmp}
use Rattle.values_core.specs.OrderLaws.{val_total}

less : (o : Ordering) → is_ge o ≡ false → o ≡ Less
less Less e = refl
less Equal e = cc
less Greater e = cc

item_same : {X : Type 0} (xs : List X) (k : ℕ) (x y : X) → k < length xs → x ≡ get_or xs k x → x ≡ get_or xs k y
item_same [] k x y l e = absurd (omega arith)
item_same (z ∷ zs) zero x y l e = e
item_same (z ∷ zs) (suc k) x y l e = item_same zs k x y (omega arith) e

-- the neighbours before a place ascend, where f is what is compared, and so do the two at the place
pub one_more : {X : Type 0} (f : X → Val) (xs : List X) (i : ℕ) (p q : X) → 1 ≤ i → i < length xs → p ≡ get_or xs (i - 1) p → q ≡ get_or xs i q
    → is_ge (val_cmp (f p) (f q)) ≡ false
    → ((k j : ℕ) (d : X) → j ≡ k + 1 → j < i → val_cmp (f (get_or xs k d)) (f (get_or xs j d)) ≡ Less)
    → (k j : ℕ) (d : X) → j ≡ k + 1 → j < i + 1 → val_cmp (f (get_or xs k d)) (f (get_or xs j d)) ≡ Less
one_more f xs i p q least within ep eq lt before k j d e l =
    elim (either j l) [
      | inl h ↦ before k j d e h
      | inr h ↦
          let at : k ≡ i - 1 = omega arith in
          let a : p ≡ get_or xs (i - 1) d = item_same xs (i - 1) p d (omega arith) ep in
          let b : q ≡ get_or xs i d = item_same xs i q d within eq in
          rw (at, h, ← a, ← b) (less (val_cmp (f p) (f q)) lt)
    ]
  where
    either : (j : ℕ) → j < i + 1 → (j < i) ⊎ (j ≡ i)
    either j h = grind arith

pub ascending_values : (vs : List Val) → ((k j : ℕ) (d : Val) → j ≡ k + 1 → j < length vs → val_cmp (get_or vs k d) (get_or vs j d) ≡ Less) → IsStrictlySortedBy val_cmp vs
unfolding IsStrictlySortedBy
ascending_values [] h = tt
ascending_values (v ∷ []) h = (tt, tt)
ascending_values (v ∷ w ∷ vs) h =
    let rest = ascending_values (w ∷ vs) (λ k j d e l. h (suc k) (suc j) d (omega arith) (omega arith)) in
    let first : val_cmp v w ≡ Less = h 0 1 v (omega arith) (omega arith) in
    ((first, further v w vs first rest.0), rest)
  where
    further : (k l : Val) (ks : List Val) → val_cmp k l ≡ Less → AllByRecursion (λ j. val_cmp l j ≡ Less) ks → AllByRecursion (λ j. val_cmp k j ≡ Less) ks
    further k l [] e a = tt
    further k l (j ∷ ks) e a = (val_total.trans k l j e a.0, further k l ks e a.1)
