-- Each list of values has its set, where they are few and shallow enough.
use Rattle.std.proofs.Common.{◌≡◌, ◌⊎◌, inl, inr, ℕ, suc, ◌<◌, ◌≤◌, List, [], ◌∷◌, length, ap, sym, ◌∙◌, subst, refl, arith}
use Rattle.std.specs.declared.cmp.Ordering.{Ordering}
use Rattle.std.specs.declared.cmp.Ordering.TheVariants.{Less, Equal, Greater}
use Rattle.std.specs.Ordering.{match_ordering, ordering_reverse}
use Rattle.std.specs.List.{Contains, AllByRecursion}
use Rattle.std.specs.List.Sorted.{IsStrictlySortedBy}
use Rattle.std.proofs.lemmas.Map.Keys.{sorted_tail}
use Rattle.values_core.specs.Data.{Val, set, vals_of, depth, vals_depth}
use Rattle.values_core.specs.Ascending.{cons_cases, head_in, tail_in, none_in, below}
use Rattle.values_core.specs.IsValue.{IsCanonical, AreCanonical}
use Rattle.values_core.specs.Order.{val_cmp}
use Rattle.values_core.specs.OrderLaws.{val_total, val_ties}
use Rattle.values_core.specs.SetLaws.{depth_all}
use Rattle.values_core.specs.Sets.{IsAscendingOf, IsSetOf}
use Rattle.values_core.proofs.SetLemmas.{valid_set, set_of}

all_from : (P : Val → Type 0) (xs : List Val) → ((w : Val) → Contains xs w → P w) → AllByRecursion P xs
all_from P [] f = tt
all_from P (x ∷ xs) f = (f x (head_in x xs), all_from P xs (λ w h. f w (tail_in x xs w h)))

sorted_cons : (x : Val) (xs : List Val) → ((w : Val) → Contains xs w → val_cmp x w ≡ Less) → IsStrictlySortedBy val_cmp xs → IsStrictlySortedBy val_cmp (x ∷ xs)
unfolding IsStrictlySortedBy
sorted_cons x xs f s = (all_from (λ w. val_cmp x w ≡ Less) xs f, s)

sorted_none : IsStrictlySortedBy val_cmp []
unfolding IsStrictlySortedBy
sorted_none = tt

cons_in : (x : Val) (xs : List Val) (v : Val) → (x ≡ v) ⊎ Contains xs v → Contains (x ∷ xs) v
cons_in x xs v (inl e) = subst (λ w. Contains (x ∷ xs) w) e (head_in x xs)
cons_in x xs v (inr h) = tail_in x xs v h

-- a value put at its place in an ascending list, once
abbrev put : Val → List Val → List Val
put v [] = v ∷ []
put v (k ∷ ks) = match_ordering (val_cmp v k) (v ∷ k ∷ ks) (k ∷ ks) (k ∷ put v ks)

in_put : (v : Val) (ks : List Val) (w : Val) → Contains (put v ks) w → (v ≡ w) ⊎ Contains ks w
in_put v [] w h = cons_cases v [] w h
in_put v (k ∷ ks) w h = by_order (in_put v ks w) (val_cmp v k) h
  where
    by_order : (Contains (put v ks) w → (v ≡ w) ⊎ Contains ks w) → (o : Ordering) → Contains (match_ordering o (v ∷ k ∷ ks) (k ∷ ks) (k ∷ put v ks)) w → (v ≡ w) ⊎ Contains (k ∷ ks) w
    by_order ih Less g = cons_cases v (k ∷ ks) w g
    by_order ih Equal g = inr g
    by_order ih Greater g = elim (cons_cases k (put v ks) w g) [
      | inl e ↦ inr (cons_in k ks w (inl e))
      | inr j ↦ elim (ih j) [
        | inl e ↦ inl e
        | inr l ↦ inr (tail_in k ks w l)
      ]
    ]

put_in : (v : Val) (ks : List Val) (w : Val) → (v ≡ w) ⊎ Contains ks w → Contains (put v ks) w
put_in v [] w h = cons_in v [] w h
put_in v (k ∷ ks) w h = by_order (put_in v ks w) (val_cmp v k) refl
  where
    by_order : ((v ≡ w) ⊎ Contains ks w → Contains (put v ks) w) → (o : Ordering) → val_cmp v k ≡ o → Contains (match_ordering o (v ∷ k ∷ ks) (k ∷ ks) (k ∷ put v ks)) w
    by_order ih Less e = cons_in v (k ∷ ks) w h
    by_order ih Equal e = elim h [
      | inl f ↦ cons_in k ks w (inl (sym (val_ties v k e) ∙ f))
      | inr g ↦ g
    ]
    by_order ih Greater e = elim h [
      | inl f ↦ tail_in k (put v ks) w (ih (inl f))
      | inr g ↦ elim (cons_cases k ks w g) [
        | inl f ↦ cons_in k (put v ks) w (inl f)
        | inr j ↦ tail_in k (put v ks) w (ih (inr j))
      ]
    ]

put_ascending : (v : Val) (ks : List Val) → IsStrictlySortedBy val_cmp ks → IsStrictlySortedBy val_cmp (put v ks)
put_ascending v [] s = sorted_cons v [] (λ w h. absurd (none_in w h)) s
put_ascending v (k ∷ ks) s = by_order (put_ascending v ks (sorted_tail val_cmp k ks s)) (val_cmp v k) refl
  where
    by_order : IsStrictlySortedBy val_cmp (put v ks) → (o : Ordering) → val_cmp v k ≡ o → IsStrictlySortedBy val_cmp (match_ordering o (v ∷ k ∷ ks) (k ∷ ks) (k ∷ put v ks))
    by_order ih Less e = sorted_cons v (k ∷ ks) (λ w h. elim (cons_cases k ks w h) [
      | inl f ↦ subst (λ (z : Val). val_cmp v z ≡ Less) f e
      | inr g ↦ val_total.trans v k w e (below val_cmp val_total k ks w s g)
    ]) s
    by_order ih Equal e = s
    by_order ih Greater e =
        let turned : val_cmp k v ≡ Less = val_total.antisymm k v ∙ ap ordering_reverse e in
        sorted_cons k (put v ks) (λ w h. elim (in_put v ks w h) [
          | inl f ↦ subst (λ (z : Val). val_cmp k z ≡ Less) f turned
          | inr g ↦ below val_cmp val_total k ks w s g
        ]) ih

length-put : (v : Val) (ks : List Val) → length (put v ks) ≤ suc (length ks)
length-put v [] = omega arith
length-put v (k ∷ ks) = by_order (length-put v ks) (val_cmp v k)
  where
    by_order : length (put v ks) ≤ suc (length ks) → (o : Ordering) → length (match_ordering o (v ∷ k ∷ ks) (k ∷ ks) (k ∷ put v ks)) ≤ suc (suc (length ks))
    by_order ih Less = omega arith
    by_order ih Equal = omega arith
    by_order ih Greater = omega (arith, ih)

-- the values, each once and in ascending order
abbrev in_order : List Val → List Val
in_order [] = []
in_order (v ∷ vs) = put v (in_order vs)

in_ordered : (vs : List Val) (w : Val) → Contains (in_order vs) w → Contains vs w
in_ordered [] w h = h
in_ordered (v ∷ vs) w h = elim (in_put v (in_order vs) w h) [
  | inl e ↦ cons_in v vs w (inl e)
  | inr g ↦ tail_in v vs w (in_ordered vs w g)
]

ordered_in : (vs : List Val) (w : Val) → Contains vs w → Contains (in_order vs) w
ordered_in [] w h = h
ordered_in (v ∷ vs) w h = put_in v (in_order vs) w (elim (cons_cases v vs w h) [
  | inl e ↦ inl e
  | inr g ↦ inr (ordered_in vs w g)
])

ascending : (vs : List Val) → IsStrictlySortedBy val_cmp (in_order vs)
ascending [] = sorted_none
ascending (v ∷ vs) = put_ascending v (in_order vs) (ascending vs)

length-in_order : (vs : List Val) → length (in_order vs) ≤ length vs
length-in_order [] = omega arith
length-in_order (v ∷ vs) = omega (arith, length-put v (in_order vs), length-in_order vs)

ascending_of : (vs : List Val) → IsAscendingOf vs (in_order vs)
ascending_of vs = record { ascending = ascending vs; same = λ w. (in_ordered vs w, ordered_in vs w) }

canonical : (ks : List Val) → ((w : Val) → Contains ks w → IsCanonical w) → AreCanonical (vals_of ks)
canonical [] f = tt
canonical (k ∷ ks) f = (f k (head_in k ks), canonical ks (λ w h. f w (tail_in k ks w h)))

pub set_made : (vs : List Val) (n : ℕ) → length vs ≤ 100000 → n < 32 → ((w : Val) → Contains vs w → IsCanonical w) → ((w : Val) → Contains vs w → depth w ≤ n)
    → IsSetOf vs (set (vals_of (in_order vs))) × (depth (set (vals_of (in_order vs))) ≤ suc n)
set_made vs n few less can deep =
    let d : vals_depth (vals_of (in_order vs)) ≤ n = depth_all (in_order vs) n (λ w h. deep w (in_ordered vs w h)) in
    let valid = valid_set vs (in_order vs) (ascending_of vs) (omega (arith, few, length-in_order vs)) (canonical (in_order vs) (λ w h. can w (in_ordered vs w h))) (omega (arith, d, less)) in
    (set_of vs (in_order vs) (ascending_of vs) valid, omega (arith, d))
