-- Lists in strictly ascending order by a total order: what stands in such a list determines it.
use Rattle.std.specs.Prelude.{◌≡◌, ◌↔◌, ◌⊎◌, zero, suc, List, [], ◌∷◌, refl, Contains}
use Rattle.std.proofs.Common.{ap, sym, ◌∙◌, subst, arith, inl, inr}
use Rattle.std.specs.declared.cmp.Ordering.{Ordering}
use Rattle.std.specs.declared.cmp.Ordering.TheVariants.{Less}
use Rattle.std.specs.Ordering.{ordering_reverse}
use Rattle.std.specs.Cmp.{IsTotalOrder}
use Rattle.std.specs.List.Sorted.{IsStrictlySortedBy}
use Rattle.std.proofs.lemmas.Cmp.{tied_itself}
use Rattle.std.proofs.lemmas.List.Elements.{All-contains}
use Rattle.std.proofs.lemmas.Map.Keys.{sorted_tail}
use Rattle.std.proofs.lemmas.Map.Views.{All-after_first}

module _ {X : Type 0} where
  pub cons_cases : (x : X) (xs : List X) (v : X) → Contains (x ∷ xs) v → (x ≡ v) ⊎ Contains xs v
  cons_cases x xs v (zero, l, e) = inl e
  cons_cases x xs v (suc k, l, e) = inr (k, omega arith, e)

  pub head_in : (x : X) (xs : List X) → Contains (x ∷ xs) x
  head_in x xs = (0, omega arith, refl)

  pub tail_in : (x : X) (xs : List X) (v : X) → Contains xs v → Contains (x ∷ xs) v
  tail_in x xs v h = (suc h.0, omega arith, h.2)

  pub none_in : (v : X) → Contains {X = X} [] v → ⊥
  none_in v h = omega (arith, h.1)

module _ {X : Type 0} (R : X → X → Ordering) (o : IsTotalOrder R) where
  pub below : (k : X) (ks : List X) (v : X) → IsStrictlySortedBy R (k ∷ ks) → Contains ks v → R k v ≡ Less
  below k ks v s h = All-contains (λ q. R k q ≡ Less) ks v (All-after_first R k ks s) h

  pub not_both : (a b : X) → R a b ≡ Less → R b a ≡ Less → ⊥
  not_both a b p q = let e : Less ≡ ordering_reverse Less = sym p ∙ o.antisymm a b ∙ ap ordering_reverse q in cc

  pub not_itself : (a b : X) → a ≡ b → R a b ≡ Less → ⊥
  not_itself a b e p = let f : R a a ≡ Less = subst (λ w. R a w ≡ Less) (sym e) p in let g = tied_itself o a in cc

  heads : (k l : X) (ks ls : List X) → IsStrictlySortedBy R (k ∷ ks) → IsStrictlySortedBy R (l ∷ ls)
      → ((v : X) → Contains (k ∷ ks) v ↔ Contains (l ∷ ls) v) → k ≡ l
  heads k l ks ls s t same =
      elim (cons_cases l ls k ((same k).0 (head_in k ks))) [
        | inl e ↦ sym e
        | inr h ↦ elim (cons_cases k ks l ((same l).1 (head_in l ls))) [
          | inl e ↦ e
          | inr g ↦ absurd (not_both l k (below l ls k t h) (below k ks l s g))
        ]
      ]

  tails : (k l : X) (ks ls : List X) → IsStrictlySortedBy R (k ∷ ks) → k ≡ l
      → ((v : X) → Contains (k ∷ ks) v → Contains (l ∷ ls) v) → (v : X) → Contains ks v → Contains ls v
  tails k l ks ls s e f v h = elim (cons_cases l ls v (f v (tail_in k ks v h))) [
    | inl g ↦ absurd (not_itself k v (e ∙ g) (below k ks v s h))
    | inr g ↦ g
  ]

  pub ascending_unique : (ks ls : List X) → IsStrictlySortedBy R ks → IsStrictlySortedBy R ls → ((v : X) → Contains ks v ↔ Contains ls v) → ks ≡ ls
  ascending_unique [] [] s t same = refl
  ascending_unique [] (l ∷ ls) s t same = absurd (none_in l ((same l).1 (head_in l ls)))
  ascending_unique (k ∷ ks) [] s t same = absurd (none_in k ((same k).0 (head_in k ks)))
  ascending_unique (k ∷ ks) (l ∷ ls) s t same =
      let e = heads k l ks ls s t same in
      let rest : ks ≡ ls = ascending_unique ks ls (sorted_tail R k ks s) (sorted_tail R l ls t)
      (λ v. (tails k l ks ls s e (λ w. (same w).0) v, tails l k ls ks t (sym e) (λ w. (same w).1) v)) in
      λ i. e i ∷ rest i
