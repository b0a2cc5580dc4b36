-- The orders that vectors allow are the linear extensions of what happened before what.
use Rattle.std.proofs.Common.{◌≡◌, ◌≢◌, ◌⊎◌, inl, inr, ℕ, zero, suc, ◌<◌, List, [], ◌∷◌, get_or, Some, ap, sym, ◌∙◌, subst, refl, arith}
use Rattle.std.specs.List.{Contains, AllPairs, slice_get}
use Rattle.std.proofs.lemmas.Option.{get_or_from_slice_get}
use Rattle.base_clock_order.specs.Orders.{FollowsInLog}
use Rattle.base_clock_order.specs.declared.order.LineRef.{LineRef}
use Rattle.base_clocks.specs.Stamps.{IsAbove}
use Rattle.base_clocks.specs.declared.stamp.Stamp.{Stamp}
use Rattle.base_cuts.specs.Cuts.{IsLineOf}
use Rattle.base_cuts.specs.Orders.{FollowsBy, IsMade, IsOrderUnder, by_vectors, sizes_of}
use Rattle.base_cuts.specs.Extensions.{AreExtensions, HappensBefore, IsExtension}
use Rattle.base_cuts.proofs.Rules.{inside, place}
use Rattle.base_cuts.proofs.Ready.{vector_rule}

module _ {X : Type 0} where
  stands_at : (xs : List X) (x : X) → Contains xs x → (i : ℕ) × (slice_get xs i ≡ Some x)
  stands_at [] x h = absurd (omega (arith, h.1))
  stands_at (y ∷ ys) x (zero, l, e) = (0, ap Some e)
  stands_at (y ∷ ys) x (suc k, l, e) = let r = stands_at ys x (k, omega (arith, l), e) in (suc r.0, r.1)

  stands_in : (xs : List X) (i : ℕ) (x : X) → slice_get xs i ≡ Some x → Contains xs x
  stands_in xs i x e = (i, inside xs i x e, get_or_from_slice_get xs i x x e)

  pair_at : (R : X → X → Type 0) (xs : List X) → AllPairs R xs → (i j : ℕ) (x y : X) → i < j → slice_get xs i ≡ Some x → slice_get xs j ≡ Some y → R x y
  pair_at R xs all i j x y h e f =
      subst (λ (z : X). R z y) (get_or_from_slice_get xs i x x e) (subst (R (get_or xs i x)) (get_or_from_slice_get xs j y x f) (all i j x h (inside xs j y f)))

  pairs_of : (R : X → X → Type 0) (xs : List X) → ((i j : ℕ) (x y : X) → i < j → slice_get xs i ≡ Some x → slice_get xs j ≡ Some y → R x y) → AllPairs R xs
  pairs_of R xs h = λ i j d l b.
      let a = place xs i (omega (arith, l, b)) in
      let c = place xs j b in
      subst (λ (z : X). R z (get_or xs j d)) (sym (get_or_from_slice_get xs i a.0 d a.1)) (subst (R a.0) (sym (get_or_from_slice_get xs j c.0 d c.1)) (h i j a.0 c.0 l a.1 c.1))

nat_three : (m n : ℕ) → (m ≡ n) ⊎ (m < n) ⊎ (n < m)
nat_three m n = grind arith

one_some : {X : Type 0} {x y : X} → Some x ≡ Some y → x ≡ y
one_some e = cc

module _ (vs : List (List (List Stamp))) (made : IsMade (by_vectors vs)) (xs : List LineRef) where
  itself : (a : LineRef) → IsLineOf (sizes_of vs) a → HappensBefore vs a a → ⊥
  itself a la (inl h) = let l = h.1 in omega (arith, l)
  itself a la (inr r) = (vector_rule vs made).never a la r

  later_first : IsOrderUnder (sizes_of vs) (FollowsBy IsAbove vs) xs → (a b : LineRef) (i j : ℕ) → j < i → slice_get xs i ≡ Some a → slice_get xs j ≡ Some b → HappensBefore vs a b → ⊥
  later_first o a b i j l e f (inl h) = pair_at (λ x y. ¬ FollowsInLog x y) xs o.in_log j i b a l f e h
  later_first o a b i j l e f (inr r) = pair_at (λ x y. ¬ FollowsBy IsAbove vs x y) xs o.rule j i b a l f e r

  extends : IsOrderUnder (sizes_of vs) (FollowsBy IsAbove vs) xs → IsExtension (sizes_of vs) (HappensBefore vs) xs
  extends o = record {
    lines = o.lines;
    keeps = λ a b la lb h.
        let p = stands_at xs a (o.lines.all a la) in
        let q = stands_at xs b (o.lines.all b lb) in
        elim (nat_three p.0 q.0) [
          | inl same ↦ absurd (itself a la (subst (HappensBefore vs a) (sym (one_some (sym p.1 ∙ ap (slice_get xs) same ∙ q.1))) h))
          | inr n ↦ elim n [ inl l ↦ (p.0, q.0, l, p.1, q.1) | inr l ↦ absurd (later_first o a b p.0 q.0 l p.1 q.1 h) ]
        ];
  }

  one_place : (e : IsExtension (sizes_of vs) (HappensBefore vs) xs) → (i j : ℕ) (x : LineRef) → slice_get xs i ≡ Some x → slice_get xs j ≡ Some x → i ≡ j
  one_place e i j x p q = elim (nat_three i j) [
    | inl same ↦ same
    | inr n ↦ elim n [ inl l ↦ absurd (pair_at (λ a b. a ≢ b) xs e.lines.once i j x x l p q refl) | inr l ↦ absurd (pair_at (λ a b. a ≢ b) xs e.lines.once j i x x l q p refl) ]
  ]

  backward : (e : IsExtension (sizes_of vs) (HappensBefore vs) xs) → (i j : ℕ) (x y : LineRef) → i < j → slice_get xs i ≡ Some x → slice_get xs j ≡ Some y → HappensBefore vs y x → ⊥
  backward e i j x y l p q h =
      let s = e.keeps y x (e.lines.lines y (stands_in xs j y q)) (e.lines.lines x (stands_in xs i x p)) h in
      let first : s.0 ≡ j = one_place e s.0 j y s.3 q in
      let second : s.1 ≡ i = one_place e s.1 i x s.4 p in
      let less = s.2 in
      omega (arith, first, second, less, l)

  orders : IsExtension (sizes_of vs) (HappensBefore vs) xs → IsOrderUnder (sizes_of vs) (FollowsBy IsAbove vs) xs
  orders e = record {
    lines = e.lines;
    in_log = pairs_of (λ x y. ¬ FollowsInLog x y) xs (λ i j x y l p q h. backward e i j x y l p q (inl h));
    rule = pairs_of (λ x y. ¬ FollowsBy IsAbove vs x y) xs (λ i j x y l p q h. backward e i j x y l p q (inr h));
  }

pub are_extensions : AreExtensions
are_extensions vs made xs = (extends vs made xs, orders vs made xs)
