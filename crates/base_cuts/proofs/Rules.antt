-- Clocks that do not fall are a rule, by whichever clocks.
use Rattle.std.proofs.Common.{◌≡◌, ◌⊎◌, inl, inr, ℕ, zero, suc, ◌<◌, ◌≤◌, List, [], ◌∷◌, ◌++◌, length, map, Some, ap, sym, ◌∙◌, subst, refl, arith}
use Rattle.std.specs.List.{slice_get}
use Rattle.base_clock_order.specs.Orders.{line}
use Rattle.base_clock_order.specs.declared.order.LineRef.{LineRef}
use Rattle.base_cuts.specs.Cuts.{Cut, IsLineOf, after, next, nothing, taken}
use Rattle.base_cuts.specs.Orders.{FollowsBy, Carries, IsOrderUnder, NoneFallsBy, sizes_of}
use Rattle.base_cuts.specs.Heads.{AreTaken, IsLeast, IsRule}
use Rattle.base_cuts.proofs.Takes.{begins_taken, split, taken_begins, taken_last, taken_more}

pub some_is : {X : Type 0} {x y : X} → Some x ≡ Some y → x ≡ y
some_is e = cc

module _ {X : Type 0} where
  pub place : (xs : List X) (i : ℕ) → i < length xs → (x : X) × (slice_get xs i ≡ Some x)
  place [] i h = absurd (omega (arith, h))
  place (x ∷ xs) zero h = (x, refl)
  place (x ∷ xs) (suc i) h = place xs i (omega (arith, h))

  pub inside : (xs : List X) (i : ℕ) (x : X) → slice_get xs i ≡ Some x → i < length xs
  inside [] i x e = cc
  inside (y ∷ ys) zero x e = omega arith
  inside (y ∷ ys) (suc i) x e = let r = inside ys i x e in omega (arith, r)

-- What clocks have: how they are compared.
pub record AreClocks {K : Type 0} (AtMost Above : K → K → Type 0) : Type 0 where
  pub down : (u v w : K) → AtMost u v → Above w v → Above w u
  pub never : (u : K) → Above u u → ⊥
  pub across : (u v w : K) → Above u v → Above v w → Above u w
  pub decides : (u v : K) → Above u v ⊎ (Above u v → ⊥)

module _ {K : Type 0} (clocks : List (List K)) where
  log_of : (logs : List (List K)) (f i : ℕ) → i < taken (map length logs) f → (log : List K) × (slice_get logs f ≡ Some log) × (i < length log)
  log_of [] f i h = absurd (omega (arith, h))
  log_of (log ∷ logs) zero i h = (log, refl, h)
  log_of (log ∷ logs) (suc f) i h = log_of logs f i h

  line_of : (logs : List (List K)) (f i : ℕ) (log : List K) (c : K) → slice_get logs f ≡ Some log → slice_get log i ≡ Some c → i < taken (map length logs) f
  line_of [] f i log c e h = cc
  line_of (x ∷ xs) zero i log c e h = let same : x ≡ log = some_is e in inside x i c (ap (λ (l : List K). slice_get l i) same ∙ h)
  line_of (x ∷ xs) (suc f) i log c e h = line_of xs f i log c e h

  pub clock_of : (l : LineRef) → IsLineOf (sizes_of clocks) l → (c : K) × Carries clocks l c
  clock_of l h = let r = log_of clocks l.file l.index h in let c = place r.0 l.index r.2 in (c.0, (r.0, r.1, c.1))

  pub clock_line : (f i : ℕ) (log : List K) (c : K) → slice_get clocks f ≡ Some log → slice_get log i ≡ Some c → i < taken (sizes_of clocks) f
  clock_line f i log c e h = line_of clocks f i log c e h

  pub one_clock : (l : LineRef) (c d : K) → Carries clocks l c → Carries clocks l d → c ≡ d
  one_clock l c d p q =
      let log : p.0 ≡ q.0 = some_is (sym p.1 ∙ q.1) in
      some_is (sym p.2 ∙ ap (λ (x : List K). slice_get x l.index) log ∙ q.2)

  module _ (AtMost Above : K → K → Type 0) (laws : AreClocks AtMost Above) (rises : NoneFallsBy AtMost clocks) where
    down : (a b : LineRef) (i : ℕ) → IsLineOf (sizes_of clocks) a → IsLineOf (sizes_of clocks) b → i ≤ b.index → FollowsBy Above clocks a b → FollowsBy Above clocks a (line b.file i)
    down a b i la lb h r = elim (split i b.index h) [
      | inl e ↦ subst (λ (k : ℕ). FollowsBy Above clocks a (line b.file k)) (sym e) (r.0, r.1, r.2, r.3, r.4)
      | inr less ↦
          let d = clock_of (line b.file i) (omega (arith, less, lb)) in
          let most : AtMost d.0 r.1 = rises (line b.file i) b.index d.0 r.1 less d.1 r.3 in
          (r.0, d.0, r.2, d.1, laws.down d.0 r.1 r.0 most r.4)
    ]

    decides : (a b : LineRef) → IsLineOf (sizes_of clocks) a → IsLineOf (sizes_of clocks) b → FollowsBy Above clocks a b ⊎ (FollowsBy Above clocks a b → ⊥)
    decides a b la lb =
        let c = clock_of a la in
        let d = clock_of b lb in
        elim (laws.decides c.0 d.0) [
          | inl y ↦ inl (c.0, d.0, c.1, d.1, y)
          | inr n ↦ inr (λ r. n (subst (λ (x : K). Above x d.0) (one_clock a r.0 c.0 r.2 c.1) (subst (Above r.0) (one_clock b r.1 d.0 r.3 d.1) r.4)))
        ]

    pub is_rule : IsRule (sizes_of clocks) (FollowsBy Above clocks)
    is_rule = record {
      down = down;
      never = λ a la r. laws.never r.0 (subst (Above r.0) (one_clock a r.1 r.0 r.3 r.2) r.4);
      across = λ a b c la lb lc r s. (r.0, s.1, r.2, s.3, laws.across r.0 r.1 s.1 r.4 (subst (λ (x : K). Above x s.1) (one_clock b s.0 r.1 s.2 r.3) s.4));
      decides = decides;
    }

module _ (sizes : Cut) (R : LineRef → LineRef → Type 0) (rule : IsRule sizes R) where
  -- ready by heads where some order begins so
  pub ready_least : (c : Cut) (l : LineRef) (xs ys : List LineRef) → after (nothing sizes) xs ≡ c → IsOrderUnder sizes R ((xs ++ l ∷ []) ++ ys) → (l ≡ next c l.file) × IsLeast sizes R c l.file
  ready_least c l xs ys e o =
      let h = taken_last sizes R rule (nothing sizes) xs (l ∷ []) (begins_taken sizes R rule (xs ++ l ∷ []) ys o) in
      let k : AreTaken sizes R c (l ∷ []) = subst (λ (d : Cut). AreTaken sizes R d (l ∷ [])) e h in
      (k.0, k.1)

  pub least_begins : (l : LineRef) (xs ys : List LineRef) → IsOrderUnder sizes R (xs ++ ys) → l ≡ next (after (nothing sizes) xs) l.file → IsLeast sizes R (after (nothing sizes) xs) l.file
      → (zs : List LineRef) × IsOrderUnder sizes R ((xs ++ l ∷ []) ++ zs)
  least_begins l xs ys o is least =
      taken_begins sizes R rule (xs ++ l ∷ []) (taken_more sizes R rule (nothing sizes) xs (l ∷ []) (begins_taken sizes R rule xs ys o) (is, least, tt))

  pub exchange : (l : LineRef) (xs ys us vs : List LineRef) → IsOrderUnder sizes R (xs ++ ys) → after (nothing sizes) us ≡ after (nothing sizes) xs → IsOrderUnder sizes R ((us ++ l ∷ []) ++ vs)
      → (zs : List LineRef) × IsOrderUnder sizes R ((xs ++ l ∷ []) ++ zs)
  exchange l xs ys us vs o e p = let r = ready_least (after (nothing sizes) xs) l us vs e p in least_begins l xs ys o r.0 r.1

  pub some_order : (xs : List LineRef) × IsOrderUnder sizes R ([] ++ xs)
  some_order = taken_begins sizes R rule [] tt
