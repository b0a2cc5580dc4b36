-- One sequence.
use Rattle.std.proofs.Common.{◌≡◌, ℕ, zero, suc, ◌+◌, ◌<◌, List, [], ◌∷◌, ◌++◌, length, Some, ap, sym, ◌∙◌, subst, refl, arith}
use Rattle.std.specs.List.{Contains, slice_get}
use Rattle.base_clock_order.specs.declared.order.LineRef.{LineRef}
use Rattle.base_cuts.specs.Cuts.{Cut, IsLineOf, after, nothing, total, with_one}
use Rattle.base_cuts.specs.Orders.{IsOrderUnder}
use Rattle.base_cuts.proofs.Growing.{has_log, nothing_long, total_with_one, with_long}
use Rattle.base_cuts.proofs.Lists.{head_in, tail_in}

pub in_first : (xs ys : List LineRef) (x : LineRef) → Contains xs x → Contains (xs ++ ys) x
in_first [] ys x h = absurd (omega (arith, h.1))
in_first (z ∷ zs) ys x (zero, l, e) = (0, omega arith, e)
in_first (z ∷ zs) ys x (suc k, l, e) = tail_in z (zs ++ ys) x (in_first zs ys x (k, omega (arith, l), e))

pub total_nothing : (sizes : Cut) → total (nothing sizes) ≡ 0
total_nothing [] = refl
total_nothing (n ∷ ns) = let r = total_nothing ns in omega (arith, r)

-- lines of the logs, counted
pub total_after : (sizes c : Cut) (xs : List LineRef) → length c ≡ length sizes → ((l : LineRef) → Contains xs l → IsLineOf sizes l) → total (after c xs) ≡ total c + length xs
total_after sizes c [] long lines = omega arith
total_after sizes c (x ∷ xs) long lines =
    let b : x.file < length c = let h = has_log sizes x (lines x (head_in x xs)) in omega (arith, h, long) in
    let one = total_with_one c x.file b in
    let r = total_after sizes (with_one c x.file) xs (with_long c x.file ∙ long) (λ l h. lines l (tail_in x xs l h)) in
    omega (arith, one, r)

-- two beginnings of a list that are as long are one
one_beginning : (xs us ys vs : List LineRef) → xs ++ ys ≡ us ++ vs → length xs ≡ length us → xs ≡ us
one_beginning [] [] ys vs e l = refl
one_beginning [] (u ∷ us) ys vs e l = absurd (omega (arith, l))
one_beginning (x ∷ xs) [] ys vs e l = absurd (omega (arith, l))
one_beginning (x ∷ xs) (u ∷ us) ys vs e l =
    let first : x ≡ u = cc in
    let behind : xs ++ ys ≡ us ++ vs = cc in
    let tails = one_beginning xs us ys vs behind (omega (arith, l)) in
    λ i. first i ∷ tails i

pub at_end : (xs : List LineRef) (l : LineRef) (ys : List LineRef) → slice_get ((xs ++ l ∷ []) ++ ys) (length xs) ≡ Some l
at_end [] l ys = refl
at_end (x ∷ xs) l ys = at_end xs l ys

split_at : (xs : List LineRef) (n : ℕ) (l : LineRef) → slice_get xs n ≡ Some l → (us vs : List LineRef) × (length us ≡ n) × (xs ≡ (us ++ l ∷ []) ++ vs)
split_at [] n l e = cc
split_at (x ∷ xs) zero l e = let same : x ≡ l = cc in ([], xs, refl, λ i. same i ∷ xs)
split_at (x ∷ xs) (suc n) l e = let r = split_at xs n l e in (x ∷ r.0, r.1, ap suc r.2, ap (λ (zs : List LineRef). x ∷ zs) r.3)

regroup : (us : List LineRef) (l : LineRef) (vs : List LineRef) → us ++ l ∷ vs ≡ (us ++ l ∷ []) ++ vs
regroup [] l vs = refl
regroup (u ∷ us) l vs = ap (λ (zs : List LineRef). u ∷ zs) (regroup us l vs)

module _ (sizes : Cut) (lines : List LineRef) (made : IsOrderUnder sizes (λ a b. ⊥) lines) where
  -- as many are taken as stand in the beginning
  pub as_long : (xs ys : List LineRef) → xs ++ ys ≡ lines → total (after (nothing sizes) xs) ≡ length xs
  as_long xs ys e =
      let r = total_after sizes (nothing sizes) xs (nothing_long sizes) (λ l h. made.lines.lines l (subst (λ (zs : List LineRef). Contains zs l) e (in_first xs ys l h))) in
      let z = total_nothing sizes in
      omega (arith, r, z)

  pub same_beginning : (xs us ys vs : List LineRef) → xs ++ ys ≡ lines → us ++ vs ≡ lines → total (after (nothing sizes) xs) ≡ total (after (nothing sizes) us) → xs ≡ us
  same_beginning xs us ys vs e f same =
      let a = as_long xs ys e in
      let b = as_long us vs f in
      one_beginning xs us ys vs (e ∙ sym f) (omega (arith, a, b, same))

  pub one_cut : (c d : Cut) (xs us ys vs : List LineRef) → xs ++ ys ≡ lines → us ++ vs ≡ lines → after (nothing sizes) xs ≡ c → after (nothing sizes) us ≡ d → total c ≡ total d → c ≡ d
  one_cut c d xs us ys vs e f p q same =
      sym p ∙ ap (after (nothing sizes)) (same_beginning xs us ys vs e f (ap total p ∙ same ∙ sym (ap total q))) ∙ q

  pub ready_there : (c : Cut) (l : LineRef) (us vs : List LineRef) → after (nothing sizes) us ≡ c → (us ++ l ∷ []) ++ vs ≡ lines → slice_get lines (total c) ≡ Some l
  ready_there c l us vs p e =
      let long : total c ≡ length us = sym (ap total p) ∙ as_long us (l ∷ vs) (regroup us l vs ∙ e) in
      subst (λ (n : ℕ). slice_get lines n ≡ Some l) (sym long) (subst (λ (zs : List LineRef). slice_get zs (length us) ≡ Some l) e (at_end us l vs))

  pub there_ready : (c : Cut) (l : LineRef) (xs ys : List LineRef) → after (nothing sizes) xs ≡ c → xs ++ ys ≡ lines → slice_get lines (total c) ≡ Some l
      → (vs : List LineRef) × ((xs ++ l ∷ []) ++ vs ≡ lines)
  there_ready c l xs ys p e at =
      let s = split_at lines (total c) l at in
      let long : length xs ≡ length s.0 = sym (as_long xs ys e) ∙ ap total p ∙ sym s.2 in
      let same : xs ≡ s.0 = one_beginning xs s.0 ys (l ∷ s.1) (e ∙ s.3 ∙ sym (regroup s.0 l s.1)) long in
      (s.1, ap (λ (zs : List LineRef). (zs ++ l ∷ []) ++ s.1) same ∙ sym s.3)

  pub exchange : (l : LineRef) (xs ys us vs : List LineRef) → xs ++ ys ≡ lines → after (nothing sizes) us ≡ after (nothing sizes) xs → (us ++ l ∷ []) ++ vs ≡ lines
      → (zs : List LineRef) × ((xs ++ l ∷ []) ++ zs ≡ lines)
  exchange l xs ys us vs e p f = there_ready (after (nothing sizes) xs) l xs ys refl e (ready_there (after (nothing sizes) xs) l us vs p f)
