-- Marks name one order, and which mark is wrong.
use Rattle.std.proofs.Common.{◌≡◌, ◌≢◌, inl, inr, ℕ, zero, suc, ◌≤◌, List, [], ◌∷◌, ◌++◌, length, length-append, take, Option, Some, ap, sym, ◌∙◌, subst, refl, arith}
use Rattle.std.specs.List.{AllZip, slice_get}
use Rattle.base_clock_order.specs.declared.order.LineRef.{LineRef}
use Rattle.base_cuts.specs.Cuts.{Cut, after, next}
use Rattle.base_cuts.specs.Orders.{IsAllowed, IsMade, IsReadyAt, Order, start}
use Rattle.states_core.specs.declared.state.Shown.{Shown}
use Rattle.base_core.specs.declared.place.LineAt.{LineAt}
use Rattle.logs_tied.specs.Lines.{HaveOwnPlaces, IsLined, StandsIn}
use Rattle.logs_updates.specs.declared.line.Line.{Line}
use Rattle.logs_tied.specs.Laws.{NameOneOrder, UnreadyIsWrong}
use Rattle.logs_tied.specs.Named.{IsChosen, IsNamed, KeepsTo, names}
use Rattle.base_cuts.proofs.Growing.{nat_lt_or}
use Rattle.base_cuts.proofs.Rules.{place, some_is}
use Rattle.logs_tied.proofs.Zips.{one_line, zip_at, zip_back, zip_long}
use Rattle.base_cuts.proofs.Lengths.{as_long, next_is}
use Rattle.base_cuts.proofs.Ready.{goes_on}

le_both : (m n : ℕ) → m ≤ n → n ≤ m → m ≡ n
le_both m n h k = omega (arith, h, k)

-- lists that are as long and have the same at each place are one
same_lists : {X : Type 0} (xs ys : List X) → length xs ≡ length ys → ((n : ℕ) (x y : X) → slice_get xs n ≡ Some x → slice_get ys n ≡ Some y → take n xs ≡ take n ys → x ≡ y) → xs ≡ ys
same_lists [] [] long h = refl
same_lists [] (y ∷ ys) long h = absurd (omega (arith, long))
same_lists (x ∷ xs) [] long h = absurd (omega (arith, long))
same_lists {X} (x ∷ xs) (y ∷ ys) long h =
    let first : x ≡ y = h 0 x y refl refl refl in
    let rest = same_lists xs ys (omega (arith, long)) (λ n a b e f t. h (suc n) a b e f (λ i. first i ∷ t i)) in
    λ i. first i ∷ rest i

same_zip : (files : List (List Line)) (xs : List LineRef) (ys zs : List Line) → AllZip (StandsIn files) xs ys → AllZip (StandsIn files) xs zs → ys ≡ zs
same_zip files [] [] [] h k = refl
same_zip files [] (y ∷ ys) zs h k = absurd h
same_zip files [] [] (z ∷ zs) h k = absurd k
same_zip files (x ∷ xs) [] zs h k = absurd h
same_zip files (x ∷ xs) (y ∷ ys) [] h k = absurd k
same_zip files (x ∷ xs) (y ∷ ys) (z ∷ zs) h k =
    let first = one_line files x y z h.0 k.0 in
    let rest = same_zip files xs ys zs h.1 k.1 in
    λ i. first i ∷ rest i

module _ (files : List (List Line)) (o : Order) (made : IsMade o) where
  same_file : (c : Cut) (l m : LineRef) → IsReadyAt o c l → IsReadyAt o c m → l.file ≡ m.file → l ≡ m
  same_file c l m r s e = next_is o made c l r ∙ ap (next c) e ∙ sym (next_is o made c m s)

  one_chosen : HaveOwnPlaces files → (c : Cut) (at : Option LineAt) (l m : LineRef) → IsChosen files o c at l → IsChosen files o c at m → l ≡ m
  one_chosen own c at l m (r, inl h) (s, inl k) = own l m h.0 k.0 h.1 k.1 (some_is (sym h.2 ∙ k.2))
  one_chosen own c at l m (r, inl h) (s, inr k) = absurd (k.0 l r h)
  one_chosen own c at l m (r, inr h) (s, inl k) = absurd (h.0 m s k)
  one_chosen own c at l m (r, inr h) (s, inr k) = same_file c l m r s (le_both l.file m.file (h.1 m s) (k.1 l r))

  one_order : HaveOwnPlaces files → (w : List Shown) (p q : List LineRef) → IsAllowed o p → IsAllowed o q → KeepsTo files o w p → KeepsTo files o w q → p ≡ q
  one_order own w p q a b h k =
      same_lists p q (as_long o made p a ∙ sym (as_long o made q b)) (λ n l m e f same.
      one_chosen own (after (start o) (take n q)) (slice_get (names w) n) l m
      (subst (λ (xs : List LineRef). IsChosen files o (after (start o) xs) (slice_get (names w) n) l) same (h n l e)) (k n m f))

  module _ (w : List Shown) (order : List LineRef) (lines : List Line) (lined : IsLined files o order lines) (keeps : KeepsTo files o w order) (n : ℕ) (at : LineAt) (named : slice_get (names w) n ≡ Some at) where
    take_all : (xs : List LineRef) (i : ℕ) → length xs ≤ i → take i xs ≡ xs
    take_all [] zero h = refl
    take_all [] (suc i) h = refl
    take_all (x ∷ xs) zero h = absurd (omega (arith, h))
    take_all (x ∷ xs) (suc i) h = ap (λ (zs : List LineRef). x ∷ zs) (take_all xs i (omega (arith, h)))

    nil_end : (xs : List LineRef) → xs ++ [] ≡ xs
    nil_end [] = refl
    nil_end (x ∷ xs) = ap (λ (zs : List LineRef). x ∷ zs) (nil_end xs)

    -- behind all lines none is ready
    none_behind : length lines ≤ n → (l : LineRef) → IsReadyAt o (after (start o) (take n order)) l → ⊥
    none_behind h l r =
        let long : length lines ≡ length order = zip_long (StandsIn files) order lines lined.stand in
        let all : take n order ≡ order = take_all order n (omega (arith, h, long)) in
        let more = goes_on o made order l ([], subst (IsAllowed o) (sym (nil_end order)) lined.allowed) (subst (λ (xs : List LineRef). IsReadyAt o (after (start o) xs) l) all r) in
        let a = as_long o made order lined.allowed in
        let b = as_long o made ((order ++ l ∷ []) ++ more.0) more.1 in
        let c = length-append (order ++ l ∷ []) more.0 in
        let d = length-append order (l ∷ []) in
        omega (arith, a, b, c, d)

    -- the line that stands there is not the one that is named
    chosen : (m : LineRef) → slice_get order n ≡ Some m → ((line : Line) → slice_get lines n ≡ Some line → at ≢ line.at) → IsChosen files o (after (start o) (take n order)) (slice_get (names w) n) m
        → (l : LineRef) → IsReadyAt o (after (start o) (take n order)) l → IsNamed files (Some at) l → ⊥
    chosen m e h (s, inl k) l r j =
        let line = zip_at (StandsIn files) order lines n m lined.stand e in
        let same : line.0 ≡ k.0 = one_line files m line.0 k.0 line.2 k.1 in
        h line.0 line.1 (some_is (sym named ∙ k.2) ∙ sym (ap (λ (x : Line). x.at) same))
    chosen m e h (s, inr k) l r j = k.0 l r (j.0, j.1, named ∙ j.2)

    to_unready : ((line : Line) → slice_get lines n ≡ Some line → at ≢ line.at) → (l : LineRef) → IsReadyAt o (after (start o) (take n order)) l → IsNamed files (Some at) l → ⊥
    to_unready h l r k = elim (nat_lt_or n (length lines)) [
      | inl less ↦
          let long : length lines ≡ length order = zip_long (StandsIn files) order lines lined.stand in
          let there = place order n (omega (arith, less, long)) in
          chosen there.0 there.1 h (keeps n there.0 there.1) l r k
      | inr over ↦ none_behind over l r
    ]

    to_wrong : ((l : LineRef) → IsReadyAt o (after (start o) (take n order)) l → IsNamed files (Some at) l → ⊥) → (line : Line) → slice_get lines n ≡ Some line → at ≢ line.at
    to_wrong h line e same =
        let there = zip_back (StandsIn files) order lines n line lined.stand e in
        h there.0 (keeps n there.0 there.1).0 (line, there.2, ap Some same)

pub name_one_order : NameOneOrder
name_one_order files o made own w p q ps qs lp lq h k =
    let same = one_order files o made own w p q lp.allowed lq.allowed h k in
    (same, same_zip files q ps qs (subst (λ (xs : List LineRef). AllZip (StandsIn files) xs ps) same lp.stand) lq.stand)

pub unready_is_wrong : UnreadyIsWrong
unready_is_wrong files o made w order lines lined keeps n at named = (to_unready files o made w order lines lined keeps n at named, to_wrong files o made w order lines lined keeps n at named)
