-- That no clock falls, log by log and clock by clock.
use Rattle.std.proofs.Common.{◌≡◌, ℕ, zero, suc, ◌<◌, ℤ, ◌≤ℤ◌, List, [], ◌∷◌, Some, sym, ◌∙◌, subst, arith}
use Rattle.std.specs.List.{AllByRecursion, slice_get}
use Rattle.base_clock_order.specs.Orders.{Clocks, NoneFalls}

abbrev pub Rises : List ℤ → Type 0
Rises log = (i j : ℕ) (c d : ℤ) → i < j → slice_get log i ≡ Some c → slice_get log j ≡ Some d → c ≤ℤ d

some_is : {X : Type 0} {x y : X} → Some x ≡ Some y → x ≡ y
some_is e = cc

module _ {X : Type 0} (P : X → Type 0) where
  pub at_each : (xs : List X) (i : ℕ) (x : X) → AllByRecursion P xs → slice_get xs i ≡ Some x → P x
  at_each [] i x h e = cc
  at_each (y ∷ ys) zero x h e = subst P (some_is e) h.0
  at_each (y ∷ ys) (suc i) x h e = at_each ys i x h.1 e

pub none_rises : Rises []
none_rises i j c d l e f = cc

pub one_more_rises : (c : ℤ) (cs : List ℤ) → AllByRecursion (λ d. c ≤ℤ d) cs → Rises cs → Rises (c ∷ cs)
one_more_rises c cs above rest i zero a b l e f = absurd (omega (arith, l))
one_more_rises c cs above rest zero (suc j) a b l e f = subst (λ (x : ℤ). x ≤ℤ b) (some_is e) (at_each (λ (d : ℤ). c ≤ℤ d) cs j b above f)
one_more_rises c cs above rest (suc i) (suc j) a b l e f = rest i j a b (omega (arith, l)) e f

pub rising : (clocks : Clocks) → AllByRecursion Rises clocks → NoneFalls clocks
rising clocks each l i c d less p q =
    let log : p.0 ≡ q.0 = some_is (sym p.1 ∙ q.1) in
    at_each Rises clocks l.file p.0 each p.1 l.index i c d less p.2 (subst (λ (w : List ℤ). slice_get w i ≡ Some d) (sym log) q.2)
