-- How the tasks that are left get fewer.
use Rattle.std.proofs.Common.{◌≡◌, ℕ, zero, suc, ◌+◌, ◌<◌, ◌≤◌, Bool, true, false, List, [], ◌∷◌, length, get_or, set, if◌then◌else◌, refl, arith}
use Rattle.base_use_order.specs.Uses.{Table, used_by}
use Rattle.base_use_order.specs.Weights.{weight}

module _ {A : Type 0} (waits : A → Bool) where
  one : (b : Bool) (n : ℕ) → b ≡ true → (if b then n else 0) ≡ n
  one true n e = refl
  one false n e = cc

  none : (b : Bool) (n : ℕ) → b ≡ false → (if b then n else 0) ≡ 0
  none true n e = cc
  none false n e = refl

  pub weight_falls : (ms : List A) (uses : Table) (i : ℕ) (x d : A) → waits (get_or ms i d) ≡ true → waits x ≡ false → i < length ms → length ms ≡ length uses
      → weight waits (set ms i x) uses + (2 + length (used_by uses i)) ≡ weight waits ms uses
  weight_falls [] uses i x d w v l e = absurd (omega arith)
  weight_falls (m ∷ ms) [] i x d w v l e = absurd (omega arith)
  weight_falls (m ∷ ms) (u ∷ us) zero x d w v l e = omega (arith, one (waits m) (2 + length u) w, none (waits x) (2 + length u) v)
  weight_falls (m ∷ ms) (u ∷ us) (suc i) x d w v l e = omega (arith, weight_falls ms us i x d w v (omega arith) (omega arith))

  pub weight_never_rises : (ms : List A) (uses : Table) (i : ℕ) (x : A) → waits x ≡ false → weight waits (set ms i x) uses ≤ weight waits ms uses
  weight_never_rises [] uses i x v = omega arith
  weight_never_rises (m ∷ ms) [] zero x v = omega arith
  weight_never_rises (m ∷ ms) [] (suc i) x v = omega arith
  weight_never_rises (m ∷ ms) (u ∷ us) zero x v = omega (arith, none (waits x) (2 + length u) v)
  weight_never_rises (m ∷ ms) (u ∷ us) (suc i) x v = omega (arith, weight_never_rises ms us i x v)
