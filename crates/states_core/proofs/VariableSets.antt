-- A set of variables with one more in it, and that none from 64 on is in one.
use Rattle.std.proofs.Common.{◌≡◌, ◌⊎◌, ◌<◌, ◌≤◌, ◌*◌, ◌%◌, ℕ, bit_or, w64, inl, inr, sym, subst, ◌∙◌, arith}
use Rattle.std.specs.Prelude.{◌≢◌, ◌^◌, IsTrue, false}
use Rattle.std.proofs.lemmas.Bool.{false≢true}
use Rattle.std.proofs.lemmas.Bool.Decides.{eqb_tells}
use Rattle.std.proofs.lemmas.Nat.Bits.{bit_at_above, bit_at_set_same, bit_at_set_other}
use Rattle.states_core.specs.VarSets.{Has}

abbrev GoesOn : ℕ → ℕ → ℕ → Type 0
GoesOn n k x = (Has (bit_or n (1 * 2 ^ k % 18446744073709551616)) x → (x ≡ k) ⊎ Has n x) × ((x ≡ k) ⊎ Has n x → Has (bit_or n (1 * 2 ^ k % 18446744073709551616)) x)

at_it : (n k : ℕ) → k < 64 → (x : ℕ) → x ≡ k → GoesOn n k x
at_it n k within x is = ((λ h. inl is), (λ o. subst (λ (a : ℕ). Has (bit_or n (1 * 2 ^ k % 18446744073709551616)) a) (sym is) (bit_at_set_same w64 n k within)))

beside : (n k : ℕ) → k < 64 → (x : ℕ) → x ≢ k → GoesOn n k x
beside n k within x other = (
  (λ h. inr (sym (bit_at_set_other w64 n k within x other) ∙ h)),
  (λ o. elim o [
    | inl is ↦ absurd (other is)
    | inr h ↦ bit_at_set_other w64 n k within x other ∙ h
  ]),
)

pub one_more : (n k : ℕ) → k < 64 → (x : ℕ) → GoesOn n k x
one_more n k within x = elim (eqb_tells x k) [
  | inl t ↦ at_it n k within x t.1
  | inr t ↦ beside n k within x t.1
]

pub none_above : (n k : ℕ) → n < 2 ^ 64 → 64 ≤ k → (IsTrue false → Has n k) × (Has n k → IsTrue false)
none_above n k small above = ((λ t. absurd (false≢true t)), (λ h. absurd (omega (arith, bit_at_above n 64 k small above, h))))
