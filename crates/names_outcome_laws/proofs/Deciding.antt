-- What is so or is not so.
use Rattle.std.proofs.Common.{refl, inl, inr, ◌⊎◌}
use Rattle.std.specs.Prelude.{◌↔◌, Bool, true, false, IsTrue}

-- one or the other
abbrev pub Decided : Type 0 → Type 0
Decided P = P ⊎ (¬ P)

pub turned : {P Q : Type 0} → P ↔ Q → Decided P → Decided Q
turned e (inl p) = inl (e.0 p)
turned e (inr n) = inr (λ q. n (e.1 q))

pub either_or : {P Q : Type 0} → Decided P → Decided Q → Decided (P ⊎ Q)
either_or (inl p) d = inl (inl p)
either_or (inr n) (inl q) = inl (inr q)
either_or (inr n) (inr m) = inr (λ h. elim h [ inl p ↦ n p | inr q ↦ m q ])

pub both_or : {P Q : Type 0} → Decided P → Decided Q → Decided (P × Q)
both_or (inl p) (inl q) = inl (p, q)
both_or (inl p) (inr m) = inr (λ h. m h.1)
both_or (inr n) d = inr (λ h. n h.0)

abbrev pub mark_of : {P : Type 0} → Decided P → Bool
mark_of (inl p) = true
mark_of (inr n) = false

pub untrue : IsTrue false → ⊥
untrue h = cc

pub mark_tells : {P : Type 0} (d : Decided P) → IsTrue (mark_of d) ↔ P
mark_tells (inl p) = (λ h. p, λ h. refl)
mark_tells (inr n) = (λ h. absurd (untrue h), λ p. absurd (n p))
