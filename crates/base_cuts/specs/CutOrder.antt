-- For the prover: cuts compared as lists of numbers, and what they feed to a hasher.
use Rattle.std.specs.Prelude.{◌≡◌, ℕ, Bool, List, IsTrue, Decides, nat_eq, true}
use Rattle.std.specs.Cmp.Lexicographic.{pointwise, pointwise_decides}
use Rattle.std.specs.Hash as fed
use Rattle.std.specs.Hash.{HashWrites}
use Rattle.std.proofs.Common.{subst}
use Rattle.std.proofs.lemmas.Cmp.{nat_eq_equiv}
use Rattle.std.proofs.lemmas.Bool.{eqb-true}

abbrev pub cut_eq : List ℕ → List ℕ → Bool
cut_eq = pointwise nat_eq

abbrev pub cut_input : List ℕ → HashWrites
cut_input = fed.slice fed.u32

nat_same : (a b : ℕ) → nat_eq a b ≡ true → a ≡ b
nat_same a b h = eqb-true a b h

nats_decide : (a b : ℕ) → Decides (nat_eq a b) (a ≡ b)
nats_decide a b = (nat_same a b, λ e. subst (λ (v : ℕ). IsTrue (nat_eq a v)) e (nat_eq_equiv.refl a))

-- cuts are equal exactly where they compare so
pub cut_decides : (c d : List ℕ) → Decides (cut_eq c d) (c ≡ d)
cut_decides = pointwise_decides nats_decide
