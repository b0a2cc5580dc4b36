-- Numbers and vectors as clocks.
use Rattle.std.proofs.Common.{◌≢◌, ◌⊎◌, inl, inr, ℕ, ◌<◌, ◌≤◌, ℤ, pos, negsuc, ◌<ℤ◌, ◌≤ℤ◌, List, sym, refl, arith}
use Rattle.std.proofs.lemmas.Int.{ints}
use Rattle.base_clocks.specs.Stamps.{IsAbove, IsAtMost, number}
use Rattle.base_clocks.specs.declared.stamp.Stamp.{Stamp}
use Rattle.base_clocks.proofs.Deciding.{above_or}
use Rattle.base_cuts.specs.Orders.{IsGreater}
use Rattle.base_cuts.proofs.Rules.{AreClocks}
use Rattle.base_cuts.proofs.Growing.{nat_lt_or}

int_two : (c d : ℤ) → (d <ℤ c) ⊎ (d <ℤ c → ⊥)
int_two (pos m) (pos n) = elim (nat_lt_or n m) [ inl l ↦ inl (omega (arith, ints, l)) | inr h ↦ inr (λ k. omega (arith, ints, h, k)) ]
int_two (pos m) (negsuc n) = inl (omega (arith, ints))
int_two (negsuc m) (pos n) = inr (λ k. omega (arith, ints, k))
int_two (negsuc m) (negsuc n) = elim (nat_lt_or m n) [ inl l ↦ inl (omega (arith, ints, l)) | inr h ↦ inr (λ k. omega (arith, ints, h, k)) ]

pub numbers : AreClocks (λ c d. c ≤ℤ d) IsGreater
numbers = record {
  down = λ u v w h k. omega (arith, ints, h, k);
  never = λ u h. omega (arith, ints, h);
  across = λ u v w h k. omega (arith, ints, h, k);
  decides = int_two;
}

strict : (m n : ℕ) → m ≤ n → m ≢ n → m < n
strict m n h d = elim (nat_lt_or m n) [ inl l ↦ l | inr k ↦ absurd (d (omega (arith, h, k))) ]

-- where a vector is above another, a node has a greater number
greater : (u v : List Stamp) → IsAbove u v → (n : List ℕ) × (number v n < number u n)
greater u v a = (a.node, strict (number v a.node) (number u a.node) (a.at_least a.node) (λ e. a.differs (sym e)))

pub vectors : AreClocks IsAtMost IsAbove
vectors = record {
  down = λ u v w h k. let g = greater w v k in let less = g.1 in record {
    at_least = λ n. let p = h n in let q = k.at_least n in omega (arith, p, q);
    node = g.0;
    differs = λ e. let p = h g.0 in omega (arith, p, less, e);
  };
  never = λ u a. a.differs refl;
  across = λ u v w h k. let g = greater u v h in let less = g.1 in record {
    at_least = λ n. let p = h.at_least n in let q = k.at_least n in omega (arith, p, q);
    node = g.0;
    differs = λ e. let p = k.at_least g.0 in omega (arith, p, less, e);
  };
  decides = above_or;
}
