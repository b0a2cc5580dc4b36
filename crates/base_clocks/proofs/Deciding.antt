-- Whether a clock is above another can be told.
use Rattle.std.proofs.Common.{◌≡◌, ◌⊎◌, inl, inr, ℕ, suc, ◌<◌, ◌≤◌, Bool, true, false, List, [], ◌∷◌, subst, refl, arith}
use Rattle.std.specs.Prelude.{max, if◌then◌else◌}
use Rattle.std.specs.Str.{bytes_eq}
use Rattle.base_core.specs.Texts.{same_bytes}
use Rattle.base_clocks.specs.Stamps.{IsAbove, IsAtMost, number}
use Rattle.base_clocks.specs.declared.stamp.Stamp.{Stamp}

less_or : (m n : ℕ) → (m < n) ⊎ (n ≤ m)
less_or m n = grind arith

-- the numbers of u at the nodes that a list names are at most those of v
abbrev OverNames : List Stamp → List Stamp → List Stamp → Type 0
OverNames u v [] = Unit {0}
OverNames u v (s ∷ ss) = (number u s.node ≤ number v s.node) × OverNames u v ss

over : (u v ss : List Stamp) → OverNames u v ss ⊎ ((n : List ℕ) × (number v n < number u n))
over u v [] = inl tt
over u v (s ∷ ss) = elim (less_or (number v s.node) (number u s.node)) [
  | inl l ↦ inr (s.node, l)
  | inr h ↦ elim (over u v ss) [ inl k ↦ inl (h, k) | inr w ↦ inr w ]
]

named : (u v : List Stamp) (s : Stamp) (ss : List Stamp) (n : List ℕ) (b : Bool) → bytes_eq s.node n ≡ b → number u s.node ≤ number v s.node
    → (number u n ≤ number v n) ⊎ (number ss n ≡ 0) → (number u n ≤ number v n) ⊎ ((if b then max s.number (number ss n) else number ss n) ≡ 0)
named u v s ss n true e h r = inl (subst (λ m. number u m ≤ number v m) (same_bytes s.node n e) h)
named u v s ss n false e h r = r

-- a node that the list does not name has the number 0
every : (u v ss : List Stamp) (n : List ℕ) → OverNames u v ss → (number u n ≤ number v n) ⊎ (number ss n ≡ 0)
every u v [] n h = inr refl
every u v (s ∷ ss) n h = named u v s ss n (bytes_eq s.node n) refl h.0 (every u v ss n h.1)

at_most_or : (u v : List Stamp) → IsAtMost u v ⊎ ((n : List ℕ) × (number v n < number u n))
at_most_or u v = elim (over u v u) [
  | inl h ↦ inl (λ n. elim (every u v u n h) [ inl k ↦ k | inr z ↦ omega (arith, z) ])
  | inr w ↦ inr w
]

pub above_or : (u v : List Stamp) → IsAbove u v ⊎ (IsAbove u v → ⊥)
above_or u v = elim (at_most_or v u) [
  | inl h ↦ elim (at_most_or u v) [
    | inl k ↦ inr (λ a. a.differs (let p = h a.node in let q = k a.node in omega (arith, p, q)))
    | inr w ↦ let less = w.1 in inl (record { at_least = h; node = w.0; differs = λ e. omega (arith, less, e) })
  ]
  | inr w ↦ let less = w.1 in inr (λ a. let p = a.at_least w.0 in omega (arith, p, less))
]
