-- For the prover: a line that may be taken next, told by the next lines of the logs alone.
use Rattle.std.specs.Prelude.{◌≡◌, ◌⊎◌, ◌≤◌, ℕ, List, [], ◌∷◌}
use Rattle.base_clock_order.specs.Orders.{line}
use Rattle.base_clock_order.specs.declared.order.LineRef.{LineRef}
use Rattle.base_cuts.specs.Cuts.{Cut, IsLineOf, next, with_one}
use Rattle.base_cuts.specs.Orders.{Carries}

-- the log f has a next line, and it must follow the next line of no log
pub record IsLeast (sizes : Cut) (MustFollow : LineRef → LineRef → Type 0) (c : Cut) (f : ℕ) : Type 0 where
  pub is : IsLineOf sizes (next c f)
  pub least : (g : ℕ) → IsLineOf sizes (next c g) → MustFollow (next c f) (next c g) → ⊥

-- each of the lines is the next of its log, and such, at the cut of those before it
abbrev pub AreTaken : Cut → (LineRef → LineRef → Type 0) → Cut → List LineRef → Type 0
AreTaken sizes MustFollow c [] = Unit {0}
AreTaken sizes MustFollow c (l ∷ ls) = (l ≡ next c l.file) × IsLeast sizes MustFollow c l.file × AreTaken sizes MustFollow (with_one c l.file) ls

-- what a rule has by which the next lines of the logs are enough
pub record IsRule (sizes : Cut) (MustFollow : LineRef → LineRef → Type 0) : Type 0 where
  -- what must follow a line must follow the earlier lines of its log
  pub down : (a b : LineRef) (i : ℕ) → IsLineOf sizes a → IsLineOf sizes b → i ≤ b.index → MustFollow a b → MustFollow a (line b.file i)
  pub never : (a : LineRef) → IsLineOf sizes a → MustFollow a a → ⊥
  pub across : (a b c : LineRef) → IsLineOf sizes a → IsLineOf sizes b → IsLineOf sizes c → MustFollow a b → MustFollow b c → MustFollow a c
  pub decides : (a b : LineRef) → IsLineOf sizes a → IsLineOf sizes b → MustFollow a b ⊎ (MustFollow a b → ⊥)

-- the next line of the log has a clock below this one
abbrev pub HasBelow : {K : Type 0} → (K → K → Type 0) → List (List K) → Cut → ℕ → K → Type 0
HasBelow {K} Above clocks c f clock = (d : K) × Carries clocks (next c f) d × Above clock d
