-- Where a clock falls behind another.
use Rattle.std.specs.Prelude.{◌≡◌, ◌≤◌, ◌<◌, ◌++◌, ℕ, List, ◌∷◌, All}
use Rattle.base_clocks.specs.Stamps.{number}
use Rattle.base_clocks.specs.declared.stamp.Stamp.{Stamp}

-- The first of what the clock says that the other says less of: this of the node. Of a clock that is read from JSON, whose names
-- ascend, it is the first such node in the order of their bytes.
pub record IsFirstFall (u v : List Stamp) (node : List ℕ) : Type 0 where
  pub before : List Stamp
  pub at : Stamp
  pub behind : List Stamp
  pub parts : u ≡ before ++ at ∷ behind
  pub is : node ≡ at.node
  pub falls : number v node < at.number
  pub first : All (λ s. s.number ≤ number v s.node) before
