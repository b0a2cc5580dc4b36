-- Clocks of several nodes: how many lines of each node a line comes behind, as far as its writer knows.
use Rattle.std.specs.Prelude.{◌≢◌, ◌≤◌, ℕ, List, [], ◌∷◌, max, if◌then◌else◌}
use Rattle.std.specs.Str.{bytes_eq}
use Rattle.base_clocks.specs.declared.stamp.Stamp.{Stamp}

-- The number that the clock gives the node: the greatest, and 0 where it does not name the node.
abbrev pub number : List Stamp → List ℕ → ℕ
number [] node = 0
number (s ∷ ss) node = if bytes_eq s.node node then max s.number (number ss node) else number ss node

-- For the prover: the greater of a number so far and that of the stamp, where it is of the node.
abbrev pub number_so_far : ℕ → Stamp → List ℕ → ℕ
number_so_far greatest s node = if bytes_eq s.node node then max greatest s.number else greatest

-- no node has a greater number in the first clock than in the second
abbrev pub IsAtMost : List Stamp → List Stamp → Type 0
IsAtMost u v = (node : List ℕ) → number u node ≤ number v node

-- the second clock is at most the first, and they differ at a node
pub record IsAbove (u v : List Stamp) : Type 0 where
  pub at_least : IsAtMost v u
  pub node : List ℕ
  pub differs : number u node ≢ number v node
