-- A walk along rows whose last part reaches as far right as possible.
use Rattle.std.proofs.Common.{◌≡◌, ◌++◌, ◌≤◌, Bool}
use Rattle.names_least_levels.specs.Rising.{Rising}
use Rattle.reading_trees.specs.Trees.{Tree}
use Rattle.reading_trees.specs.TreeSizes.{tree_size}
use Rattle.names_found_levels.specs.Raised.{Marks, raise}

-- from what is known around a tree, and whether something was above level 0, to the same of the last part of a row in it
pub record Walks (g : Rising) (hs : Marks) (b : Bool) (t : Tree) (hs' : Marks) (b' : Bool) (t' : Tree) : Type 0 where
  pub same : raise g hs' b' t' ≡ raise g hs b t
  pub more : Marks
  pub grown : hs' ≡ hs ++ more
  pub within : tree_size t' ≤ tree_size t
