-- A walk along rows whose last part reaches as far right as possible.
use Rattle.std.proofs.Common.{◌≡◌, ◌++◌, ◌≤◌}
use Rattle.reading_trees.specs.Trees.{Tree}
use Rattle.reading_trees.specs.TreeSizes.{tree_size}
use Rattle.names_free.specs.Gathered.{NameList, gather}

-- from the names that were hidden and those that were found around a tree to those around the last part of a row in it
pub record Walks (hs ns : NameList) (t : Tree) (hs' ns' : NameList) (t' : Tree) : Type 0 where
  pub same : gather hs' ns' t' ≡ gather hs ns t
  pub more : NameList
  pub grown : hs' ≡ hs ++ more
  pub within : tree_size t' ≤ tree_size t
