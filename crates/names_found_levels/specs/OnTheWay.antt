-- For the prover: marks on the way from none to the least ones.
use Rattle.std.specs.Prelude.{Bool, List}
use Rattle.reading_trees.specs.declared.expr.Definition.{Definition}
use Rattle.names_least_levels.specs.declared.told.NameLevel.{NameLevel}
use Rattle.names_least_levels.specs.Levels.{each_rises, AreLevels, AtMost}

-- the next ones have each of them, and so have all that are levels
pub record Stands (names : List NameLevel) (ds : List Definition) (bs : List Bool) : Type 0 where
  pub up : AtMost bs (each_rises names bs ds)
  pub under : (xs : List Bool) → AreLevels names ds xs → AtMost bs xs
