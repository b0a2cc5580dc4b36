-- The law of least levels.
use Rattle.std.specs.Prelude.{◌≡◌, Bool, List}
use Rattle.reading_trees.specs.declared.expr.Definition.{Definition}
use Rattle.names_least_levels.specs.declared.told.NameLevel.{NameLevel}
use Rattle.names_least_levels.specs.Levels.{AreLeast, levels_of}

-- every program has least levels, which are found from no mark on, and no others
pub record HaveLeast (names : List NameLevel) (ds : List Definition) : Type 0 where
  pub found : AreLeast names ds (levels_of names ds)
  pub only : (bs : List Bool) → AreLeast names ds bs → bs ≡ levels_of names ds

abbrev pub AllHaveLeast : Type 0
AllHaveLeast = (names : List NameLevel) (ds : List Definition) → HaveLeast names ds
