-- What a text of the grammar begins with.
use Rattle.std.specs.Prelude.{List, [], ◌++◌}
use Rattle.reading_trees.specs.declared.laid.Laid.{Laid}
use Rattle.reading_trees.specs.declared.module.Module.{Module}
use Rattle.reading_trees.specs.Trees.{Tree}
use Rattle.reading_trees.specs.Grammar.{Text}
use Rattle.reading_trees.specs.Modules.{ModuleTextBy, SomeText, SpellsModule}

-- these laid tokens are the beginning of the text of an expression; the ranges of operators play no part
pub record Begun (read : List Laid) : Type 0 where
  pub tree : Tree
  pub rest : List Laid
  pub whole : Text tree (read ++ rest) []

-- these laid tokens are the beginning of the text of a module; the ranges of operators play no part
pub record BegunModule (read : List Laid) : Type 0 where
  pub read_as : Module
  pub rest : List Laid
  pub text : ModuleTextBy SomeText read_as (read ++ rest) []

-- these laid tokens are the beginning of the text of a module whose operators fit their ranges
pub record FittingBegunModule (read : List Laid) : Type 0 where
  pub read_as : Module
  pub rest : List Laid
  pub spelled : SpellsModule read_as (read ++ rest)
