-- What a text spells is formed.
use Rattle.std.specs.Prelude.{List}
use Rattle.reading_trees.specs.declared.laid.Laid.{Laid}
use Rattle.reading_trees.specs.declared.module.Module.{Module}
use Rattle.reading_trees.specs.Trees.{Tree}
use Rattle.reading_trees.specs.Fits.{Spells}
use Rattle.reading_trees.specs.Modules.{SpellsModule}
use Rattle.names_specification_laws.specs.Formed.{IsFormed, UnitsAreFormed}

-- a tree that a text spells
abbrev pub SpelledAreFormed : Type 0
SpelledAreFormed = (t : Tree) (from behind : List Laid) → Spells t from behind → IsFormed t

-- each tree of a module that a text spells
abbrev pub ModulesAreFormed : Type 0
ModulesAreFormed = (m : Module) (laid : List Laid) → SpellsModule m laid → UnitsAreFormed m.units
