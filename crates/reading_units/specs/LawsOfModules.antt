-- The laws of laid tokens and the modules that they spell.
use Rattle.std.specs.Prelude.{◌≡◌, List}
use Rattle.base_core.specs.declared.place.Place.{Place}
use Rattle.reading_trees.specs.declared.laid.Laid.{Laid}
use Rattle.reading_trees.specs.declared.module.Module.{Module}
use Rattle.reading_trees.specs.Modules.{SpellsModule}
use Rattle.reading_expressions.specs.declared.fault.ParseFault.TheVariants.{TooNested}
use Rattle.reading_units.specs.Refusals.{IsRefusedModule, ShallowWholeModule}

-- laid tokens spell one module
abbrev pub OneModule : Type 0
OneModule = (laid : List Laid) (m n : Module) → SpellsModule m laid → SpellsModule n laid → m ≡ n

-- where each token of a module stands inside few enough unfinished constructs, none is refused because it stands inside too many
abbrev pub ShallowNotRefused : Type 0
ShallowNotRefused = (laid : List Laid) (p : Place) → ShallowWholeModule laid → ¬ (IsRefusedModule laid (TooNested p))
