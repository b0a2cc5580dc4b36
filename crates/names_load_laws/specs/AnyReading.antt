-- What a program is that is loaded by any reading of the text of a module.
use Rattle.std.specs.Prelude.{◌≢◌, ◌≤◌, ℕ, length, List, [], All, Option, Ok}
use Rattle.base_core.specs.Device.{File}
use Rattle.reading_trees.specs.declared.module.Module.{Module}
use Rattle.reading_modules.specs.declared.loading.Loaded.{Loaded}
use Rattle.reading_modules.specs.Loads.{LoadsBy}
use Rattle.reading_modules.specs.Readings.{Reading}
use Rattle.names_program.specs.InUnits.{definitions_in}
use Rattle.names_program.specs.Names.{names_defined}
use Rattle.names_specification_laws.specs.Formed.{UnitsAreFormed}
use Rattle.names_resolved_laws.specs.InOrder.{IsWellFormed}

-- the trees of a module that a text spells are those of the grammar, and each definition has a name
pub record SpellsFormed {N : Type 0} (reading : Reading N) : Type 0 where
  pub formed : (number : ℕ) (bytes : List ℕ) (m : Module) (notes : List N) → reading.Spells number bytes m notes → UnitsAreFormed m.units
  pub named : (number : ℕ) (bytes : List ℕ) (m : Module) (notes : List N) → reading.Spells number bytes m notes
      → All (λ n. n ≢ []) (names_defined (definitions_in m.units))

abbrev pub LoadedAreWellFormedBy : {N : Type 0} → Reading N → Type 0
LoadedAreWellFormedBy {N} reading =
    (holds : Option (List File)) (before now : ℕ) (path : List ℕ) (l : Loaded N) → LoadsBy reading holds before now path (Ok l) → IsWellFormed l.program.program

abbrev pub LoadedHaveFewFilesBy : {N : Type 0} → Reading N → Type 0
LoadedHaveFewFilesBy {N} reading =
    (holds : Option (List File)) (before now : ℕ) (path : List ℕ) (l : Loaded N) → LoadsBy reading holds before now path (Ok l) → length l.program.program.files ≤ 32
