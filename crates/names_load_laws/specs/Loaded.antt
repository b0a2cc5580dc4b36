-- What `load` and `config` accept is what `resolve` asks for.
use Rattle.std.specs.Prelude.{◌≤◌, ℕ, Bool, length, List, [], Option, Some, None, Ok, codes}
use Rattle.base_core.specs.Device.{File}
use Rattle.reading_trees.specs.declared.config.Config.{Config}
use Rattle.reading_trees.specs.declared.module.WholeProgram.{WholeProgram}
use Rattle.reading_wide_configuration.specs.Wide.{ReadsBy}
use Rattle.reading_modules.specs.Loads.{Loads}
use Rattle.names_resolved_laws.specs.InOrder.{IsWellFormed}
use Rattle.names_tables.specs.Values.{AreSpelled}
use Rattle.names_resolving.specs.Resolved.{IsOneForm}

-- each value that a configuration writes that is accepted, with `--wide` or without it, is one within the limits of values
abbrev pub ConfigurationsAreSpelled : Type 0
ConfigurationsAreSpelled = (wide : Bool) (file : ℕ) (name text : List ℕ) (c : Config) → ReadsBy wide file name text (Ok c) → AreSpelled c.givens

-- an accepted configuration has SPECIFICATION alone, or INIT and NEXT without it
abbrev pub ConfigurationsHaveOneForm : Type 0
ConfigurationsHaveOneForm = (wide : Bool) (file : ℕ) (name text : List ℕ) (c : Config) → ReadsBy wide file name text (Ok c) → IsOneForm c

-- a program that is loaded is one as the reader gives it
abbrev pub LoadedAreWellFormed : Type 0
LoadedAreWellFormed = (holds : Option (List File)) (before now : ℕ) (path : List ℕ) (p : WholeProgram) → Loads holds before now path (Ok p) → IsWellFormed p.program

-- it has few files, so that their number, which is that of a configuration that is read, fits any place
abbrev pub LoadedHaveFewFiles : Type 0
LoadedHaveFewFiles = (holds : Option (List File)) (before now : ℕ) (path : List ℕ) (p : WholeProgram) → Loads holds before now path (Ok p) → length p.program.files ≤ 32

-- the configuration INIT Init NEXT Next, which stands where none is read
abbrev pub plain_configuration : Config
plain_configuration = record { file = []; init = Some (codes "Init"); next = Some (codes "Next"); specification = None; givens = []; unchecked = [] }

abbrev pub PlainIsSpelled : Type 0
PlainIsSpelled = AreSpelled plain_configuration.givens

abbrev pub PlainHasOneForm : Type 0
PlainHasOneForm = IsOneForm plain_configuration
