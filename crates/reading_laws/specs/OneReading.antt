-- What is read is one. It is said of files that tell: where they do not, nothing says which text was read.
use Rattle.std.specs.Prelude.{◌≡◌, ℕ, Bool, List, Some, Ok, Err}
use Rattle.base_core.specs.Device.{File, IsWhole}
use Rattle.base_core.specs.declared.place.Place.{Place}
use Rattle.base_core.specs.declared.reading.ReadFault.TheVariants.{Failed}
use Rattle.reading_trees.specs.declared.config.Config.{Config}
use Rattle.reading_trees.specs.declared.module.WholeProgram.{WholeProgram}
use Rattle.reading_configuration.specs.declared.fault.ConfigKind.{ConfigKind}
use Rattle.reading_wide_configuration.specs.Wide.{ReadsBy}
use Rattle.reading_modules.specs.declared.fault.LoadFault.TheVariants.{Refused}
use Rattle.reading_modules.specs.declared.fault.LoadWhy.{LoadWhy}
use Rattle.reading_modules.specs.declared.fault.LoadWhy.TheVariants.{Read, Lex, Lay, Parse, Cycle, TooMany, Twice, WrongName, Nested}
use Rattle.reading_modules.specs.Flattened.{Flattened, SoFar}
use Rattle.reading_modules.specs.Loads.{IsProgram, Loads}
use Rattle.reading_modules.specs.Paths.{IsPath}
use Rattle.reading_modules.specs.Twice.{OneRepeats}

-- ---- what is read

-- a path names one folder and one main module
abbrev pub OnePath : Type 0
OnePath = (path folder front name main : List ℕ) → IsPath path folder name → IsPath path front main → (folder ≡ front) × (name ≡ main)

-- a name is that of one text
abbrev pub OneText : Type 0
OneText = (files : List File) (name a b : List ℕ) → IsWhole name (Some files) a → IsWhole name (Some files) b → a ≡ b

-- the modules that a main module extends are read in one way
abbrev pub OneFlattening : Type 0
OneFlattening =
    (files : List File) (folder name : List ℕ) (a b : SoFar) → Flattened (Some files) folder name (Ok a) → Flattened (Some files) folder name (Ok b) → a ≡ b

-- a main module has one program
abbrev pub OneProgram : Type 0
OneProgram =
    (files : List File) (folder name : List ℕ) (p q : WholeProgram) → IsProgram (Some files) folder name p → IsProgram (Some files) folder name q → p ≡ q

-- a path gives one program, whatever the counts of faults are
abbrev pub OneLoading : Type 0
OneLoading =
    (files : List File) (before now earlier later : ℕ) (path : List ℕ) (p q : WholeProgram) → Loads (Some files) before now path (Ok p)
    → Loads (Some files) earlier later path (Ok q) → p ≡ q

-- a text gives one configuration, with `--wide` and without it
abbrev pub OneConfiguration : Type 0
OneConfiguration = (wide : Bool) (file : ℕ) (name text : List ℕ) (c d : Config) → ReadsBy wide file name text (Ok c) → ReadsBy wide file name text (Ok d) → c ≡ d

-- ---- what is refused beside it

-- Where there is a program, its reading is refused only where a read failed, of which the files do not tell.
abbrev pub MayStop : LoadWhy → Type 0
MayStop (Read name fault) = fault ≡ Failed
MayStop (Parse fault) = ⊥
MayStop (Lex why at) = ⊥
MayStop (Lay at) = ⊥
MayStop (Cycle names) = ⊥
MayStop (TooMany name) = ⊥
MayStop (Twice name later earlier) = ⊥
MayStop (WrongName name at) = ⊥
MayStop (Nested name at) = ⊥

abbrev pub FlatteningMayStop : Type 0
FlatteningMayStop =
    (files : List File) (folder name : List ℕ) (all : SoFar) (modules : List (List ℕ)) (why : LoadWhy) → Flattened (Some files) folder name (Ok all)
    → Flattened (Some files) folder name (Err (modules, why)) → MayStop why

-- no name of a program is declared twice
abbrev pub NothingRepeats : Type 0
NothingRepeats =
    (files : List File) (folder name : List ℕ) (p : WholeProgram) (all : SoFar) (why : LoadWhy) → IsProgram (Some files) folder name p
    → Flattened (Some files) folder name (Ok all) → OneRepeats all.standard all.units all.instances why → ⊥

abbrev pub LoadingMayStop : Type 0
LoadingMayStop =
    (files : List File) (before now earlier later : ℕ) (path : List ℕ) (p : WholeProgram) (named : List (List ℕ)) (why : LoadWhy)
    → Loads (Some files) before now path (Ok p) → Loads (Some files) earlier later path (Err (Refused named why)) → MayStop why

-- a text that gives a configuration is not refused
abbrev pub NoConfigurationRefused : Type 0
NoConfigurationRefused =
    (wide : Bool) (file : ℕ) (name text : List ℕ) (c : Config) (why : ConfigKind) (at : Place) → ReadsBy wide file name text (Ok c)
    → ReadsBy wide file name text (Err (why, at)) → ⊥
