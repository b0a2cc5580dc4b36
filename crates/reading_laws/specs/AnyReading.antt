-- What is read is one, and what may be refused beside it, for any reading of the text of a module. It is said of files that tell.
use Rattle.std.specs.Prelude.{◌≡◌, ℕ, List, map, Some, Ok, Err}
use Rattle.base_core.specs.Device.{File}
use Rattle.reading_trees.specs.declared.module.WholeProgram.{WholeProgram}
use Rattle.reading_modules.specs.declared.fault.LoadFault.TheVariants.{Refused}
use Rattle.reading_modules.specs.declared.fault.LoadWhy.{LoadWhy}
use Rattle.reading_modules.specs.declared.loading.Loaded.{Loaded}
use Rattle.reading_modules.specs.declared.notes.Noted.{Noted}
use Rattle.reading_modules.specs.declared.so_far.Gathered.{Gathered}
use Rattle.reading_modules.specs.Flattened.{FlattenedBy}
use Rattle.reading_modules.specs.Loads.{IsProgramBy, LoadsBy}
use Rattle.reading_modules.specs.Readings.{Reading}
use Rattle.reading_modules.specs.Twice.{OneRepeats}
use Rattle.reading_laws.specs.OneReading.{MayStop}
use Rattle.reading_laws.specs.Readings.{noted_by}

-- the modules that a main module extends are read in one way
abbrev pub OneFlatteningBy : {N : Type 0} → Reading N → Type 0
OneFlatteningBy {N} reading =
    (files : List File) (folder name : List ℕ) (a b : Gathered N) → FlattenedBy reading (Some files) folder name (Ok a)
    → FlattenedBy reading (Some files) folder name (Ok b) → a ≡ b

-- a main module has one program, and its modules have the same notes
abbrev pub OneProgramBy : {N : Type 0} → Reading N → Type 0
OneProgramBy {N} reading =
    (files : List File) (folder name : List ℕ) (p q : WholeProgram) (notes others : List (Noted N)) → IsProgramBy reading (Some files) folder name p notes
    → IsProgramBy reading (Some files) folder name q others → (p ≡ q) × (notes ≡ others)

-- so a path gives one program and the same notes, whatever the counts of faults are
abbrev pub OneLoadingBy : {N : Type 0} → Reading N → Type 0
OneLoadingBy {N} reading =
    (files : List File) (before now earlier later : ℕ) (path : List ℕ) (l k : Loaded N) → LoadsBy reading (Some files) before now path (Ok l)
    → LoadsBy reading (Some files) earlier later path (Ok k) → (l.program ≡ k.program) × (l.notes ≡ k.notes)

-- the same, where of each note is told what the function gives
abbrev pub OneProgramSeenBy : {N A : Type 0} → (N → A) → Reading N → Type 0
OneProgramSeenBy {N} f reading =
    (files : List File) (folder name : List ℕ) (p q : WholeProgram) (notes others : List (Noted N)) → IsProgramBy reading (Some files) folder name p notes
    → IsProgramBy reading (Some files) folder name q others → (p ≡ q) × (map (noted_by f) notes ≡ map (noted_by f) others)

abbrev pub OneLoadingSeenBy : {N A : Type 0} → (N → A) → Reading N → Type 0
OneLoadingSeenBy {N} f reading =
    (files : List File) (before now earlier later : ℕ) (path : List ℕ) (l k : Loaded N) → LoadsBy reading (Some files) before now path (Ok l)
    → LoadsBy reading (Some files) earlier later path (Ok k)
    → (l.program ≡ k.program) × (map (noted_by f) l.notes ≡ map (noted_by f) k.notes)

-- where the modules are read, they are refused only where a read failed
abbrev pub FlatteningMayStopBy : {N : Type 0} → Reading N → Type 0
FlatteningMayStopBy {N} reading =
    (files : List File) (folder name : List ℕ) (all : Gathered N) (modules : List (List ℕ)) (why : LoadWhy)
    → FlattenedBy reading (Some files) folder name (Ok all) → FlattenedBy reading (Some files) folder name (Err (modules, why)) → MayStop why

-- no name of a program is declared twice
abbrev pub NothingRepeatsBy : {N : Type 0} → Reading N → Type 0
NothingRepeatsBy {N} reading =
    (files : List File) (folder name : List ℕ) (p : WholeProgram) (notes : List (Noted N)) (all : Gathered N) (why : LoadWhy)
    → IsProgramBy reading (Some files) folder name p notes → FlattenedBy reading (Some files) folder name (Ok all)
    → OneRepeats all.standard all.units all.instances why → ⊥

abbrev pub LoadingMayStopBy : {N : Type 0} → Reading N → Type 0
LoadingMayStopBy {N} reading =
    (files : List File) (before now earlier later : ℕ) (path : List ℕ) (l : Loaded N) (named : List (List ℕ)) (why : LoadWhy)
    → LoadsBy reading (Some files) before now path (Ok l) → LoadsBy reading (Some files) earlier later path (Err (Refused named why)) → MayStop why
