-- What loading a program answers: the flattened program of a path, or the first refusal with the files so far. A name that is declared
-- twice is refused after all modules are read. Want of memory may be answered at any time. It is said for any reading of a module's text, and
-- what stands last is the case of the strict one.
use Rattle.std.specs.Prelude.{◌≡◌, ℕ, List, [], map, Option, Result, Ok, Err}
use Rattle.base_core.specs.Device.{File}
use Rattle.base_core.specs.Failures.{Failures}
use Rattle.reading_trees.specs.declared.module.WholeProgram.{WholeProgram}
use Rattle.reading_modules.specs.declared.fault.LoadFault.{LoadFault}
use Rattle.reading_modules.specs.declared.fault.LoadFault.TheVariants.{Refused, NoMemory}
use Rattle.reading_modules.specs.declared.fault.LoadWhy.{LoadWhy}
use Rattle.reading_modules.specs.declared.loading.Loaded.{Loaded}
use Rattle.reading_modules.specs.declared.notes.Noted.{Noted}
use Rattle.reading_modules.specs.declared.so_far.Gathered.{Gathered}
use Rattle.reading_modules.specs.Flattened.{FlattenedBy}
use Rattle.reading_modules.specs.Paths.{IsPath, file_of}
use Rattle.reading_modules.specs.Readings.{Reading}
use Rattle.reading_modules.specs.Refusals.{IsCaused, strict, told_by}
use Rattle.reading_modules.specs.Twice.{AllAreNew, OneRepeats}

-- the names of the files of modules
abbrev pub files_of : List ℕ → List (List ℕ) → List (List ℕ)
files_of folder modules = map (λ name. file_of folder name) modules

-- the program has the units of the flattened modules, the names of the files that were sought, the standard modules, and the instances
pub record IsProgramOf {N : Type 0} (folder : List ℕ) (all : Gathered N) (p : WholeProgram) : Type 0 where
  pub files : p.program.files ≡ files_of folder all.modules
  pub units : p.program.units ≡ all.units
  pub standard : p.program.standard ≡ all.standard
  pub instances : p.instances ≡ all.instances

-- the flattened program, in which no name is declared twice, and the notes of its modules
pub record IsProgramBy {N : Type 0} (reading : Reading N) (holds : Option (List File)) (folder name : List ℕ) (p : WholeProgram) (notes : List (Noted N)) : Type 0 where
  pub all : Gathered N
  pub flattened : FlattenedBy reading holds folder name (Ok all)
  pub program : IsProgramOf folder all p
  pub noted : notes ≡ all.notes
  pub names : AllAreNew all.standard all.units all.instances

-- the refusal of a module, or of a name that is declared twice after all modules are read
pub data IsRefusedBy {N : Type 0} (reading : Reading N) (holds : Option (List File)) (before now : ℕ) (folder name : List ℕ) : List (List ℕ) → LoadWhy → Type 0 where
  in_a_module : (modules : List (List ℕ)) (why : LoadWhy) → FlattenedBy reading holds folder name (Err (modules, why))
      → IsCaused holds before now why → IsRefusedBy reading holds before now folder name (files_of folder modules) why
  in_the_whole : (all : Gathered N) (why : LoadWhy) → FlattenedBy reading holds folder name (Ok all)
      → OneRepeats all.standard all.units all.instances why
      → IsRefusedBy reading holds before now folder name (files_of folder all.modules) why

-- the files' count of faults was before and is now
abbrev pub LoadsBy : {N : Type 0} → Reading N → Option (List File) → ℕ → ℕ → List ℕ → Result (Loaded N) LoadFault → Type 0
LoadsBy reading holds before now path (Ok l) =
    (folder : List ℕ) × (name : List ℕ) × IsPath path folder name × IsProgramBy reading holds folder name l.program l.notes
LoadsBy reading holds before now path (Err (Refused files why)) =
    (folder : List ℕ) × (name : List ℕ) × IsPath path folder name × IsRefusedBy reading holds before now folder name files why
LoadsBy reading holds before now path (Err NoMemory) = Unit {0}

-- Which calls on files failed, before a program was refused and after: those of the refusal.
abbrev pub IsToldOf : Failures → Failures → LoadFault → Type 0
IsToldOf before now (Refused files why) = now ≡ told_by why before
IsToldOf before now NoMemory = Unit {0}

-- ---- read strictly

abbrev pub IsProgram : Option (List File) → List ℕ → List ℕ → WholeProgram → Type 0
IsProgram holds folder name p = IsProgramBy strict holds folder name p []

abbrev pub IsRefused : Option (List File) → ℕ → ℕ → List ℕ → List ℕ → List (List ℕ) → LoadWhy → Type 0
IsRefused holds before now folder name files why = IsRefusedBy strict holds before now folder name files why

abbrev pub Loads : Option (List File) → ℕ → ℕ → List ℕ → Result WholeProgram LoadFault → Type 0
Loads holds before now path (Ok p) = (folder : List ℕ) × (name : List ℕ) × IsPath path folder name × IsProgram holds folder name p
Loads holds before now path (Err (Refused files why)) =
    (folder : List ℕ) × (name : List ℕ) × IsPath path folder name × IsRefused holds before now folder name files why
Loads holds before now path (Err NoMemory) = Unit {0}
