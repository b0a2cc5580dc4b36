-- What private calls say of their parts.
use Rattle.std.specs.Prelude.{◌≡◌, ◌≤◌, ℕ, List, [], ◌∷◌, ◌++◌, length, true, Option, Some, Ok, Err, Vec}
use Rattle.std.specs.declared.alloc.Global.{Global}
use Rattle.base_core.specs.Device.{File}
use Rattle.reading_trees.specs.declared.module.Made.{Made}
use Rattle.reading_trees.specs.declared.module.Module.{Module}
use Rattle.reading_trees.specs.declared.module.WholeProgram.{WholeProgram}
use Rattle.reading_modules.specs.declared.fault.LoadFault.{LoadFault}
use Rattle.reading_modules.specs.declared.fault.LoadWhy.{LoadWhy}
use Rattle.reading_modules.specs.declared.fault.LoadWhy.TheVariants.{Nested}
use Rattle.reading_modules.specs.Instances.{first_made}
use Rattle.reading_modules.specs.declared.fault.LoadFault.TheVariants.{Refused, NoMemory}
use Rattle.reading_modules.specs.declared.fault.Stop.{Stop}
use Rattle.reading_modules.specs.declared.fault.Stop.TheVariants as stops
use Rattle.reading_modules.specs.declared.so_far.Gathered.{Gathered}
use Rattle.reading_modules.specs.Flattened.{Follows, MakesAll, most_modules, with_read}
use Rattle.reading_modules.specs.Loads.{files_of, IsProgramOf}
use Rattle.reading_modules.specs.Readings.{Reading}
use Rattle.reading_modules.specs.Refusals.{AreTexts}
use Rattle.reading_modules.specs.Twice.{AllAreNew, OneRepeats}

-- the EXTENDS of a module that was read are followed, its instances are made, and its units and notes are added
pub record Ends {N : Type 0} (reading : Reading N) (holds : Option (List File)) (folder : List ℕ) (path : List (List ℕ)) (so : Gathered N) (number : ℕ) (m : Module) (notes : List N) (after : Gathered N) : Type 0 where
  pub below : Gathered N
  pub follows : Follows reading holds folder (path ++ m.name ∷ []) so m.extends (Ok below)
  pub all : Gathered N
  pub makes : MakesAll reading holds folder (path ++ m.name ∷ []) below m.units (Ok all)
  pub added : after ≡ with_read all number m notes

-- what follows a module that was read is refused: a module that it extends, or that of one of its instances
pub data EndsRefused {N : Type 0} (reading : Reading N) (holds : Option (List File)) (folder : List ℕ) (path : List (List ℕ)) (so : Gathered N) (m : Module) (e : List (List ℕ) × LoadWhy) : Type 0 where
  under_extends : Follows reading holds folder (path ++ m.name ∷ []) so m.extends (Err e) → EndsRefused reading holds folder path so m e
  in_instance : (below : Gathered N) → Follows reading holds folder (path ++ m.name ∷ []) so m.extends (Ok below)
      → MakesAll reading holds folder (path ++ m.name ∷ []) below m.units (Err e) → EndsRefused reading holds folder path so m e

-- the refusal of a module that the program of an instance may not have: it has an instance itself
pub record IsNested {N : Type 0} (reading : Reading N) (so : Gathered N) (m : Module) (why : LoadWhy) : Type 0 where
  pub made : Made
  pub asked : reading.refuses_nested ≡ true
  pub inside : so.of_instance ≡ true
  pub first : first_made m.units ≡ Some made
  pub refused : why ≡ Nested made.name made.at

-- a program stays that of an instance or not, and gets more modules
pub record Stays {N : Type 0} (so next : Gathered N) : Type 0 where
  pub kind : next.of_instance ≡ so.of_instance
  pub more : length so.own ≤ length next.own

-- while modules are read: there are few, and the texts of their files are kept
pub record IsGoing {N : Type 0} (holds : Option (List File)) (folder : List ℕ) (so : Gathered N) (texts : List (Vec ℕ Global)) : Type 0 where
  pub few : length so.modules ≤ most_modules
  pub kept : AreTexts holds folder so.modules texts

-- the program of modules that were read, in which no name is declared twice
pub record IsNewProgram {N : Type 0} (folder : List ℕ) (all : Gathered N) (p : WholeProgram) : Type 0 where
  pub program : IsProgramOf folder all p
  pub names : AllAreNew all.standard all.units all.instances

-- the refusal of a name that is declared twice, or want of memory
abbrev pub RefusesProgram : {N : Type 0} → List ℕ → Gathered N → LoadFault → Type 0
RefusesProgram folder all (Refused files why) = (files ≡ files_of folder all.modules) × OneRepeats all.standard all.units all.instances why
RefusesProgram folder all NoMemory = Unit {0}

-- this refusal with the files so far, or want of memory
abbrev pub RefusesWith : List ℕ → List (List ℕ) → Stop → LoadFault → Type 0
RefusesWith folder modules (stops.Refused why) (Refused files other) = (files ≡ files_of folder modules) × (other ≡ why)
RefusesWith folder modules (stops.Refused why) NoMemory = Unit {0}
RefusesWith folder modules stops.NoMemory (Refused files other) = ⊥
RefusesWith folder modules stops.NoMemory NoMemory = Unit {0}
