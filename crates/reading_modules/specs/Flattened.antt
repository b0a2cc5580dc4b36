-- A program, flattened: the units of a module are those of the modules that it extends, depth first in the order of EXTENDS, each module once, and
-- then its own. The program has the units of its main module, the names of the files that were sought, the standard modules that were met,
-- and the instances among its units, in their order. The program of an instance's module is made in the same way, from nothing: only a file that
-- was sought before is not sought again. Its files and its standard modules join those of the program that has the instance.
--
-- 1. A name (`Meets`) that stands on the path, from the main module down to the one that asks for it, closes a cycle. Else a standard module is
--    listed, and nothing is read for it. Of the others one that this program has is passed over, the 33rd module is one too many, and each other
--    one is visited.
-- 2. The names under EXTENDS are met one behind the other, up to the first refusal (`Follows`).
-- 3. A module that is visited (`Visits`) is read. In the program of an instance it is refused where it has an instance itself, if the reading refuses
--    that. Then the names under its own EXTENDS are followed, then the instances among its units are made in text order (`MakesAll`), and then its
--    units are added, and its notes with the number of its file.
-- 4. An instance (`Makes`) is made by meeting the name of its module in a program of its own, which has nothing so far. In the program of an
--    instance it is passed over.
--
-- All this is said for any reading of a module's text, and what stands last is the case of the strict one. `so` is the program so far. A
-- refusal comes with the modules whose files were sought so far.
use Rattle.std.specs.Prelude.{◌≡◌, ◌⊎◌, ℕ, zero, suc, ◌<◌, ◌≤◌, Bool, true, false, if◌then◌else◌, List, [], ◌∷◌, ◌++◌, length, map, Option, Some, None, Result, Ok, Err}
use Rattle.std.specs.Str.{bytes_eq}
use Rattle.base_core.specs.Device.{File}
use Rattle.reading_trees.specs.declared.module.Made.{Made}
use Rattle.reading_trees.specs.declared.module.Module.{Module}
use Rattle.reading_trees.specs.declared.module.Program.{Program}
use Rattle.reading_trees.specs.declared.module.Unit.{Unit as ModuleUnit}
use Rattle.reading_modules.specs.declared.fault.LoadWhy.{LoadWhy}
use Rattle.reading_modules.specs.declared.fault.LoadWhy.TheVariants.{Cycle, TooMany, Nested}
use Rattle.reading_modules.specs.declared.notes.Noted.{Noted}
use Rattle.reading_modules.specs.declared.so_far.Gathered.{Gathered}
use Rattle.reading_modules.specs.Instances.{made_by, first_made}
use Rattle.reading_modules.specs.Paths.{file_of}
use Rattle.reading_modules.specs.Readings.{Reading}
use Rattle.reading_modules.specs.Refusals.{IsModule, Refuses, strict}
use Rattle.reading_modules.specs.Standard.{is_among, is_standard}

-- a program has at most this many modules, standard ones not counted
abbrev pub most_modules : ℕ
most_modules = 32

-- what was read, or the modules whose files were sought so far and the refusal
abbrev pub OutcomeOf : Type 0 → Type 0
OutcomeOf N = Result (Gathered N) (List (List ℕ) × LoadWhy)

abbrev pub nothing_read : {N : Type 0} → Gathered N
nothing_read = record { of_instance = false; modules = []; own = []; units = []; standard = []; notes = []; instances = [] }

-- what the program of an instance begins with, where files were sought before
abbrev pub begun_of_instance : {N : Type 0} → List (List ℕ) → Gathered N
begun_of_instance modules = record { of_instance = true; modules = modules; own = []; units = []; standard = []; notes = []; instances = [] }

-- names, and one more that is listed once
abbrev pub with_name : List (List ℕ) → List ℕ → List (List ℕ)
with_name names name = if is_among name names then names else names ++ name ∷ []

abbrev pub joined : List (List ℕ) → List (List ℕ) → List (List ℕ)
joined listed [] = listed
joined listed (name ∷ names) = joined (with_name listed name) names

-- the number of a module's file: its place among the modules whose files were sought, or the next one
abbrev pub number_of : List ℕ → List (List ℕ) → ℕ
number_of name [] = zero
number_of name (m ∷ ms) = if bytes_eq m name then zero else suc (number_of name ms)

-- a module of this name is visited
abbrev pub with_module : {N : Type 0} → Gathered N → List ℕ → Gathered N
with_module so name = record {
  of_instance = so.of_instance;
  modules = with_name so.modules name;
  own = so.own ++ name ∷ [];
  units = so.units;
  standard = so.standard;
  notes = so.notes;
  instances = so.instances;
}

-- the notes of the module of that file
abbrev pub noted : {N : Type 0} → ℕ → List N → List (Noted N)
noted file notes = map (λ n. record { file = file; note = n }) notes

-- the units and the notes of a module, whose file has the number
abbrev pub with_read : {N : Type 0} → Gathered N → ℕ → Module → List N → Gathered N
with_read so number m notes = record {
  of_instance = so.of_instance;
  modules = so.modules;
  own = so.own;
  units = so.units ++ m.units;
  standard = so.standard;
  notes = so.notes ++ noted number notes;
  instances = so.instances;
}

-- a standard module is listed once
abbrev pub with_standard : {N : Type 0} → Gathered N → List ℕ → Gathered N
with_standard so name = record {
  of_instance = so.of_instance;
  modules = so.modules;
  own = so.own;
  units = so.units;
  standard = with_name so.standard name;
  notes = so.notes;
  instances = so.instances;
}

-- the program of an instance's module, which has no instance itself
abbrev pub program_of : {N : Type 0} → List ℕ → Gathered N → Program
program_of folder so = record { files = map (λ name. file_of folder name) so.own; units = so.units; standard = so.standard }

-- an instance is made; what was passed over in its modules is told of nowhere
abbrev pub with_instance : {N : Type 0} → List ℕ → Gathered N → Made → Gathered N → Gathered N
with_instance folder so made inner = record {
  of_instance = so.of_instance;
  modules = inner.modules;
  own = so.own;
  units = so.units;
  standard = joined so.standard inner.standard;
  notes = so.notes;
  instances = so.instances ++ record { name = made.name; at = made.at; program = program_of folder inner } ∷ [];
}

-- there is no room for one more module of this name: in this program, or in the files
abbrev pub IsFull : {N : Type 0} → Gathered N → List ℕ → Type 0
IsFull so name = (most_modules ≤ length so.own) ⊎ ((is_among name so.modules ≡ false) × (most_modules ≤ length so.modules))

abbrev pub HasRoom : {N : Type 0} → Gathered N → List ℕ → Type 0
HasRoom so name = (length so.own < most_modules) × ((is_among name so.modules ≡ true) ⊎ (length so.modules < most_modules))

-- a module that the program of an instance may have has no instance, where the reading refuses others; another one may
abbrev pub IsAllowed : {N : Type 0} → Reading N → Gathered N → Module → Type 0
IsAllowed reading so m = reading.refuses_nested ≡ true → so.of_instance ≡ true → first_made m.units ≡ None

-- the names are those of the path from this name on, and this name again
pub record IsCycle (path : List (List ℕ)) (name : List ℕ) (names : List (List ℕ)) : Type 0 where
  pub before : List (List ℕ)
  pub between : List (List ℕ)
  pub on_path : path ≡ before ++ name ∷ between
  pub round : names ≡ (name ∷ between) ++ name ∷ []

mutual
  pub data Meets {N : Type 0} (reading : Reading N) (holds : Option (List File)) (folder : List ℕ) : List (List ℕ) → Gathered N → List ℕ → OutcomeOf N → Type 0 where
    closes_cycle : (path : List (List ℕ)) (so : Gathered N) (name : List ℕ) (names : List (List ℕ)) → IsCycle path name names
        → Meets reading holds folder path so name (Err (so.modules, Cycle names))
    is_listed : (path : List (List ℕ)) (so : Gathered N) (name : List ℕ) → is_among name path ≡ false → is_standard name ≡ true
        → Meets reading holds folder path so name (Ok (with_standard so name))
    was_read : (path : List (List ℕ)) (so : Gathered N) (name : List ℕ) → is_among name path ≡ false → is_standard name ≡ false
        → is_among name so.own ≡ true → Meets reading holds folder path so name (Ok so)
    one_too_many : (path : List (List ℕ)) (so : Gathered N) (name : List ℕ) → is_among name path ≡ false → is_standard name ≡ false
        → is_among name so.own ≡ false → IsFull so name → Meets reading holds folder path so name (Err (so.modules, TooMany name))
    is_visited : (path : List (List ℕ)) (so : Gathered N) (name : List ℕ) (o : OutcomeOf N) → is_among name path ≡ false
        → is_standard name ≡ false → is_among name so.own ≡ false → HasRoom so name
        → Visits reading holds folder path so name o → Meets reading holds folder path so name o

  pub data Follows {N : Type 0} (reading : Reading N) (holds : Option (List File)) (folder : List ℕ) : List (List ℕ) → Gathered N → List (List ℕ) → OutcomeOf N → Type 0 where
    all_met : (path : List (List ℕ)) (so : Gathered N) → Follows reading holds folder path so [] (Ok so)
    stopped : (path : List (List ℕ)) (so : Gathered N) (name : List ℕ) (names : List (List ℕ)) (e : List (List ℕ) × LoadWhy)
        → Meets reading holds folder path so name (Err e) → Follows reading holds folder path so (name ∷ names) (Err e)
    went_on : (path : List (List ℕ)) (so next : Gathered N) (name : List ℕ) (names : List (List ℕ)) (o : OutcomeOf N)
        → Meets reading holds folder path so name (Ok next) → Follows reading holds folder path next names o
        → Follows reading holds folder path so (name ∷ names) o

  pub data Visits {N : Type 0} (reading : Reading N) (holds : Option (List File)) (folder : List ℕ) : List (List ℕ) → Gathered N → List ℕ → OutcomeOf N → Type 0 where
    is_refused : (path : List (List ℕ)) (so : Gathered N) (name : List ℕ) (why : LoadWhy)
        → Refuses reading holds folder (number_of name so.modules) name why
        → Visits reading holds folder path so name (Err (with_name so.modules name, why))
    is_nested : (path : List (List ℕ)) (so : Gathered N) (name : List ℕ) (m : Module) (notes : List N) (made : Made)
        → IsModule reading holds folder (number_of name so.modules) name m notes → reading.refuses_nested ≡ true → so.of_instance ≡ true → first_made m.units ≡ Some made
        → Visits reading holds folder path so name (Err (with_name so.modules name, Nested made.name made.at))
    stopped_below : (path : List (List ℕ)) (so : Gathered N) (name : List ℕ) (m : Module) (notes : List N) (e : List (List ℕ) × LoadWhy)
        → IsModule reading holds folder (number_of name so.modules) name m notes → IsAllowed reading so m
        → Follows reading holds folder (path ++ name ∷ []) (with_module so name) m.extends (Err e)
        → Visits reading holds folder path so name (Err e)
    stopped_in_instance : (path : List (List ℕ)) (so below : Gathered N) (name : List ℕ) (m : Module) (notes : List N) (e : List (List ℕ) × LoadWhy)
        → IsModule reading holds folder (number_of name so.modules) name m notes → IsAllowed reading so m
        → Follows reading holds folder (path ++ name ∷ []) (with_module so name) m.extends (Ok below)
        → MakesAll reading holds folder (path ++ name ∷ []) below m.units (Err e) → Visits reading holds folder path so name (Err e)
    is_whole : (path : List (List ℕ)) (so below all : Gathered N) (name : List ℕ) (m : Module) (notes : List N)
        → IsModule reading holds folder (number_of name so.modules) name m notes → IsAllowed reading so m
        → Follows reading holds folder (path ++ name ∷ []) (with_module so name) m.extends (Ok below)
        → MakesAll reading holds folder (path ++ name ∷ []) below m.units (Ok all)
        → Visits reading holds folder path so name (Ok (with_read all (number_of name so.modules) m notes))

  -- the instances among units are made one behind the other
  pub data MakesAll {N : Type 0} (reading : Reading N) (holds : Option (List File)) (folder : List ℕ) : List (List ℕ) → Gathered N → List ModuleUnit → OutcomeOf N → Type 0 where
    all_made : (path : List (List ℕ)) (so : Gathered N) → MakesAll reading holds folder path so [] (Ok so)
    makes_none : (path : List (List ℕ)) (so : Gathered N) (u : ModuleUnit) (us : List ModuleUnit) (o : OutcomeOf N)
        → made_by u ≡ None → MakesAll reading holds folder path so us o → MakesAll reading holds folder path so (u ∷ us) o
    not_made : (path : List (List ℕ)) (so : Gathered N) (u : ModuleUnit) (us : List ModuleUnit) (made : Made) (e : List (List ℕ) × LoadWhy)
        → made_by u ≡ Some made → Makes reading holds folder path so made (Err e) → MakesAll reading holds folder path so (u ∷ us) (Err e)
    is_made : (path : List (List ℕ)) (so next : Gathered N) (u : ModuleUnit) (us : List ModuleUnit) (made : Made) (o : OutcomeOf N)
        → made_by u ≡ Some made → Makes reading holds folder path so made (Ok next) → MakesAll reading holds folder path next us o
        → MakesAll reading holds folder path so (u ∷ us) o

  pub data Makes {N : Type 0} (reading : Reading N) (holds : Option (List File)) (folder : List ℕ) : List (List ℕ) → Gathered N → Made → OutcomeOf N → Type 0 where
    passed_over : (path : List (List ℕ)) (so : Gathered N) (made : Made) → so.of_instance ≡ true → Makes reading holds folder path so made (Ok so)
    stopped_inside : (path : List (List ℕ)) (so : Gathered N) (made : Made) (e : List (List ℕ) × LoadWhy) → so.of_instance ≡ false
        → Meets reading holds folder path (begun_of_instance so.modules) made.module_name (Err e) → Makes reading holds folder path so made (Err e)
    has_program : (path : List (List ℕ)) (so inner : Gathered N) (made : Made) → so.of_instance ≡ false
        → Meets reading holds folder path (begun_of_instance so.modules) made.module_name (Ok inner)
        → Makes reading holds folder path so made (Ok (with_instance folder so made inner))

-- what comes of the main module
abbrev pub FlattenedBy : {N : Type 0} → Reading N → Option (List File) → List ℕ → List ℕ → OutcomeOf N → Type 0
FlattenedBy reading holds folder name outcome = Visits reading holds folder [] nothing_read name outcome

-- ---- read strictly

abbrev pub SoFar : Type 0
SoFar = Gathered (Unit {0})

abbrev pub Outcome : Type 0
Outcome = OutcomeOf (Unit {0})

abbrev pub Flattened : Option (List File) → List ℕ → List ℕ → Outcome → Type 0
Flattened holds folder name outcome = FlattenedBy strict holds folder name outcome
