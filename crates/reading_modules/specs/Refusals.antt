-- What the file of one module gives: a module, or a refusal.
--
-- Read strictly, a module is what its file's bytes spell: they have tokens, the tokens have their junction lists marked, and these spell the
-- module, each of them inside at most 100 unfinished constructs of its unit. What a file gives is said for any reading, and the strict one is a
-- case. A module has the name under which it was sought. `number` is the number of its file, which each place in it carries.
use Rattle.std.specs.Prelude.{◌≡◌, ◌≢◌, ℕ, ◌≤◌, true, List, [], ◌∷◌, length, Vec, Option, Some, None, Ok, Err}
use Rattle.std.specs.declared.alloc.Global.{Global}
use Rattle.base_core.specs.Device.{File, found, Rose, Lacks, IsWhole, IsLonger}
use Rattle.base_core.specs.Failures.{Failures, after_fault}
use Rattle.base_core.specs.declared.reading.ReadFault.{ReadFault}
use Rattle.base_core.specs.declared.reading.ReadFault.TheVariants.{Missing, Failed, TooLong, NoMemory}
use Rattle.reading_tokens.specs.declared.token.Token.{Token}
use Rattle.reading_trees.specs.declared.laid.Laid.{Laid}
use Rattle.reading_trees.specs.declared.module.Module.{Module}
use Rattle.reading_tokens.specs.Tokens.{Tokens}
use Rattle.reading_trees.specs.Laid.{IsLaid, IsLeftOfList}
use Rattle.reading_trees.specs.Modules.{SpellsModule}
use Rattle.reading_expressions.specs.declared.fault.ParseFault.{ParseFault}
use Rattle.reading_expressions.specs.declared.fault.ParseFault.TheVariants as parse
use Rattle.reading_units.specs.Refusals.{IsRefusedModule, ShallowWholeModule}
use Rattle.reading_modules.specs.declared.fault.LoadWhy.{LoadWhy}
use Rattle.reading_modules.specs.declared.fault.LoadWhy.TheVariants.{Read, Lex, Lay, Parse, Cycle, TooMany, Twice, WrongName, Nested}
use Rattle.reading_modules.specs.declared.fault.Stop.{Stop}
use Rattle.reading_modules.specs.declared.fault.Stop.TheVariants as stops
use Rattle.reading_modules.specs.Paths.{file_of}
use Rattle.reading_modules.specs.Readings.{Reading}

-- a module's file has at most this many bytes
abbrev pub module_limit : ℕ
module_limit = 1048576

-- where the files tell: these are the bytes of the file; and they are no more than a module may have
pub record IsText (holds : Option (List File)) (file : List ℕ) (bytes : List ℕ) : Type 0 where
  pub whole : IsWhole file holds bytes
  pub short : length bytes ≤ module_limit

-- ---- a text that is read strictly

-- the bytes have these tokens, here with their junction lists marked
pub record LaidAs (number : ℕ) (bytes : List ℕ) (laid : List Laid) : Type 0 where
  pub tokens : List Token
  pub lexed : Tokens true number bytes (Ok tokens)
  pub marked : IsLaid tokens laid

-- the bytes spell this module, and no token stands too deep
pub record SpelledBy (number : ℕ) (bytes : List ℕ) (m : Module) : Type 0 where
  pub laid : List Laid
  pub laid_as : LaidAs number bytes laid
  pub spells : SpellsModule m laid
  pub shallow : ShallowWholeModule laid

-- the laid tokens are refused as a module, by this cause
abbrev pub IsUnparsed : List Laid → ParseFault → Type 0
IsUnparsed laid fault = IsRefusedModule laid fault × (fault ≢ parse.NoMemory)

-- the bytes spell no module: they have no tokens, the tokens no junction lists, or these are refused as a module
abbrev pub Misspells : ℕ → List ℕ → LoadWhy → Type 0
Misspells number bytes (Lex why at) = Tokens true number bytes (Err (why, at))
Misspells number bytes (Lay at) = (tokens : List Token) × Tokens true number bytes (Ok tokens) × IsLeftOfList tokens at
Misspells number bytes (Parse fault) = (laid : List Laid) × LaidAs number bytes laid × IsUnparsed laid fault
Misspells number bytes (Read file fault) = ⊥
Misspells number bytes (Cycle names) = ⊥
Misspells number bytes (TooMany name) = ⊥
Misspells number bytes (Twice name later earlier) = ⊥
Misspells number bytes (WrongName name at) = ⊥
Misspells number bytes (Nested name at) = ⊥

-- the strict reading, which has no notes
abbrev pub strict : Reading (Unit {0})
strict = record {
  Spells = λ number bytes m notes. SpelledBy number bytes m × (notes ≡ []);
  Misspells = Misspells;
  of_text = λ number bytes file fault h. h;
  refuses_nested = true;
}

-- ---- a file, by any reading of its text

-- the file of that name spells this module with these notes, and it has the name
pub record IsModule {N : Type 0} (reading : Reading N) (holds : Option (List File)) (folder : List ℕ) (number : ℕ) (name : List ℕ) (m : Module) (notes : List N) : Type 0 where
  pub bytes : List ℕ
  pub text : IsText holds (file_of folder name) bytes
  pub spelled : reading.Spells number bytes m notes
  pub named : m.name ≡ name

-- the texts that were kept of modules whose files were sought are those of these files
abbrev pub AreTexts : Option (List File) → List ℕ → List (List ℕ) → List (Vec ℕ Global) → Type 0
AreTexts holds folder [] [] = Unit {0}
AreTexts holds folder [] (t ∷ ts) = ⊥
AreTexts holds folder (m ∷ ms) [] = ⊥
AreTexts holds folder (m ∷ ms) (t ∷ ts) = IsText holds (file_of folder m) t.items × AreTexts holds folder ms ts

-- where the files tell: there is no such file
abbrev pub IsMissing : Option (List File) → List ℕ → Type 0
IsMissing None file = Unit {0}
IsMissing (Some files) file = found file files ≡ None

-- the file is not read, by this cause; of a read that failed the files tell nothing
abbrev pub IsUnread : Option (List File) → List ℕ → ReadFault → Type 0
IsUnread holds file Missing = IsMissing holds file
IsUnread holds file Failed = Unit {0}
IsUnread holds file TooLong = IsLonger file holds module_limit
IsUnread holds file NoMemory = ⊥

-- this refusal is that of the file
abbrev pub IsUnreadFile : Option (List File) → List ℕ → LoadWhy → Type 0
IsUnreadFile holds file (Read name fault) = (name ≡ file) × IsUnread holds file fault
IsUnreadFile holds file (Lex why at) = ⊥
IsUnreadFile holds file (Lay at) = ⊥
IsUnreadFile holds file (Parse fault) = ⊥
IsUnreadFile holds file (Cycle names) = ⊥
IsUnreadFile holds file (TooMany name) = ⊥
IsUnreadFile holds file (Twice name later earlier) = ⊥
IsUnreadFile holds file (WrongName name at) = ⊥
IsUnreadFile holds file (Nested name at) = ⊥

-- the bytes spell no module, or one of another name
pub data RefusesBytes {N : Type 0} (reading : Reading N) (number : ℕ) (bytes name : List ℕ) : LoadWhy → Type 0 where
  misspelled : (why : LoadWhy) → reading.Misspells number bytes why → RefusesBytes reading number bytes name why
  misnamed : (m : Module) (notes : List N) → reading.Spells number bytes m notes → m.name ≢ name
      → RefusesBytes reading number bytes name (WrongName m.name m.at)

-- the file of that module is not read, or its bytes are refused
pub data Refuses {N : Type 0} (reading : Reading N) (holds : Option (List File)) (folder : List ℕ) (number : ℕ) (name : List ℕ) : LoadWhy → Type 0 where
  not_read : (fault : ReadFault) → IsUnread holds (file_of folder name) fault
      → Refuses reading holds folder number name (Read (file_of folder name) fault)
  not_good : (bytes : List ℕ) (why : LoadWhy) → IsText holds (file_of folder name) bytes → RefusesBytes reading number bytes name why
      → Refuses reading holds folder number name why

-- what a refusal says of the count of faults: a file is missing where the files tell so, or else the count rose; a read failed only
-- where it rose
abbrev pub IsCaused : Option (List File) → ℕ → ℕ → LoadWhy → Type 0
IsCaused holds before now (Read file Missing) = Lacks file holds before now
IsCaused holds before now (Read file Failed) = Rose before now
IsCaused holds before now (Read file TooLong) = Unit {0}
IsCaused holds before now (Read file NoMemory) = ⊥
IsCaused holds before now (Lex why at) = Unit {0}
IsCaused holds before now (Lay at) = Unit {0}
IsCaused holds before now (Parse fault) = Unit {0}
IsCaused holds before now (Cycle names) = Unit {0}
IsCaused holds before now (TooMany name) = Unit {0}
IsCaused holds before now (Twice name later earlier) = Unit {0}
IsCaused holds before now (WrongName name at) = Unit {0}
IsCaused holds before now (Nested name at) = Unit {0}

-- Which calls on files failed where the modules are refused so: one more where a read that failed is the refusal, and the file that it names was asked for then; none
-- more where it is another.
abbrev pub told_by : LoadWhy → Failures → Failures
told_by (Read file fault) f = after_fault file fault f
told_by (Lex why at) f = f
told_by (Lay at) f = f
told_by (Parse fault) f = f
told_by (Cycle names) f = f
told_by (TooMany name) f = f
told_by (Twice name later earlier) f = f
told_by (WrongName name at) f = f
told_by (Nested name at) f = f

-- this holds of the refusal; or memory was wanting
abbrev pub StopsBy : (LoadWhy → Type 0) → Stop → Type 0
StopsBy P (stops.Refused why) = P why
StopsBy P stops.NoMemory = Unit {0}
