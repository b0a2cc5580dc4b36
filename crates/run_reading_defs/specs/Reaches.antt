-- How far reading comes. The module and those that it extends are read first, then the configuration; with the word `--wide` what no step needs is
-- passed over, and what the instances among the units make stands among them. Then names and levels are resolved and the forms of Init, Next and the silent operator tested; then the logs are read in the order of the words, each
-- tested whole before the next is opened.
use Rattle.std.specs.Prelude.{◌≡◌, ◌+◌, ℕ, List, [], ◌∷◌, length, Option, Some, None, Result, Ok, Err}
use Rattle.base_core.specs.Device.{File}
use Rattle.base_core.specs.declared.reading.ReadFault.TheVariants.{Failed}
use Rattle.reading_trees.specs.declared.config.Config.{Config}
use Rattle.reading_trees.specs.declared.module.Program.{Program}
use Rattle.reading_trees.specs.declared.module.WholeProgram.{WholeProgram}
use Rattle.reading_modules.specs.declared.fault.LoadWhy.TheVariants.{Read}
use Rattle.reading_modules.specs.declared.notes.Noted.{Noted}
use Rattle.reading_modules.specs.Flattened.{FlattenedBy}
use Rattle.reading_modules.specs.Loads.{IsProgramBy}
use Rattle.reading_modules.specs.Paths.{IsPath}
use Rattle.reading_modules.specs.Refusals.{module_limit}
use Rattle.reading_wide_configuration.specs.Wide.{ReadsBy}
use Rattle.reading_wide_modules.specs.declared.unread.Unread.{Unread}
use Rattle.reading_wide_modules.specs.Wide.{reading_by}
use Rattle.names_terms.specs.declared.spec.Spec.{Spec}
use Rattle.names_specification.specs.Resolving.{ResolvedBy}
use Rattle.names_whole_programs.specs.Expansion.{ExpansionBy}
use Rattle.run_wide.specs.Passing.{Passes}
use Rattle.steps_forms.specs.Forms.{AreWhole}
use Rattle.logs_lines.specs.Files.{FileSays, first_line}
use Rattle.logs_lines.specs.declared.file.FileLines.{FileLines}
use Rattle.logs_lines.specs.declared.file.Refusal.{Refusal}
use Rattle.logs_files.specs.Lined.{IsLinedOf}
use Rattle.logs_tied.specs.declared.logs.Lined.{Lined}
use Rattle.steps_names.specs.Names.{names_of}
use Rattle.run_words.specs.declared.job.Job.{Job}
use Rattle.run_reading_defs.specs.Texts.{HasText, LogsRead, are_several, bytes_left, config_limit, no_logs, steps_left, with_log, without_file}

-- how far it came, with what was accepted
pub data Stage : Type 0 where
  begun : Stage
  -- with the pieces of modules that were not read
  loaded : WholeProgram → List (Noted Unread) → Stage
  -- all texts of the specification are read
  given : WholeProgram → List (Noted Unread) → Config → Stage
  -- instances have made their units, and what no step needs is passed over: these are resolved
  configured : Program → Config → Stage
  resolved : Program → Config → Spec → Stage
  -- with what the logs before say, and the names of those that are still to be read
  logged : Program → Config → Spec → LogsRead → List (List ℕ) → Stage

-- this is the text of the next log
abbrev pub IsLog : Option (List File) → LogsRead → List ℕ → List ℕ → Type 0
IsLog holds read name text = HasText holds name (bytes_left read) text

-- what its text says: files of logs are numbered from 1, and each has the room for steps, and the form of clocks, that those before it left
abbrev pub LogSays : Job → Spec → LogsRead → List ℕ → Result FileLines Refusal → Type 0
LogSays job s read text r = FileSays (names_of s) (first_line (1 + length read.found) (are_several job.logs) (steps_left read) read.form) text r

-- it comes so far, and nothing before is refused
pub data Reaches (holds : Option (List File)) (job : Job) : Stage → Type 0 where
  begins : Reaches holds job begun
  loads : (folder name : List ℕ) (whole : WholeProgram) (unread : List (Noted Unread)) → IsPath job.module folder name
      → IsProgramBy (reading_by job.wide) holds folder name whole unread → Reaches holds job (loaded whole unread)
  needs_no_configuration : (whole : WholeProgram) (unread : List (Noted Unread)) → Reaches holds job (loaded whole unread) → job.config ≡ None
      → Reaches holds job (given whole unread without_file)
  reads_configuration : (whole : WholeProgram) (unread : List (Noted Unread)) (name text : List ℕ) (c : Config) → Reaches holds job (loaded whole unread)
      → job.config ≡ Some name → HasText holds name config_limit text → ReadsBy job.wide (length whole.program.files) name text (Ok c)
      → Reaches holds job (given whole unread c)
  passes : (whole : WholeProgram) (p q : Program) (unread : List (Noted Unread)) (c d : Config) → Reaches holds job (given whole unread c) → ExpansionBy job.wide whole (Ok p)
      → Passes p c job.silent unread job.wide q d → Reaches holds job (configured q d)
  resolves : (p : Program) (c : Config) (s : Spec) → Reaches holds job (configured p c) → ResolvedBy job.wide p c job.silent (Ok s) → Reaches holds job (resolved p c s)
  has_forms : (p : Program) (c : Config) (s : Spec) → Reaches holds job (resolved p c s) → AreWhole s → Reaches holds job (logged p c s no_logs job.logs)
  reads_log : (p : Program) (c : Config) (s : Spec) (read : LogsRead) (name : List ℕ) (names : List (List ℕ)) (text : List ℕ) (f : FileLines)
      → Reaches holds job (logged p c s read (name ∷ names)) → IsLog holds read name text → LogSays job s read text (Ok f)
      → Reaches holds job (logged p c s (with_log read text f) names)

-- The file that is read next, and how many bytes it may have. A module's file is next where a failure of its read would be the refusal of the modules:
-- such a failure has no other cause, so that this says no more of the file than that it is sought and that nothing before it is refused.
pub data IsNext (holds : Option (List File)) (job : Job) : Stage → List ℕ → ℕ → Type 0 where
  module_next : (folder name : List ℕ) (modules : List (List ℕ)) (file : List ℕ) → IsPath job.module folder name
      → FlattenedBy (reading_by job.wide) holds folder name (Err (modules, Read file Failed)) → IsNext holds job begun file module_limit
  config_next : (whole : WholeProgram) (unread : List (Noted Unread)) (name : List ℕ) → job.config ≡ Some name → IsNext holds job (loaded whole unread) name config_limit
  log_next : (p : Program) (c : Config) (s : Spec) (read : LogsRead) (name : List ℕ) (names : List (List ℕ))
      → IsNext holds job (logged p c s read (name ∷ names)) name (bytes_left read)

-- the file is read next, with this limit, and nothing before it is refused
pub record Wants (holds : Option (List File)) (job : Job) (name : List ℕ) (limit : ℕ) : Type 0 where
  pub stage : Stage
  pub reaches : Reaches holds job stage
  pub is_next : IsNext holds job stage name limit

-- All texts are read and none is refused: this is the specification, and these are the lines of all logs, in their one order; or, where
-- several logs have clocks of nodes or the word `--ties` stands, in each order that their clocks leave open.
pub record AllRead (holds : Option (List File)) (job : Job) (p : Program) (c : Config) (s : Spec) (lined : Lined) : Type 0 where
  pub read : LogsRead
  pub reaches : Reaches holds job (logged p c s read [])
  pub lines : IsLinedOf job.ties read.found lined
