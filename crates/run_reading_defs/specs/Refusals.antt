-- The first refusal in the order of reading, with its report.
use Rattle.std.specs.Prelude.{◌≡◌, ◌++◌, ℕ, true, List, [], ◌∷◌, length, Option, Some, None, Ok, Err}
use Rattle.base_core.specs.Device.{File, IsLonger, Lacks}
use Rattle.base_core.specs.declared.place.Place.{Place}
use Rattle.reading_trees.specs.declared.config.Config.{Config}
use Rattle.reading_trees.specs.declared.module.Program.{Program}
use Rattle.reading_trees.specs.declared.module.WholeProgram.{WholeProgram}
use Rattle.reading_modules.specs.declared.fault.LoadWhy.{LoadWhy}
use Rattle.reading_modules.specs.declared.fault.LoadWhy.TheVariants.{Read, Lex, Lay, Parse, Cycle, TooMany, Twice, WrongName, Nested}
use Rattle.reading_modules.specs.declared.notes.Noted.{Noted}
use Rattle.reading_modules.specs.declared.so_far.Gathered.{Gathered}
use Rattle.reading_modules.specs.Flattened.{FlattenedBy}
use Rattle.reading_modules.specs.Loads.{files_of}
use Rattle.reading_modules.specs.Paths.{IsPath}
use Rattle.reading_modules.specs.Twice.{OneRepeats}
use Rattle.reading_configuration.specs.declared.fault.ConfigKind.{ConfigKind}
use Rattle.reading_wide_configuration.specs.Wide.{ReadsBy}
use Rattle.reading_wide_modules.specs.declared.unread.Unread.{Unread}
use Rattle.reading_wide_modules.specs.Wide.{reading_by}
use Rattle.names_terms.specs.declared.spec.Spec.{Spec}
use Rattle.names_resolving.specs.declared.fault.ResolveFault.{ResolveFault}
use Rattle.names_specification.specs.Resolving.{ResolvedBy}
use Rattle.names_whole_programs.specs.Expansion.{ExpansionBy}
use Rattle.run_wide.specs.Answers.{NeedsPiece}
use Rattle.actions_meanings.specs.declared.fault.FormFault.{FormFault}
use Rattle.steps_forms.specs.Forms.{IsFirstFault}
use Rattle.logs_lines.specs.declared.file.Refusal.{Refusal}
use Rattle.run_words.specs.declared.job.Job.{Job}
use Rattle.run_texts.specs.Files.{missing_text, too_long_text}
use Rattle.run_texts.specs.Modules.{module_refusal, piece_refusal}
use Rattle.run_texts.specs.Configs.{config_refusal}
use Rattle.run_texts.specs.Resolved.{names_refusal}
use Rattle.run_texts.specs.Forms.{form_refusal}
use Rattle.run_texts.specs.Logs.{log_refusal}
use Rattle.run_reading_defs.specs.Texts.{HasText, LogsRead, config_limit}
use Rattle.run_reading_defs.specs.Reaches.{IsLog, LogSays, Reaches, Stage, Wants, begun, loaded, given, configured, resolved, logged}

-- the refusal is one of a module's text or of modules together, not of a file that is not read
abbrev pub IsOfText : LoadWhy → Type 0
IsOfText (Read file fault) = ⊥
IsOfText (Lex why at) = Unit {0}
IsOfText (Lay at) = Unit {0}
IsOfText (Parse fault) = Unit {0}
IsOfText (Cycle names) = Unit {0}
IsOfText (TooMany name) = Unit {0}
IsOfText (Twice name later earlier) = Unit {0}
IsOfText (WrongName name at) = Unit {0}
IsOfText (Nested name at) = Unit {0}

-- the files that places speak of: those of the modules, and behind them that of the configuration
abbrev pub all_files : Program → Config → List (List ℕ)
all_files p c = p.files ++ c.file ∷ []

-- what is read or tested next is refused, and this is the report
pub data Rejects (holds : Option (List File)) (job : Job) : Stage → List ℕ → Type 0 where
  in_a_module : (folder name : List ℕ) (modules : List (List ℕ)) (why : LoadWhy) → IsPath job.module folder name
      → FlattenedBy (reading_by job.wide) holds folder name (Err (modules, why)) → IsOfText why → Rejects holds job begun (module_refusal (files_of folder modules) why)
  in_all_modules : (folder name : List ℕ) (all : Gathered Unread) (why : LoadWhy) → IsPath job.module folder name
      → FlattenedBy (reading_by job.wide) holds folder name (Ok all)
      → OneRepeats all.standard all.units all.instances why → Rejects holds job begun (module_refusal (files_of folder all.modules) why)
  in_the_configuration : (whole : WholeProgram) (unread : List (Noted Unread)) (name text : List ℕ) (kind : ConfigKind) (at : Place) → job.config ≡ Some name → HasText holds name config_limit text
      → ReadsBy job.wide (length whole.program.files) name text (Err (kind, at)) → Rejects holds job (loaded whole unread) (config_refusal (whole.program.files ++ name ∷ []) kind at)
  -- of the program before names are resolved: it has too many variables, or something is wrong with an instance
  in_an_instance : (whole : WholeProgram) (unread : List (Noted Unread)) (c : Config) (fault : ResolveFault) → ExpansionBy job.wide whole (Err fault)
      → Rejects holds job (given whole unread c) (names_refusal (all_files whole.program c) fault)
  in_a_piece : (whole : WholeProgram) (p : Program) (unread : List (Noted Unread)) (c : Config) (index : ℕ) (root : List ℕ) → ExpansionBy job.wide whole (Ok p) → job.wide ≡ true
      → (n : NeedsPiece p c job.silent unread index root) → Rejects holds job (given whole unread c) (piece_refusal p.files n.piece.note.why root)
  in_names : (p : Program) (c : Config) (fault : ResolveFault) → ResolvedBy job.wide p c job.silent (Err fault)
      → Rejects holds job (configured p c) (names_refusal (all_files p c) fault)
  in_forms : (p : Program) (c : Config) (s : Spec) (fault : FormFault) → IsFirstFault s fault
      → Rejects holds job (resolved p c s) (form_refusal (all_files p c) s.variables fault)
  in_a_log : (p : Program) (c : Config) (s : Spec) (read : LogsRead) (name : List ℕ) (names : List (List ℕ)) (text : List ℕ) (refusal : Refusal)
      → IsLog holds read name text → LogSays job s read text (Err refusal)
      → Rejects holds job (logged p c s read (name ∷ names)) (log_refusal name refusal)

-- The report of the first refusal: a file is missing, which the files tell, or else their count of faults rose; it is too long; or a text is refused.
pub data IsRefusal (holds : Option (List File)) (before now : ℕ) (job : Job) : List ℕ → Type 0 where
  is_missing : (name : List ℕ) (limit : ℕ) → Wants holds job name limit → Lacks name holds before now → IsRefusal holds before now job (missing_text name)
  is_too_long : (name : List ℕ) (limit : ℕ) → Wants holds job name limit → IsLonger name holds limit → IsRefusal holds before now job (too_long_text name)
  is_refused : (stage : Stage) (report : List ℕ) → Reaches holds job stage → Rejects holds job stage report → IsRefusal holds before now job report
