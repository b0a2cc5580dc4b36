-- What a reading that does not go on from a stage says, stage by stage.
use Rattle.std.proofs.Common.{◌≡◌, ◌⊎◌, inl, inr, ◌++◌, ℕ, List, [], ◌∷◌, length, None, Some, Ok, Err, refl}
use Rattle.base_core.specs.Device.{File, IsLonger, found}
use Rattle.base_core.specs.declared.place.Place.{Place}
use Rattle.base_core.specs.declared.reading.ReadFault.TheVariants.{Failed}
use Rattle.reading_modules.specs.declared.fault.LoadWhy.{LoadWhy}
use Rattle.reading_modules.specs.declared.fault.LoadWhy.TheVariants.{Read}
use Rattle.reading_modules.specs.declared.so_far.Gathered.{Gathered}
use Rattle.reading_modules.specs.Flattened.{FlattenedBy}
use Rattle.reading_modules.specs.Paths.{IsPath}
use Rattle.reading_modules.specs.Refusals.{module_limit}
use Rattle.reading_modules.specs.Twice.{OneRepeats}
use Rattle.reading_configuration.specs.declared.fault.ConfigKind.{ConfigKind}
use Rattle.reading_wide_configuration.specs.Wide.{ReadsBy}
use Rattle.reading_wide_modules.specs.declared.unread.Unread.{Unread}
use Rattle.reading_wide_modules.specs.Wide.{reading_by}
use Rattle.names_resolving.specs.declared.fault.ResolveFault.{ResolveFault}
use Rattle.names_specification.specs.Resolving.{ResolvedBy}
use Rattle.actions_meanings.specs.declared.fault.FormFault.{FormFault}
use Rattle.steps_forms.specs.Forms.{IsFirstFault}
use Rattle.names_whole_programs.specs.Expansion.{ExpansionBy}
use Rattle.run_wide.specs.Answers.{NeedsPiece}
use Rattle.reading_trees.specs.declared.config.Config.{Config}
use Rattle.reading_trees.specs.declared.module.Program.{Program}
use Rattle.reading_trees.specs.declared.module.WholeProgram.{WholeProgram}
use Rattle.reading_modules.specs.declared.notes.Noted.{Noted}
use Rattle.run_words.specs.declared.job.Job.{Job}
use Rattle.run_texts.specs.Configs.{config_refusal}
use Rattle.run_texts.specs.Files.{missing_text, too_long_text}
use Rattle.run_texts.specs.Forms.{form_refusal}
use Rattle.run_texts.specs.Resolved.{names_refusal}
use Rattle.run_reading_defs.specs.Texts.{config_limit}
use Rattle.run_reading_defs.specs.Reaches.{IsNext, Stage, begun, config_next, configured, given, loaded, log_next, logged, module_next, resolved}
use Rattle.run_reading_defs.specs.Refusals.{IsOfText, Rejects, all_files, in_a_log, in_a_module, in_a_piece, in_an_instance, in_all_modules, in_forms, in_names, in_the_configuration}
use Rattle.std.specs.Prelude.{true}
use Rattle.twice_readings.specs.Refusals.{Halts, at_long, at_missing, at_text}
use Rattle.twice_readings.proofs.FileHalts.{FileHalts, file_long, file_missing, file_refused}
use Rattle.twice_readings.proofs.LogHalts.{LogHalts}

module _ (files : List File) (job : Job) where
  -- the text of the configuration is refused with this report
  abbrev pub ConfigRefused : WholeProgram → List ℕ → List ℕ → List ℕ → Type 0
  ConfigRefused p name text report =
      (kind : ConfigKind) × (at : Place) × ReadsBy job.wide (length p.program.files) name text (Err (kind, at)) × (report ≡ config_refusal (p.program.files ++ name ∷ []) kind at)

  -- the modules are refused: a file that is sought is missing or too long, a text is refused, or a name is declared twice
  pub data ModulesHalt : Type 0 where
    halts_missing : (folder main : List ℕ) (modules : List (List ℕ)) (file : List ℕ) → IsPath job.module folder main
        → FlattenedBy (reading_by job.wide) (Some files) folder main (Err (modules, Read file Failed)) → found file files ≡ None → ModulesHalt
    halts_long : (folder main : List ℕ) (modules : List (List ℕ)) (file : List ℕ) → IsPath job.module folder main
        → FlattenedBy (reading_by job.wide) (Some files) folder main (Err (modules, Read file Failed)) → IsLonger file (Some files) module_limit → ModulesHalt
    halts_text : (folder main : List ℕ) (modules : List (List ℕ)) (why : LoadWhy) → IsPath job.module folder main
        → FlattenedBy (reading_by job.wide) (Some files) folder main (Err (modules, why)) → IsOfText why → ModulesHalt
    halts_twice : (folder main : List ℕ) (all : Gathered Unread) (why : LoadWhy) → IsPath job.module folder main
        → FlattenedBy (reading_by job.wide) (Some files) folder main (Ok all) → OneRepeats all.standard all.units all.instances why → ModulesHalt

  -- something is wrong with an instance, and this is the report
  abbrev pub InstanceHalts : WholeProgram → Config → List ℕ → Type 0
  InstanceHalts w c report = (fault : ResolveFault) × ExpansionBy job.wide w (Err fault) × (report ≡ names_refusal (all_files w.program c) fault)

  -- a piece is needed that was not read
  abbrev pub PieceHalts : WholeProgram → List (Noted Unread) → Config → Type 0
  PieceHalts w unread c = (p : Program) × ExpansionBy job.wide w (Ok p) × (job.wide ≡ true) × ((index : ℕ) × (root : List ℕ) × NeedsPiece p c job.silent unread index root)

  abbrev pub View : Stage → List ℕ → Type 0
  View begun report = ModulesHalt
  View (loaded p unread) report = (name : List ℕ) × (job.config ≡ Some name) × FileHalts files name config_limit (ConfigRefused p name) report
  View (given w unread c) report = InstanceHalts w c report ⊎ PieceHalts w unread c
  View (configured p c) report = (fault : ResolveFault) × ResolvedBy job.wide p c job.silent (Err fault) × (report ≡ names_refusal (all_files p c) fault)
  View (resolved p c s) report = (fault : FormFault) × IsFirstFault s fault × (report ≡ form_refusal (all_files p c) s.variables fault)
  View (logged p c s read []) report = ⊥
  View (logged p c s read (name ∷ names)) report = LogHalts files job s read name report

  missing_view : (stage : Stage) (name : List ℕ) (limit : ℕ) → IsNext (Some files) job stage name limit → found name files ≡ None → View stage (missing_text name)
  missing_view _ _ _ (module_next folder main modules file path fails) none = halts_missing folder main modules file path fails none
  missing_view _ _ _ (config_next p unread name some) none = (name, some, file_missing none)
  missing_view _ _ _ (log_next p c s read name names) none = file_missing none

  long_view : (stage : Stage) (name : List ℕ) (limit : ℕ) → IsNext (Some files) job stage name limit → IsLonger name (Some files) limit → View stage (too_long_text name)
  long_view _ _ _ (module_next folder main modules file path fails) long = halts_long folder main modules file path fails long
  long_view _ _ _ (config_next p unread name some) long = (name, some, file_long long)
  long_view _ _ _ (log_next p c s read name names) long = file_long long

  text_view : (stage : Stage) (report : List ℕ) → Rejects (Some files) job stage report → View stage report
  text_view _ _ (in_a_module folder main modules why path is text) = halts_text folder main modules why path is text
  text_view _ _ (in_all_modules folder main all why path is twice) = halts_twice folder main all why path is twice
  text_view _ _ (in_the_configuration p unread name text kind at some has reads) = (name, some, file_refused text _ has (kind, at, reads, refl))
  text_view _ _ (in_an_instance w unread c fault is) = inl (fault, is, refl)
  text_view _ _ (in_a_piece w p unread c index root expands word needs) = inr (p, expands, word, (index, root, needs))
  text_view _ _ (in_names p c fault is) = (fault, is, refl)
  text_view _ _ (in_forms p c s fault is) = (fault, is, refl)
  text_view _ _ (in_a_log p c s read name names text refusal log says) = file_refused text _ log (refusal, says, refl)

  pub view_of : (stage : Stage) (report : List ℕ) → Halts files job stage report → View stage report
  view_of stage _ (at_missing name limit next none) = missing_view stage name limit next none
  view_of stage _ (at_long name limit next long) = long_view stage name limit next long
  view_of stage _ (at_text report rejects) = text_view stage report rejects
