-- From what each stage ensures to the first refusal of the reading.
use Rattle.std.proofs.Common.{◌≡◌, ◌≤◌, ◌++◌, refl, sym, subst, ℕ, List, [], ◌∷◌, length, string_bytes, Option, Some, Result, Ok, Err, IfOk, IfErr}
use Rattle.base_core.specs.Device.{File, Rose, Lacks, IsLonger}
use Rattle.base_core.specs.declared.place.Place.{Place}
use Rattle.base_core.specs.declared.reading.ReadFault.{ReadFault}
use Rattle.base_core.specs.declared.reading.ReadFault.TheVariants as fault
use Rattle.reading_trees.specs.declared.config.Config.{Config}
use Rattle.reading_trees.specs.declared.module.Declared.{Declared}
use Rattle.reading_trees.specs.declared.module.Instance.{Instance as ModuleInstance}
use Rattle.reading_trees.specs.declared.module.Program.{Program}
use Rattle.reading_trees.specs.declared.module.WholeProgram.{WholeProgram}
use Rattle.reading_trees.specs.declared.module.Unit.{Unit as ModuleUnit}
use Rattle.reading_modules.specs.declared.fault.LoadFault.TheVariants as loads
use Rattle.reading_modules.specs.declared.fault.LoadWhy.{LoadWhy}
use Rattle.reading_modules.specs.declared.fault.LoadWhy.TheVariants.{Read, Lex, Lay, Parse, Cycle, TooMany, Twice, WrongName, Nested}
use Rattle.reading_modules.specs.declared.notes.Noted.{Noted}
use Rattle.reading_modules.specs.Flattened.{FlattenedBy}
use Rattle.reading_modules.specs.Loads.{IsRefusedBy, LoadsBy, files_of, in_a_module, in_the_whole}
use Rattle.reading_modules.specs.Paths.{IsPath}
use Rattle.reading_modules.specs.Refusals.{IsCaused, module_limit}
use Rattle.reading_modules.specs.Twice.{OneRepeats, Repeats, RepeatsInside, behind_it, in_instance, in_program, in_this}
use Rattle.reading_wide_modules.specs.declared.unread.Unread.{Unread}
use Rattle.reading_wide_modules.specs.Wide.{reading_by}
use Rattle.reading_configuration.specs.declared.fault.ConfigKind.{ConfigKind}
use Rattle.reading_wide_configuration.specs.Wide.{ReadsBy}
use Rattle.names_resolving.specs.declared.fault.ResolveFault.{ResolveFault}
use Rattle.names_whole_programs.specs.Expansion.{ExpansionBy}
use Rattle.names_terms.specs.declared.spec.Spec.{Spec}
use Rattle.actions_meanings.specs.declared.fault.FormFault.{FormFault}
use Rattle.steps_forms.specs.Forms.{IsFirstFault}
use Rattle.logs_lines.specs.declared.file.Refusal.{Refusal}
use Rattle.run_words.specs.declared.job.Job.{Job}
use Rattle.run_texts.specs.Files.{missing_text, too_long_text}
use Rattle.run_texts.specs.Modules.{module_refusal, piece_refusal}
use Rattle.run_texts.specs.Configs.{config_refusal}
use Rattle.run_texts.specs.Resolved.{names_refusal}
use Rattle.run_texts.specs.Forms.{form_refusal}
use Rattle.run_texts.specs.Logs.{log_refusal}
use Rattle.run_reading_defs.specs.Texts.{HasText, LogsRead, config_limit}
use Rattle.run_reading_defs.specs.Reaches.{IsLog, LogSays, Reaches, Wants, begins, begun, configured, given, loaded, logged, module_next, passes, reads_configuration, resolved}
use Rattle.run_reading_defs.specs.Refusals as rejects
use Rattle.run_reading_defs.specs.Refusals.{IsOfText, IsRefusal, all_files, is_missing, is_refused, is_too_long}
use Rattle.run_reading_defs.proofs.Later.{later_refusal, later_rose}
use Rattle.run_reading_defs.proofs.Unread.{unread_cause, wants_read}
use Rattle.run_stages.specs.declared.stop.Stop.{Stop}
use Rattle.run_stages.specs.declared.stop.Stop.TheVariants.{Refused, Device, NoMemory}
use Rattle.run_stages.specs.Stops.{FailsAt, IsModuleStop, IsUnreadBy, RefusedWith, StopsBy}
use Rattle.run_stages.specs.Resolving.{IsUnresolved, by_a_piece, by_names}

pub later_stop : (holds : Option (List File)) (a b n : ℕ) (job : Job) (stop : Stop) → a ≤ b → StopsBy holds b n job stop → StopsBy holds a n job stop
later_stop holds a b n job (Refused report) le h = later_refusal holds a b n job (string_bytes report) le h
later_stop holds a b n job (Device name) le h = (later_rose a b n le h.0, h.1)
later_stop holds a b n job NoMemory le h = tt

-- a refusal behind all modules is that of a name that is declared twice
abbrev IsOfTwice : LoadWhy → Type 0
IsOfTwice (Twice name later earlier) = Unit {0}
IsOfTwice (Read file f) = ⊥
IsOfTwice (Lex why at) = ⊥
IsOfTwice (Lay at) = ⊥
IsOfTwice (Parse f) = ⊥
IsOfTwice (Cycle names) = ⊥
IsOfTwice (TooMany name) = ⊥
IsOfTwice (WrongName name at) = ⊥
IsOfTwice (Nested name at) = ⊥

repeats_twice : (standard : List (List ℕ)) (ds : List Declared) (why : LoadWhy) → Repeats standard ds why → IsOfTwice why
repeats_twice standard ds (Twice name later earlier) r = tt
repeats_twice standard ds (Read file f) r = r
repeats_twice standard ds (Lex why at) r = r
repeats_twice standard ds (Lay at) r = r
repeats_twice standard ds (Parse f) r = r
repeats_twice standard ds (Cycle names) r = r
repeats_twice standard ds (TooMany name) r = r
repeats_twice standard ds (WrongName name at) r = r
repeats_twice standard ds (Nested name at) r = r

inside_twice : (is : List ModuleInstance) (why : LoadWhy) → RepeatsInside is why → IsOfTwice why
inside_twice _ _ (in_this i is why r) = repeats_twice _ _ why r
inside_twice _ _ (behind_it i is why new r) = inside_twice is why r

one_twice : (standard : List (List ℕ)) (units : List ModuleUnit) (is : List ModuleInstance) (why : LoadWhy) → OneRepeats standard units is why → IsOfTwice why
one_twice standard units is _ (in_program why r) = repeats_twice _ _ why r
one_twice standard units is _ (in_instance why new r) = inside_twice is why r

module _ (holds : Option (List File)) (before now : ℕ) (job : Job) where
  pub refused_with : (P : List ℕ → Type 0) → ((report : List ℕ) → P report → IsRefusal holds before now job report) → (stop : Stop) → RefusedWith P stop → StopsBy holds before now job stop
  refused_with P f (Refused report) h = f (string_bytes report) h
  refused_with P f (Device name) h = absurd h
  refused_with P f NoMemory h = tt

  as_report : (report other : List ℕ) → report ≡ other → IsRefusal holds before now job other → IsRefusal holds before now job report
  as_report report other e h = subst (λ (r : List ℕ). IsRefusal holds before now job r) (sym e) h

  fails_at : (name : List ℕ) (limit : ℕ) → Wants holds job name limit → Rose before now → (stop : Stop) → FailsAt name stop → StopsBy holds before now job stop
  fails_at name limit wants rose (Refused report) h = absurd h
  fails_at name limit wants rose (Device file) h = (rose, (limit, subst (λ (n : List ℕ). Wants holds job n limit) (sym h) wants))
  fails_at name limit wants rose NoMemory h = tt

  pub unread_stop : (name : List ℕ) (limit : ℕ) (f : ReadFault) (stop : Stop) → Wants holds job name limit → (f ≡ fault.Missing → Lacks name holds before now)
      → (f ≡ fault.TooLong → IsLonger name holds limit) → (f ≡ fault.Failed → Rose before now) → IsUnreadBy f name stop → StopsBy holds before now job stop
  unread_stop name limit fault.Missing stop wants lacks longer rose h =
      refused_with (λ r. r ≡ missing_text name) (λ report e. as_report report (missing_text name) e (is_missing name limit wants (lacks refl))) stop h
  unread_stop name limit fault.TooLong stop wants lacks longer rose h =
      refused_with (λ r. r ≡ too_long_text name) (λ report e. as_report report (too_long_text name) e (is_too_long name limit wants (longer refl))) stop h
  unread_stop name limit fault.Failed stop wants lacks longer rose h = fails_at name limit wants (rose refl) stop h
  unread_stop name limit fault.NoMemory stop wants lacks longer rose h = refused_with (λ r. ⊥) (λ report e. absurd e) stop h

  missing_lacks : (file : List ℕ) (f : ReadFault) → IsCaused holds before now (Read file f) → f ≡ fault.Missing → Lacks file holds before now
  missing_lacks file f h e = subst (λ (g : ReadFault). IsCaused holds before now (Read file g)) e h

  failed_rose : (file : List ℕ) (f : ReadFault) → IsCaused holds before now (Read file f) → f ≡ fault.Failed → Rose before now
  failed_rose file f h e = subst (λ (g : ReadFault). IsCaused holds before now (Read file g)) e h

  of_read : (folder name : List ℕ) (modules : List (List ℕ)) (file : List ℕ) (f : ReadFault) (stop : Stop) → IsPath job.module folder name
      → FlattenedBy (reading_by job.wide) holds folder name (Err (modules, Read file f)) → IsCaused holds before now (Read file f) → IsUnreadBy f file stop → StopsBy holds before now job stop
  of_read folder name modules file f stop path flat caused h =
      unread_stop file module_limit f stop
      (record { stage = begun; reaches = begins; is_next = module_next folder name modules file path (wants_read (reading_by job.wide) holds folder name modules file f flat) })
      (missing_lacks file f caused)
      (λ e. unread_cause (reading_by job.wide) holds folder name modules file fault.TooLong (subst (λ (g : ReadFault). FlattenedBy (reading_by job.wide) holds folder name (Err (modules, Read file g))) e flat))
      (failed_rose file f caused) h

  of_text : (folder name : List ℕ) (modules : List (List ℕ)) (why : LoadWhy) (stop : Stop) → IsPath job.module folder name → FlattenedBy (reading_by job.wide) holds folder name (Err (modules, why)) → IsOfText why
      → RefusedWith (λ r. r ≡ module_refusal (files_of folder modules) why) stop → StopsBy holds before now job stop
  of_text folder name modules why stop path flat text h =
      refused_with (λ r. r ≡ module_refusal (files_of folder modules) why)
      (λ report e. as_report report (module_refusal (files_of folder modules) why) e (is_refused begun (module_refusal (files_of folder modules) why) begins (rejects.in_a_module folder name modules why path flat text))) stop h

  in_module : (folder name : List ℕ) (modules : List (List ℕ)) (why : LoadWhy) (stop : Stop) → IsPath job.module folder name → FlattenedBy (reading_by job.wide) holds folder name (Err (modules, why))
      → IsCaused holds before now why → IsModuleStop (files_of folder modules) why stop → StopsBy holds before now job stop
  in_module folder name modules (Read file f) stop path flat caused h = of_read folder name modules file f stop path flat caused h
  in_module folder name modules (Lex why at) stop path flat caused h = of_text folder name modules (Lex why at) stop path flat tt h
  in_module folder name modules (Lay at) stop path flat caused h = of_text folder name modules (Lay at) stop path flat tt h
  in_module folder name modules (Parse f) stop path flat caused h = of_text folder name modules (Parse f) stop path flat tt h
  in_module folder name modules (Cycle names) stop path flat caused h = of_text folder name modules (Cycle names) stop path flat tt h
  in_module folder name modules (TooMany file) stop path flat caused h = of_text folder name modules (TooMany file) stop path flat tt h
  in_module folder name modules (Twice file later earlier) stop path flat caused h = of_text folder name modules (Twice file later earlier) stop path flat tt h
  in_module folder name modules (WrongName file at) stop path flat caused h = of_text folder name modules (WrongName file at) stop path flat tt h
  in_module folder name modules (Nested file at) stop path flat caused h = of_text folder name modules (Nested file at) stop path flat tt h

  by_refused : (folder name : List ℕ) (files : List (List ℕ)) (why : LoadWhy) (stop : Stop) → IsPath job.module folder name → IsRefusedBy (reading_by job.wide) holds before now folder name files why
      → IsModuleStop files why stop → StopsBy holds before now job stop
  by_refused folder name _ _ stop path (in_a_module modules why flat caused) h = in_module folder name modules why stop path flat caused h
  by_refused folder name _ _ stop path (in_the_whole all (Twice file later earlier) flat repeats) h =
      refused_with (λ r. r ≡ module_refusal (files_of folder all.modules) (Twice file later earlier))
      (λ report e. as_report report (module_refusal (files_of folder all.modules) (Twice file later earlier)) e (is_refused begun (module_refusal (files_of folder all.modules) (Twice file later earlier)) begins
      (rejects.in_all_modules folder name all (Twice file later earlier) path flat repeats))) stop h
  by_refused folder name _ _ stop path (in_the_whole all (Read file f) flat repeats) h = absurd (one_twice all.standard all.units all.instances _ repeats)
  by_refused folder name _ _ stop path (in_the_whole all (Lex why at) flat repeats) h = absurd (one_twice all.standard all.units all.instances _ repeats)
  by_refused folder name _ _ stop path (in_the_whole all (Lay at) flat repeats) h = absurd (one_twice all.standard all.units all.instances _ repeats)
  by_refused folder name _ _ stop path (in_the_whole all (Parse f) flat repeats) h = absurd (one_twice all.standard all.units all.instances _ repeats)
  by_refused folder name _ _ stop path (in_the_whole all (Cycle names) flat repeats) h = absurd (one_twice all.standard all.units all.instances _ repeats)
  by_refused folder name _ _ stop path (in_the_whole all (TooMany file) flat repeats) h = absurd (one_twice all.standard all.units all.instances _ repeats)
  by_refused folder name _ _ stop path (in_the_whole all (WrongName file at) flat repeats) h = absurd (one_twice all.standard all.units all.instances _ repeats)
  by_refused folder name _ _ stop path (in_the_whole all (Nested file at) flat repeats) h = absurd (one_twice all.standard all.units all.instances _ repeats)

  pub module_stop : (files : List (List ℕ)) (why : LoadWhy) (stop : Stop) → LoadsBy (reading_by job.wide) holds before now job.module (Err (loads.Refused files why)) → IsModuleStop files why stop
      → StopsBy holds before now job stop
  module_stop files why stop h s = by_refused h.0 h.1 files why stop h.2 h.3 s

  pub config_stop : (whole : WholeProgram) (unread : List (Noted Unread)) (name text : List ℕ) (stop : Stop) → Reaches holds job (loaded whole unread) → job.config ≡ Some name → HasText holds name config_limit text
      → RefusedWith (λ report. (kind : ConfigKind) × (at : Place) × ReadsBy job.wide (length whole.program.files) name text (Err (kind, at)) × (report ≡ config_refusal (whole.program.files ++ name ∷ []) kind at)) stop
      → StopsBy holds before now job stop
  config_stop whole unread name text stop reaches e has h =
      refused_with (λ report. (kind : ConfigKind) × (at : Place) × ReadsBy job.wide (length whole.program.files) name text (Err (kind, at)) × (report ≡ config_refusal (whole.program.files ++ name ∷ []) kind at))
      (λ report r. as_report report (config_refusal (whole.program.files ++ name ∷ []) r.0 r.1) r.3 (is_refused (loaded whole unread) (config_refusal (whole.program.files ++ name ∷ []) r.0 r.1) reaches
      (rejects.in_the_configuration whole unread name text r.0 r.1 e has r.2))) stop h

  pub expanding_stop : (whole : WholeProgram) (unread : List (Noted Unread)) (c : Config) (stop : Stop) → Reaches holds job (given whole unread c)
      → RefusedWith (λ report. (f : ResolveFault) × ExpansionBy job.wide whole (Err f) × (report ≡ names_refusal (all_files whole.program c) f)) stop → StopsBy holds before now job stop
  expanding_stop whole unread c stop reaches h =
      refused_with (λ report. (f : ResolveFault) × ExpansionBy job.wide whole (Err f) × (report ≡ names_refusal (all_files whole.program c) f))
      (λ report r. as_report report (names_refusal (all_files whole.program c) r.0) r.2 (is_refused (given whole unread c) (names_refusal (all_files whole.program c) r.0) reaches
      (rejects.in_an_instance whole unread c r.0 r.1))) stop h

  unresolved : (whole : WholeProgram) (p : Program) (unread : List (Noted Unread)) (c : Config) (report : List ℕ) → Reaches holds job (given whole unread c) → ExpansionBy job.wide whole (Ok p)
      → IsUnresolved job.wide p c job.silent unread report → IsRefusal holds before now job report
  unresolved whole p unread c _ reaches expands (by_names q d f passed is) =
      is_refused (configured q d) (names_refusal (all_files q d) f) (passes whole p q unread c d reaches expands passed) (rejects.in_names q d f is)
  unresolved whole p unread c _ reaches expands (by_a_piece index root wide n) =
      is_refused (given whole unread c) (piece_refusal p.files n.piece.note.why root) reaches (rejects.in_a_piece whole p unread c index root expands wide n)

  pub unresolved_stop : (whole : WholeProgram) (p : Program) (unread : List (Noted Unread)) (c : Config) (stop : Stop) → Reaches holds job (given whole unread c) → ExpansionBy job.wide whole (Ok p)
      → RefusedWith (IsUnresolved job.wide p c job.silent unread) stop → StopsBy holds before now job stop
  unresolved_stop whole p unread c stop reaches expands h =
      refused_with (IsUnresolved job.wide p c job.silent unread) (λ report r. unresolved whole p unread c report reaches expands r) stop h

  pub forms_stop : (p : Program) (c : Config) (s : Spec) (stop : Stop) → Reaches holds job (resolved p c s)
      → RefusedWith (λ report. (f : FormFault) × IsFirstFault s f × (report ≡ form_refusal (all_files p c) s.variables f)) stop → StopsBy holds before now job stop
  forms_stop p c s stop reaches h =
      refused_with (λ report. (f : FormFault) × IsFirstFault s f × (report ≡ form_refusal (all_files p c) s.variables f))
      (λ report r. as_report report (form_refusal (all_files p c) s.variables r.0) r.2 (is_refused (resolved p c s) (form_refusal (all_files p c) s.variables r.0) reaches (rejects.in_forms p c s r.0 r.1))) stop h

  pub log_stop : (p : Program) (c : Config) (s : Spec) (read : LogsRead) (name : List ℕ) (names : List (List ℕ)) (text report : List ℕ) (r : Refusal)
      → Reaches holds job (logged p c s read (name ∷ names)) → IsLog holds read name text → LogSays job s read text (Err r) → report ≡ log_refusal name r
      → IsRefusal holds before now job report
  log_stop p c s read name names text report r reaches is says e =
      as_report report (log_refusal name r) e (is_refused (logged p c s read (name ∷ names)) (log_refusal name r) reaches (rejects.in_a_log p c s read name names text r is says))

  -- what a configuration's text gives
  pub config_accepted : (whole : WholeProgram) (unread : List (Noted Unread)) (name text : List ℕ) (r : Result Config Stop) → Reaches holds job (loaded whole unread) → job.config ≡ Some name → HasText holds name config_limit text
      → IfOk r (λ c. ReadsBy job.wide (length whole.program.files) name text (Ok c)) → IfOk r (λ c. Reaches holds job (given whole unread c))
  config_accepted whole unread name text (Ok c) reaches e has h = reads_configuration whole unread name text c reaches e has h
  config_accepted whole unread name text (Err stop) reaches e has h = tt

  pub config_refused : (whole : WholeProgram) (unread : List (Noted Unread)) (name text : List ℕ) (r : Result Config Stop) → Reaches holds job (loaded whole unread) → job.config ≡ Some name → HasText holds name config_limit text
      → IfErr r (RefusedWith (λ report. (kind : ConfigKind) × (at : Place) × ReadsBy job.wide (length whole.program.files) name text (Err (kind, at)) × (report ≡ config_refusal (whole.program.files ++ name ∷ []) kind at)))
      → IfErr r (StopsBy holds before now job)
  config_refused whole unread name text (Ok c) reaches e has h = tt
  config_refused whole unread name text (Err stop) reaches e has h = config_stop whole unread name text stop reaches e has h

-- through a result
pub err_later : {X : Type 0} (holds other : Option (List File)) (a b n : ℕ) (job : Job) (r : Result X Stop) → other ≡ holds → a ≤ b → IfErr r (StopsBy other b n job)
    → IfErr r (StopsBy holds a n job)
err_later holds other a b n job (Ok x) e le h = tt
err_later holds other a b n job (Err stop) e le h = later_stop holds a b n job stop le (subst (λ (k : Option (List File)). StopsBy k b n job stop) e h)

pub err_mapped : {X : Type 0} (P Q : Stop → Type 0) (r : Result X Stop) → ((stop : Stop) → P stop → Q stop) → IfErr r P → IfErr r Q
err_mapped P Q (Ok x) f h = tt
err_mapped P Q (Err stop) f h = f stop h
