-- Beside an accepted reading nothing is refused, and each file that is sought is there and is not too long.
use Rattle.std.proofs.Common.{Result, ◌≡◌, ◌<◌, ℕ, List, [], ◌∷◌, length, Some, None, Ok, Err, inl, inr, sym, ◌∙◌, subst, arith}
use Rattle.std.specs.Prelude.{Bool, true}
use Rattle.base_core.specs.Device.{File, IsLonger, found}
use Rattle.base_core.specs.declared.place.Place.{Place}
use Rattle.base_core.specs.declared.reading.ReadFault.{ReadFault}
use Rattle.base_core.specs.declared.reading.ReadFault.TheVariants.{Missing, Failed, TooLong}
use Rattle.reading_trees.specs.declared.config.Config.{Config}
use Rattle.reading_trees.specs.declared.module.Program.{Program}
use Rattle.reading_trees.specs.declared.module.WholeProgram.{WholeProgram}
use Rattle.reading_configuration.specs.declared.fault.ConfigKind.{ConfigKind}
use Rattle.reading_wide_configuration.specs.Wide.{ReadsBy}
use Rattle.reading_modules.specs.declared.fault.LoadWhy.{LoadWhy}
use Rattle.reading_modules.specs.declared.fault.LoadWhy.TheVariants.{Read, Lex, Lay, Parse, Cycle, TooMany, Twice, WrongName, Nested}
use Rattle.reading_modules.specs.declared.notes.Noted.{Noted}
use Rattle.reading_modules.specs.declared.so_far.Gathered.{Gathered}
use Rattle.reading_modules.specs.Flattened.{FlattenedBy, OutcomeOf}
use Rattle.reading_modules.specs.Paths.{IsPath}
use Rattle.reading_modules.specs.Refusals.{IsUnread, module_limit}
use Rattle.reading_wide_modules.specs.declared.unread.Unread.{Unread}
use Rattle.reading_wide_modules.specs.Laws.{NothingRepeatsWide, WideFlatteningMayStop}
use Rattle.reading_wide_modules.specs.Wide.{reading_by}
use Rattle.names_terms.specs.declared.spec.Spec.{Spec}
use Rattle.names_resolving.specs.declared.fault.ResolveFault.{ResolveFault}
use Rattle.names_specification.specs.Resolving.{ResolvedBy}
use Rattle.names_whole_programs.specs.Expansion.{ExpansionBy}
use Rattle.run_wide.specs.Answers.{NeedsPiece}
use Rattle.run_wide.specs.Passing.{Passes}
use Rattle.names_specification_laws.specs.IsSpec.{IsSpec}
use Rattle.twice_tables.specs.Outcome.{AreAlike}
use Rattle.reading_laws.specs.OneReading.{NoConfigurationRefused}
use Rattle.run_words.specs.declared.job.Job.{Job}
use Rattle.run_reading_defs.specs.Texts.{HasText, LogsRead, bytes_left, config_limit}
use Rattle.run_reading_defs.specs.Reaches.{IsNext, Reaches, Stage, config_next, configured, given, loaded, log_next, logged, module_next, resolved}
use Rattle.run_reading_defs.specs.Refusals.{IsOfText, IsRefusal, Rejects, in_a_log, in_a_module, in_a_piece, in_an_instance, in_all_modules, in_forms, in_names, in_the_configuration, is_missing, is_refused, is_too_long}
use Rattle.twice_readings.proofs.OneReading.{AreGiven, Given, Parts, ProgramOf, begun_same, configured_same, expanded_same, one_expanded, form_is_one, given_form, given_same, in_order, passed_there, passing_parts, program_of, resolved_there, same_program}
use Rattle.twice_readings.proofs.Passing.{no_piece}
use Rattle.twice_readings.proofs.Outcomes.{one_outcome_by}
use Rattle.twice_readings.proofs.SameLogs.{one_text}
use Rattle.twice_readings.proofs.Stages.{ConfiguredBy, LoadedBy, configured_by, given_by, loaded_by, logged_from, none_is_some, resolved_by, some_is}
use Rattle.twice_readings.proofs.Forms.{FormsKnown, forms_accepted}
use Rattle.twice_readings.proofs.LogsBeside.{log_accepted, log_there, whole_forms}
use Rattle.twice_readings.proofs.Sought.{flattening_so}

-- What is known of the parts of reading, and of what is refused beside them.
pub record Known : Type 0 where
  pub parts : Parts
  pub forms : FormsKnown
  pub stops : WideFlatteningMayStop
  pub repeats : NothingRepeatsWide
  pub configuration : NoConfigurationRefused

missing_no_fail : Missing ≡ Failed → ⊥
missing_no_fail e = cc

long_no_fail : TooLong ≡ Failed → ⊥
long_no_fail e = cc

-- The file is there, and is not too long.
pub record IsThere (files : List File) (name : List ℕ) (limit : ℕ) : Type 0 where
  pub found_there : found name files ≡ None → ⊥
  pub short : IsLonger name (Some files) limit → ⊥

pub there_of : (files : List File) (name : List ℕ) (limit : ℕ) (text : List ℕ) → HasText (Some files) name limit text → IsThere files name limit
there_of files name limit text h = record {
  found_there = λ e. none_is_some text (sym e ∙ h.whole);
  short = λ l.
      let same : l.0 ≡ text = some_is l.0 text (sym l.1 ∙ h.whole) in
      let long : limit < length text = subst (λ (x : List ℕ). limit < length x) same l.2 in
      omega (arith, long, h.short);
}

never_both : (fault : ResolveFault) (p : Program) → (let r : Result Program ResolveFault = Err fault in r ≡ Ok p) → ⊥
never_both fault p e = cc

module _ (known : Known) (files : List File) (job : Job) where
  -- ---- modules

  abbrev Flat : List ℕ → List ℕ → OutcomeOf Unread → Type 0
  Flat folder name outcome = FlattenedBy (reading_by job.wide) (Some files) folder name outcome

  text_accepted : (folder name : List ℕ) (all : Gathered Unread) (modules : List (List ℕ)) (why : LoadWhy) → Flat folder name (Ok all)
      → Flat folder name (Err (modules, why)) → IsOfText why → ⊥
  text_accepted folder name all modules (Read file fault) h g t = t
  text_accepted folder name all modules (Lex why at) h g t = known.stops job.wide files folder name all modules (Lex why at) h g
  text_accepted folder name all modules (Lay at) h g t = known.stops job.wide files folder name all modules (Lay at) h g
  text_accepted folder name all modules (Parse fault) h g t = known.stops job.wide files folder name all modules (Parse fault) h g
  text_accepted folder name all modules (Cycle names) h g t = known.stops job.wide files folder name all modules (Cycle names) h g
  text_accepted folder name all modules (TooMany other) h g t = known.stops job.wide files folder name all modules (TooMany other) h g
  text_accepted folder name all modules (Twice other later earlier) h g t = known.stops job.wide files folder name all modules (Twice other later earlier) h g
  text_accepted folder name all modules (WrongName other at) h g t = known.stops job.wide files folder name all modules (WrongName other at) h g
  text_accepted folder name all modules (Nested other at) h g t = known.stops job.wide files folder name all modules (Nested other at) h g

  module_read : (folder name : List ℕ) (all : Gathered Unread) (modules : List (List ℕ)) (file : List ℕ) (fault : ReadFault) → Flat folder name (Ok all)
      → Flat folder name (Err (modules, Read file Failed)) → IsUnread (Some files) file fault → fault ≡ Failed
  module_read folder name all modules file fault h g u =
      known.stops job.wide files folder name all modules (Read file fault) h (flattening_so (reading_by job.wide) (Some files) folder file fault u name modules g)

  module_there : (folder name : List ℕ) (all : Gathered Unread) (modules : List (List ℕ)) (file : List ℕ) → Flat folder name (Ok all)
      → Flat folder name (Err (modules, Read file Failed)) → IsThere files file module_limit
  module_there folder name all modules file h g = record {
    found_there = λ e. missing_no_fail (module_read folder name all modules file Missing h g e);
    short = λ l. long_no_fail (module_read folder name all modules file TooLong h g l);
  }

  -- ---- the configuration

  configuration_there : (p : WholeProgram) (c : Config) (name : List ℕ) → Given known.parts files job p c → job.config ≡ Some name → (text : List ℕ) × HasText (Some files) name config_limit text
  configuration_there p c name (inl a) some = absurd (none_is_some name (sym a.0 ∙ some))
  configuration_there p c name (inr a) some =
      (a.1, subst (λ (x : List ℕ). HasText (Some files) x config_limit a.1) (some_is a.0 name (sym a.2 ∙ some)) a.3)

  configuration_accepted : (p : WholeProgram) (c : Config) (name text : List ℕ) (kind : ConfigKind) (at : Place) → Given known.parts files job p c → job.config ≡ Some name
      → HasText (Some files) name config_limit text → ReadsBy job.wide (length p.program.files) name text (Err (kind, at)) → ⊥
  configuration_accepted p c name text kind at (inl a) some has reads = none_is_some name (sym a.0 ∙ some)
  configuration_accepted p c name text kind at (inr a) some has reads =
      let named : a.0 ≡ name = some_is a.0 name (sym a.2 ∙ some) in
      let texts : a.1 ≡ text = one_text files a.0 name config_limit config_limit a.1 text named a.3 has in
      let here : ReadsBy job.wide (length p.program.files) name a.1 (Ok c) = subst (λ (x : List ℕ). ReadsBy job.wide (length p.program.files) x a.1 (Ok c)) named a.4 in
      known.configuration job.wide (length p.program.files) name text c kind at (subst (λ (x : List ℕ). ReadsBy job.wide (length p.program.files) name x (Ok c)) texts here) reads

  -- ---- names

  names_accepted : (p q : Program) (c d : Config) (s : Spec) (fault : ResolveFault) → Reaches (Some files) job (resolved p c s) → Reaches (Some files) job (configured q d)
      → ResolvedBy job.wide q d job.silent (Err fault) → ⊥
  names_accepted p q c d s fault a reaches h =
      let by = resolved_by (Some files) job p c s a in
      let same = configured_same known.parts files job p q c d by.0 reaches in
      let there : ResolvedBy job.wide p c job.silent (Err fault) = resolved_there known.parts files job p q c d (Err fault) same h in
      one_outcome_by known.parts.outcome job.wide p c job.silent (form_is_one known.parts files job p c by.0) (Ok s) (Err fault) by.1 there

  -- ---- beside an accepted reading

  module _ (p : Program) (c : Config) (s : Spec) (all : LogsRead) (accepted : Reaches (Some files) job (logged p c s all [])) where
    from : Reaches (Some files) job (resolved p c s)
    from = logged_from (Some files) job p c s all [] accepted

    by : ConfiguredBy (Some files) job p c
    by = configured_by (Some files) job p c (resolved_by (Some files) job p c s from).0

    is_given : Reaches (Some files) job (loaded by.whole by.unread) × Given known.parts files job by.whole by.config
    is_given = given_by (Some files) job by.whole by.unread by.config by.reaches

    is_loaded : LoadedBy (Some files) job by.whole by.unread
    is_loaded = loaded_by (Some files) job by.whole by.unread is_given.0

    is_in_order : IsSpec s
    is_in_order = in_order known.parts files job p c s from

    pub alike_to : (q : Program) (d : Config) (t : Spec) → Reaches (Some files) job (resolved q d t) → AreAlike s t
    alike_to q d t reaches = (begun_same known.parts files job p q c d s t from reaches).specs

    is_program : (folder name : List ℕ) → IsPath job.module folder name → ProgramOf known.parts files job folder name by.whole by.unread
    is_program folder name path = program_of known.parts files job folder name by.whole by.unread path is_loaded

    one_more_program : (q : WholeProgram) (others : List (Noted Unread)) → Reaches (Some files) job (loaded q others) → by.whole ≡ q
    one_more_program q others reaches = (same_program known.parts files job by.whole q by.unread others is_loaded (loaded_by (Some files) job q others reaches)).0

    -- of the same texts
    same_given : (q : WholeProgram) (others : List (Noted Unread)) (d : Config) → Reaches (Some files) job (given q others d) → AreGiven known.parts files job q by.whole others by.unread d by.config
    same_given q others d reaches = given_same known.parts files job q by.whole others by.unread d by.config reaches by.reaches

    -- nothing is wrong with an instance
    instance_accepted : (q : WholeProgram) (others : List (Noted Unread)) (d : Config) (fault : ResolveFault) → Reaches (Some files) job (given q others d) → ExpansionBy job.wide q (Err fault) → ⊥
    instance_accepted q others d fault reaches wrong =
        never_both fault by.program (one_expanded known.parts files job q by.whole others by.unread d by.config (Err fault) (Ok by.program) (same_given q others d reaches) wrong by.expands)

    -- no piece is needed that was not read
    piece_accepted : (q : WholeProgram) (r : Program) (others : List (Noted Unread)) (d : Config) (index : ℕ) (root : List ℕ) → Reaches (Some files) job (given q others d) → ExpansionBy job.wide q (Ok r) → job.wide ≡ true
        → NeedsPiece r d job.silent others index root → ⊥
    piece_accepted q r others d index root reaches expands word needs =
        let same = same_given q others d reaches in
        let programs : r ≡ by.program = expanded_same known.parts files job q by.whole others by.unread d by.config r by.program same expands by.expands in
        let there : Passes r d job.silent others job.wide p c =
        passed_there known.parts files job q by.whole r by.program p others by.unread d by.config c same programs by.passed in
        no_piece (passing_parts known.parts) r d job.silent (given_form known.parts files job q others d reaches) others p c index root
        (subst (λ (w : Bool). Passes r d job.silent others w p c) word there) needs

    log_text : (q : Program) (d : Config) (t : Spec) (read : LogsRead) (name : List ℕ) (names : List (List ℕ)) → Reaches (Some files) job (logged q d t read (name ∷ names))
        → (text : List ℕ) × HasText (Some files) name (bytes_left read) text
    log_text q d t read name names reaches =
        let other : Reaches (Some files) job (resolved q d t) = logged_from (Some files) job q d t read (name ∷ names) reaches in
        log_there files job known.parts.files s t is_in_order (in_order known.parts files job q d t other) (alike_to q d t other) p q c d all read name names accepted reaches

    -- what is sought is there
    pub sought_there : (stage : Stage) (name : List ℕ) (limit : ℕ) → Reaches (Some files) job stage → IsNext (Some files) job stage name limit → IsThere files name limit
    sought_there _ _ _ reaches (module_next folder name modules file path flat) = module_there folder name (is_program folder name path).all modules file (is_program folder name path).flattened flat
    sought_there _ _ _ reaches (config_next q others name some) =
        let has = configuration_there by.whole by.config name is_given.1 some in
        there_of files name config_limit has.0 has.1
    sought_there _ _ _ reaches (log_next q d t read name names) = let has = log_text q d t read name names reaches in there_of files name (bytes_left read) has.0 has.1

    -- and no text is refused
    pub text_not_refused : (stage : Stage) (report : List ℕ) → Reaches (Some files) job stage → Rejects (Some files) job stage report → ⊥
    text_not_refused _ _ reaches (in_a_module folder name modules why path flat text) =
        text_accepted folder name (is_program folder name path).all modules why (is_program folder name path).flattened flat text
    text_not_refused _ _ reaches (in_all_modules folder name every why path flat twice) = known.repeats job.wide files folder name by.whole by.unread every why (is_program folder name path) flat twice
    text_not_refused _ _ reaches (in_the_configuration q others name text kind at some has reads) =
        let same : by.whole ≡ q = one_more_program q others reaches in
        configuration_accepted by.whole by.config name text kind at is_given.1 some has (subst (λ (x : WholeProgram). ReadsBy job.wide (length x.program.files) name text (Err (kind, at))) (sym same) reads)
    text_not_refused _ _ reaches (in_an_instance q others d fault wrong) = instance_accepted q others d fault reaches wrong
    text_not_refused _ _ reaches (in_a_piece q r others d index root expands word needs) = piece_accepted q r others d index root reaches expands word needs
    text_not_refused _ _ reaches (in_names q d fault is) = names_accepted p q c d s fault from reaches is
    text_not_refused _ _ reaches (in_forms q d t fault is) =
        forms_accepted known.forms s t is_in_order (in_order known.parts files job q d t reaches) (alike_to q d t reaches) fault
        (whole_forms (Some files) job p c s all [] accepted) is
    text_not_refused _ _ reaches (in_a_log q d t read name names text refusal log says) =
        let other : Reaches (Some files) job (resolved q d t) = logged_from (Some files) job q d t read (name ∷ names) reaches in
        log_accepted files job known.parts.files s t is_in_order (in_order known.parts files job q d t other) (alike_to q d t other) p q c d all read name names text refusal accepted
        reaches log says

    pub refused_never : (before now : ℕ) (report : List ℕ) → IsRefusal (Some files) before now job report → ⊥
    refused_never before now _ (is_missing name limit wants lacks) = (sought_there wants.stage name limit wants.reaches wants.is_next).found_there lacks
    refused_never before now _ (is_too_long name limit wants long) = (sought_there wants.stage name limit wants.reaches wants.is_next).short long
    refused_never before now _ (is_refused stage report reaches rejects) = text_not_refused stage report reaches rejects
