-- Two refusals of one run are one: no reading goes on behind a stage at which another does not, and at one stage all say the same.
use Rattle.std.proofs.Common.{◌≡◌, ◌∙◌, ◌<◌, ◌++◌, ℕ, List, [], ◌∷◌, length, Some, Result, Ok, Err, arith, inl, inr, refl, subst, sym}
use Rattle.std.proofs.lemmas.Bool.{cases_lt}
use Rattle.std.specs.Prelude.{◌⊎◌, Bool}
use Rattle.base_core.specs.Device.{File}
use Rattle.base_core.specs.declared.place.Place.{Place}
use Rattle.base_core.specs.declared.reading.ReadFault.{ReadFault}
use Rattle.base_core.specs.declared.reading.ReadFault.TheVariants.{Failed, Missing, TooLong}
use Rattle.reading_trees.specs.declared.config.Config.{Config}
use Rattle.reading_trees.specs.declared.module.Program.{Program}
use Rattle.reading_trees.specs.declared.module.WholeProgram.{WholeProgram}
use Rattle.reading_configuration.specs.declared.fault.ConfigKind.{ConfigKind}
use Rattle.reading_modules.specs.declared.fault.LoadWhy.{LoadWhy}
use Rattle.reading_modules.specs.declared.fault.LoadWhy.TheVariants.{Cycle, Lay, Lex, Nested, Parse, Read, TooMany, Twice, WrongName}
use Rattle.reading_modules.specs.declared.notes.Noted.{Noted}
use Rattle.reading_modules.specs.declared.so_far.Gathered.{Gathered}
use Rattle.reading_modules.specs.Flattened.{FlattenedBy}
use Rattle.reading_modules.specs.Refusals.{IsUnread}
use Rattle.reading_wide_configuration.specs.Laws as config
use Rattle.reading_wide_configuration.specs.Wide.{ReadsBy}
use Rattle.reading_wide_modules.specs.declared.unread.Unread.{Unread}
use Rattle.reading_wide_modules.specs.Laws.{NothingRepeatsWide, WideFlatteningMayStop}
use Rattle.reading_wide_modules.specs.Wide.{reading_by}
use Rattle.names_terms.specs.declared.spec.Spec.{Spec}
use Rattle.names_resolving.specs.declared.fault.ResolveFault.{ResolveFault}
use Rattle.names_specification.specs.Resolving.{ResolvedBy}
use Rattle.actions_meanings.specs.declared.fault.FormFault.{FormFault}
use Rattle.steps_forms.specs.Forms.{IsFirstFault}
use Rattle.run_wide.specs.Passing.{Passes}
use Rattle.names_specification_laws.specs.IsSpec.{IsSpec}
use Rattle.twice_tables.specs.Outcome.{AreAlike}
use Rattle.run_words.specs.declared.job.Job.{Job}
use Rattle.run_texts.specs.Configs.{config_refusal}
use Rattle.run_texts.specs.Forms.{form_refusal}
use Rattle.run_texts.specs.Resolved.{names_refusal}
use Rattle.run_reading_defs.specs.Texts.{HasText, LogsRead, config_limit}
use Rattle.run_reading_defs.specs.Reaches.{Reaches, Stage, begun, configured, given, loaded, logged, resolved}
use Rattle.run_reading_defs.specs.Refusals.{IsOfText, IsRefusal, all_files, is_missing, is_refused, is_too_long}
use Rattle.reading_laws.specs.OneReading.{NoConfigurationRefused}
use Rattle.twice_readings.proofs.OneReading.{Given, Parts, begun_same, configured_same, expanded_same, one_expanded, form_is_one, given_form, given_same, in_order, passed_there, passing_parts, program_of, resolved_there, same_program}
use Rattle.twice_readings.proofs.Outcomes.{one_outcome_by}
use Rattle.twice_readings.proofs.Passing.{no_piece}
use Rattle.twice_readings.proofs.Stages.{ConfiguredBy, LoadedBy, configured_by, given_by, loaded_by, logged_from, none_is_some, resolved_by, some_is}
use Rattle.twice_readings.proofs.Forms.{FormsKnown, forms_accepted}
use Rattle.twice_readings.proofs.LogsBeside.{whole_forms}
use Rattle.twice_readings.proofs.Sought.{flattening_so}
use Rattle.twice_readings.specs.Refusals.{Halts, IsMade, ModulesHaltOnce, PiecesHaltOnce, RefusalIsOne, at_long, at_missing, at_text}
use Rattle.twice_readings.proofs.FileHalts.{FileHalts, no_halt, one_halt}
use Rattle.twice_readings.proofs.FirstFaults.{one_first}
use Rattle.twice_readings.proofs.LogHalts.{LogHalts, log_alone, log_never}
use Rattle.twice_readings.proofs.Views.{ConfigRefused, InstanceHalts, ModulesHalt, PieceHalts, View, halts_long, halts_missing, halts_text, halts_twice, view_of}

-- What is known of the parts of reading, and of what is refused beside them.
pub record Known : Type 0 where
  pub parts : Parts
  pub forms : FormsKnown
  pub stops : WideFlatteningMayStop
  pub repeats : NothingRepeatsWide
  pub configuration : NoConfigurationRefused
  pub one_configuration : config.OneConfiguration

missing_no_fail : Missing ≡ Failed → ⊥
missing_no_fail e = cc

long_no_fail : TooLong ≡ Failed → ⊥
long_no_fail e = cc

pair_is : (x y : ConfigKind × Place) (r q : Result Config (ConfigKind × Place)) → r ≡ Err x → q ≡ Err y → r ≡ q → x ≡ y
pair_is x y r q a b e = let there : Err x ≡ Err y = sym a ∙ e ∙ b in cc

never_both : (fault : ResolveFault) (p : Program) → (let r : Result Program ResolveFault = Err fault in r ≡ Ok p) → ⊥
never_both fault p e = cc

never_either : (p : Program) (fault : ResolveFault) → (let r : Result Program ResolveFault = Ok p in r ≡ Err fault) → ⊥
never_either p fault e = cc

fault_is : (f g : ResolveFault) → (let r : Result Program ResolveFault = Err f in r ≡ Err g) → f ≡ g
fault_is f g e = cc

module _ (known : Known) (files : List File) (job : Job) where
  abbrev Flat : List ℕ → List ℕ → Gathered Unread → Type 0
  Flat folder main all = FlattenedBy (reading_by job.wide) (Some files) folder main (Ok all)

  -- ---- behind the modules

  text_accepted : (folder main : List ℕ) (all : Gathered Unread) (modules : List (List ℕ)) (why : LoadWhy) → Flat folder main all
      → FlattenedBy (reading_by job.wide) (Some files) folder main (Err (modules, why)) → IsOfText why → ⊥
  text_accepted folder main all modules (Read file fault) h g t = t
  text_accepted folder main all modules (Lex why at) h g t = known.stops job.wide files folder main all modules (Lex why at) h g
  text_accepted folder main all modules (Lay at) h g t = known.stops job.wide files folder main all modules (Lay at) h g
  text_accepted folder main all modules (Parse fault) h g t = known.stops job.wide files folder main all modules (Parse fault) h g
  text_accepted folder main all modules (Cycle names) h g t = known.stops job.wide files folder main all modules (Cycle names) h g
  text_accepted folder main all modules (TooMany other) h g t = known.stops job.wide files folder main all modules (TooMany other) h g
  text_accepted folder main all modules (Twice other later earlier) h g t = known.stops job.wide files folder main all modules (Twice other later earlier) h g
  text_accepted folder main all modules (WrongName other at) h g t = known.stops job.wide files folder main all modules (WrongName other at) h g
  text_accepted folder main all modules (Nested other at) h g t = known.stops job.wide files folder main all modules (Nested other at) h g

  file_accepted : (folder main : List ℕ) (all : Gathered Unread) (modules : List (List ℕ)) (file : List ℕ) (fault : ReadFault) → Flat folder main all
      → FlattenedBy (reading_by job.wide) (Some files) folder main (Err (modules, Read file Failed)) → IsUnread (Some files) file fault → fault ≡ Failed
  file_accepted folder main all modules file fault h g u =
      known.stops job.wide files folder main all modules (Read file fault) h (flattening_so (reading_by job.wide) (Some files) folder file fault u main modules g)

  never_begun : (p : WholeProgram) (unread : List (Noted Unread)) → LoadedBy (Some files) job p unread → ModulesHalt files job → ⊥
  never_begun p unread by (halts_missing folder main modules file path fails none) =
      let is = program_of known.parts files job folder main p unread path by in
      missing_no_fail (file_accepted folder main is.all modules file Missing is.flattened fails none)
  never_begun p unread by (halts_long folder main modules file path fails long) =
      let is = program_of known.parts files job folder main p unread path by in
      long_no_fail (file_accepted folder main is.all modules file TooLong is.flattened fails long)
  never_begun p unread by (halts_text folder main modules why path flat text) =
      let is = program_of known.parts files job folder main p unread path by in
      text_accepted folder main is.all modules why is.flattened flat text
  never_begun p unread by (halts_twice folder main all why path flat twice) =
      known.repeats job.wide files folder main p unread all why (program_of known.parts files job folder main p unread path by) flat twice

  -- ---- behind the configuration

  one_program : (p q : WholeProgram) (unread others : List (Noted Unread)) → Reaches (Some files) job (loaded p unread) → Reaches (Some files) job (loaded q others) → p ≡ q
  one_program p q unread others a b = (same_program known.parts files job p q unread others (loaded_by (Some files) job p unread a) (loaded_by (Some files) job q others b)).0

  abbrev ConfigView : WholeProgram → List ℕ → Type 0
  ConfigView q report = (name : List ℕ) × (job.config ≡ Some name) × FileHalts files name config_limit (ConfigRefused files job q name) report

  config_never : (p q : WholeProgram) (c : Config) (report : List ℕ) → p ≡ q → Given known.parts files job p c → ConfigView q report → ⊥
  config_never p q c report same (inl a) view = none_is_some view.0 (sym a.0 ∙ view.1)
  config_never p q c report same (inr a) view =
      let named : a.0 ≡ view.0 = some_is a.0 view.0 (sym a.2 ∙ view.1) in
      let has : HasText (Some files) view.0 config_limit a.1 = subst (λ (x : List ℕ). HasText (Some files) x config_limit a.1) named a.3 in
      let here : ReadsBy job.wide (length p.program.files) view.0 a.1 (Ok c) = subst (λ (x : List ℕ). ReadsBy job.wide (length p.program.files) x a.1 (Ok c)) named a.4 in
      let reads : ReadsBy job.wide (length q.program.files) view.0 a.1 (Ok c) = subst (λ (x : WholeProgram). ReadsBy job.wide (length x.program.files) view.0 a.1 (Ok c)) same here in
      no_halt files view.0 config_limit (ConfigRefused files job q view.0) a.1 has
      (λ r bad. known.configuration job.wide (length q.program.files) view.0 a.1 c bad.0 bad.1 reads bad.2) report view.2

  never_loaded : (p q : WholeProgram) (unread others : List (Noted Unread)) (c : Config) (report : List ℕ) → Reaches (Some files) job (given p unread c) → Reaches (Some files) job (loaded q others)
      → View files job (loaded q others) report → ⊥
  never_loaded p q unread others c report a b view =
      let by = given_by (Some files) job p unread c a in
      config_never p q c report (one_program p q unread others by.0 b) by.1 view

  config_alone : (p q : WholeProgram) (name : List ℕ) → p ≡ q → (text r k : List ℕ) → ConfigRefused files job p name text r → ConfigRefused files job q name text k → r ≡ k
  config_alone p q name programs text r k bad worse =
      let one : ConfigKind × Place = (bad.0, bad.1) in
      let two : ConfigKind × Place = (worse.0, worse.1) in
      let reads : ReadsBy job.wide (length p.program.files) name text (Err two) = subst (λ (x : WholeProgram). ReadsBy job.wide (length x.program.files) name text (Err two)) (sym programs) worse.2 in
      let same : one ≡ two = pair_is one two (Err one) (Err two) refl refl (known.one_configuration job.wide (length p.program.files) name text (Err one) (Err two) bad.2 reads) in
      bad.3 ∙ ((λ i. config_refusal ((programs i).program.files ++ name ∷ []) (same i).0 (same i).1) ∙ sym worse.3)

  one_loaded : (p q : WholeProgram) (unread others : List (Noted Unread)) (r k : List ℕ) → Reaches (Some files) job (loaded p unread) → Reaches (Some files) job (loaded q others)
      → View files job (loaded p unread) r → View files job (loaded q others) k → r ≡ k
  one_loaded p q unread others r k a b here there =
      let named : here.0 ≡ there.0 = some_is here.0 there.0 (sym here.1 ∙ there.1) in
      let moved : FileHalts files here.0 config_limit (ConfigRefused files job q here.0) k =
      subst (λ (x : List ℕ). FileHalts files x config_limit (ConfigRefused files job q x) k) (sym named) there.2 in
      one_halt files here.0 config_limit (ConfigRefused files job p here.0) (ConfigRefused files job q here.0)
      (config_alone p q here.0 (one_program p q unread others a b)) r k here.2 moved

  -- ---- behind what is passed over

  -- what is made of the same texts
  never_given : (p : Program) (q : WholeProgram) (c d : Config) (others : List (Noted Unread)) (report : List ℕ) → Reaches (Some files) job (configured p c) → Reaches (Some files) job (given q others d)
      → InstanceHalts files job q d report ⊎ PieceHalts files job q others d → ⊥
  never_given p q c d others report a b halts =
      let by : ConfiguredBy (Some files) job p c = configured_by (Some files) job p c a in
      let same = given_same known.parts files job q by.whole others by.unread d by.config b by.reaches in
      elim halts [
        | inl wrong ↦ never_both wrong.0 by.program (one_expanded known.parts files job q by.whole others by.unread d by.config (Err wrong.0) (Ok by.program) same wrong.1 by.expands)
        | inr piece ↦
            let programs : piece.0 ≡ by.program = expanded_same known.parts files job q by.whole others by.unread d by.config piece.0 by.program same piece.1 by.expands in
            let there : Passes piece.0 d job.silent others job.wide p c = passed_there known.parts files job q by.whole piece.0 by.program p others by.unread d by.config c same programs by.passed in
            no_piece (passing_parts known.parts) piece.0 d job.silent (given_form known.parts files job q others d b) others p c piece.3.0 piece.3.1
            (subst (λ (w : Bool). Passes piece.0 d job.silent others w p c) piece.2 there) piece.3.2
      ]

  one_given : (p q : WholeProgram) (unread others : List (Noted Unread)) (c d : Config) (r k : List ℕ) → Reaches (Some files) job (given p unread c) → Reaches (Some files) job (given q others d)
      → InstanceHalts files job p c r ⊎ PieceHalts files job p unread c → InstanceHalts files job q d k ⊎ PieceHalts files job q others d → (IsMade job p → IsMade job q → r ≡ k) → r ≡ k
  one_given p q unread others c d r k a b here there pieces =
      let same = given_same known.parts files job p q unread others c d a b in
      elim here [
        | inl wrong ↦ elim there [
          | inl worse ↦
              let one : wrong.0 ≡ worse.0 = fault_is wrong.0 worse.0 (one_expanded known.parts files job p q unread others c d (Err wrong.0) (Err worse.0) same wrong.1 worse.1) in
              wrong.2 ∙ ((λ i. names_refusal (all_files (same.programs i).program (same.configurations i)) (one i)) ∙ sym worse.2)
          | inr piece ↦ absurd (never_both wrong.0 piece.0 (one_expanded known.parts files job p q unread others c d (Err wrong.0) (Ok piece.0) same wrong.1 piece.1))
        ]
        | inr piece ↦ elim there [
          | inl worse ↦ absurd (never_either piece.0 worse.0 (one_expanded known.parts files job p q unread others c d (Ok piece.0) (Err worse.0) same piece.1 worse.1))
          | inr other ↦ pieces (piece.0, piece.1) (other.0, other.1)
        ]
      ]

  -- ---- behind names

  never_configured : (p q : Program) (c d : Config) (s : Spec) (fault : ResolveFault) → Reaches (Some files) job (resolved p c s) → Reaches (Some files) job (configured q d)
      → ResolvedBy job.wide q d job.silent (Err fault) → ⊥
  never_configured p q c d s fault a b h =
      let by = resolved_by (Some files) job p c s a in
      let same = configured_same known.parts files job p q c d by.0 b in
      let there : ResolvedBy job.wide p c job.silent (Err fault) = resolved_there known.parts files job p q c d (Err fault) same h in
      one_outcome_by known.parts.outcome job.wide p c job.silent (form_is_one known.parts files job p c by.0) (Ok s) (Err fault) by.1 there

  one_configured : (p q : Program) (c d : Config) (r k : List ℕ) → Reaches (Some files) job (configured p c) → Reaches (Some files) job (configured q d)
      → View files job (configured p c) r → View files job (configured q d) k → r ≡ k
  one_configured p q c d r k a b here there =
      let same = configured_same known.parts files job p q c d a b in
      let moved : ResolvedBy job.wide p c job.silent (Err there.0) = resolved_there known.parts files job p q c d (Err there.0) same there.1 in
      let one : here.0 ≡ there.0 =
      one_outcome_by known.parts.outcome job.wide p c job.silent (form_is_one known.parts files job p c a) (Err here.0) (Err there.0) here.1 moved in
      here.2 ∙ ((λ i. names_refusal (all_files (same.programs i) (same.configurations i)) (one i)) ∙ sym there.2)

  -- ---- behind forms

  alike : (p q : Program) (c d : Config) (s t : Spec) → Reaches (Some files) job (resolved p c s) → Reaches (Some files) job (resolved q d t) → AreAlike s t
  alike p q c d s t a b = (begun_same known.parts files job p q c d s t a b).specs

  ordered : (p : Program) (c : Config) (s : Spec) → Reaches (Some files) job (resolved p c s) → IsSpec s
  ordered p c s a = in_order known.parts files job p c s a

  never_resolved : (p q : Program) (c d : Config) (s t : Spec) (read : LogsRead) (names : List (List ℕ)) (fault : FormFault) → Reaches (Some files) job (logged p c s read names)
      → Reaches (Some files) job (resolved q d t) → IsFirstFault t fault → ⊥
  never_resolved p q c d s t read names fault a b is =
      let from : Reaches (Some files) job (resolved p c s) = logged_from (Some files) job p c s read names a in
      forms_accepted known.forms s t (ordered p c s from) (ordered q d t b) (alike p q c d s t from b) fault (whole_forms (Some files) job p c s read names a) is

  one_resolved : (p q : Program) (c d : Config) (s t : Spec) (r k : List ℕ) → Reaches (Some files) job (resolved p c s) → Reaches (Some files) job (resolved q d t)
      → View files job (resolved p c s) r → View files job (resolved q d t) k → r ≡ k
  one_resolved p q c d s t r k a b here there =
      let same = begun_same known.parts files job p q c d s t a b in
      let one : here.0 ≡ there.0 = one_first known.forms s t (ordered p c s a) (ordered q d t b) same.specs here.0 there.0 here.1 there.1 in
      here.2 ∙ ((λ i. form_refusal (all_files (same.programs i) (same.configurations i)) (same.specs.variables i) (one i)) ∙ sym there.2)

  -- ---- logs

  module _ (p q : Program) (c d : Config) (s t : Spec) (read other : LogsRead) (name also : List ℕ) (names others : List (List ℕ)) (r k : List ℕ)
      (a : Reaches (Some files) job (logged p c s read (name ∷ names))) (b : Reaches (Some files) job (logged q d t other (also ∷ others)))
      (here : LogHalts files job s read name r) (there : LogHalts files job t other also k) where
    left : Reaches (Some files) job (resolved p c s)
    left = logged_from (Some files) job p c s read (name ∷ names) a

    right : Reaches (Some files) job (resolved q d t)
    right = logged_from (Some files) job q d t other (also ∷ others) b

    behind : length other.found < length read.found → ⊥
    behind l =
        log_never files job known.parts.files s t (ordered p c s left) (ordered q d t right) (alike p q c d s t left right) p q c d read other (name ∷ names) also others k a b l there

    before : length read.found < length other.found → ⊥
    before l =
        log_never files job known.parts.files t s (ordered q d t right) (ordered p c s left) (alike q p d c t s right left) q p d c other read (also ∷ others) name names r b a l here

    at_one : length read.found ≡ length other.found → r ≡ k
    at_one count =
        log_alone files job known.parts.files s t (ordered p c s left) (ordered q d t right) (alike p q c d s t left right) p q c d read other name also names others r k a b count here there

    one_log : r ≡ k
    one_log = elim (cases_lt (length read.found) (length other.found)) [
      | inl less ↦ absurd (before less)
      | inr past ↦ elim (cases_lt (length other.found) (length read.found)) [
        | inl more ↦ absurd (behind more)
        | inr under ↦ at_one (omega (arith, past, under))
      ]
    ]

  one_logged : (p q : Program) (c d : Config) (s t : Spec) (read other : LogsRead) (names others : List (List ℕ)) (r k : List ℕ) → Reaches (Some files) job (logged p c s read names)
      → Reaches (Some files) job (logged q d t other others) → View files job (logged p c s read names) r → View files job (logged q d t other others) k → r ≡ k
  one_logged p q c d s t read other [] others r k a b here there = absurd here
  one_logged p q c d s t read other (name ∷ names) [] r k a b here there = absurd there
  one_logged p q c d s t read other (name ∷ names) (also ∷ others) r k a b here there = one_log p q c d s t read other name also names others r k a b here there

  -- ---- what stands behind what

  loaded_under : (p : WholeProgram) (unread : List (Noted Unread)) (c : Config) → Reaches (Some files) job (given p unread c) → LoadedBy (Some files) job p unread
  loaded_under p unread c a = loaded_by (Some files) job p unread (given_by (Some files) job p unread c a).0

  by : (p : Program) (c : Config) → Reaches (Some files) job (configured p c) → ConfiguredBy (Some files) job p c
  by p c a = configured_by (Some files) job p c a

  under : (p : Program) (c : Config) (s : Spec) → Reaches (Some files) job (resolved p c s) → Reaches (Some files) job (configured p c)
  under p c s a = (resolved_by (Some files) job p c s a).0

  from : (p : Program) (c : Config) (s : Spec) (read : LogsRead) (names : List (List ℕ)) → Reaches (Some files) job (logged p c s read names) → Reaches (Some files) job (resolved p c s)
  from p c s read names a = logged_from (Some files) job p c s read names a

  -- no reading is behind the modules
  configured_never : (p : Program) (c : Config) → Reaches (Some files) job (configured p c) → ModulesHalt files job → ⊥
  configured_never p c a halts = never_begun (by p c a).whole (by p c a).unread (loaded_under (by p c a).whole (by p c a).unread (by p c a).config (by p c a).reaches) halts

  begun_never : (stage : Stage) → Reaches (Some files) job stage → ModulesHalt files job → (stage ≡ begun → ⊥) → ⊥
  begun_never begun a halts other = other refl
  begun_never (loaded p unread) a halts other = never_begun p unread (loaded_by (Some files) job p unread a) halts
  begun_never (given p unread c) a halts other = never_begun p unread (loaded_under p unread c a) halts
  begun_never (configured p c) a halts other = configured_never p c a halts
  begun_never (resolved p c s) a halts other = configured_never p c (under p c s a) halts
  begun_never (logged p c s read names) a halts other = configured_never p c (under p c s (from p c s read names a)) halts

  -- what is behind the configuration
  given_under : (p : Program) (c : Config) → (a : Reaches (Some files) job (configured p c)) → Reaches (Some files) job (given (by p c a).whole (by p c a).unread (by p c a).config)
  given_under p c a = (by p c a).reaches

  module _ (modules : ModulesHaltOnce files job) (pieces : PiecesHaltOnce files job) where
    -- the first reading is at the modules
    at_begun : (stage : Stage) (r k : List ℕ) → Reaches (Some files) job stage → Halts files job begun r → Halts files job stage k → r ≡ k
    at_begun begun r k b h g = modules r k h g
    at_begun (loaded p unread) r k b h g = absurd (begun_never (loaded p unread) b (view_of files job begun r h) (λ e. cc))
    at_begun (given p unread c) r k b h g = absurd (begun_never (given p unread c) b (view_of files job begun r h) (λ e. cc))
    at_begun (configured p c) r k b h g = absurd (begun_never (configured p c) b (view_of files job begun r h) (λ e. cc))
    at_begun (resolved p c s) r k b h g = absurd (begun_never (resolved p c s) b (view_of files job begun r h) (λ e. cc))
    at_begun (logged p c s read names) r k b h g = absurd (begun_never (logged p c s read names) b (view_of files job begun r h) (λ e. cc))

    at_loaded : (p : WholeProgram) (unread : List (Noted Unread)) (stage : Stage) (r k : List ℕ) → Reaches (Some files) job (loaded p unread) → Reaches (Some files) job stage
        → Halts files job (loaded p unread) r → Halts files job stage k → r ≡ k
    at_loaded p unread begun r k a b h g = sym (at_begun (loaded p unread) k r a g h)
    at_loaded p unread (loaded q others) r k a b h g = one_loaded p q unread others r k a b (view_of files job (loaded p unread) r h) (view_of files job (loaded q others) k g)
    at_loaded p unread (given q others d) r k a b h g = absurd (never_loaded q p others unread d r b a (view_of files job (loaded p unread) r h))
    at_loaded p unread (configured q d) r k a b h g =
        absurd (never_loaded (by q d b).whole p (by q d b).unread unread (by q d b).config r (given_under q d b) a (view_of files job (loaded p unread) r h))
    at_loaded p unread (resolved q d t) r k a b h g =
        let u = under q d t b in
        absurd (never_loaded (by q d u).whole p (by q d u).unread unread (by q d u).config r (given_under q d u) a (view_of files job (loaded p unread) r h))
    at_loaded p unread (logged q d t read names) r k a b h g =
        let u = under q d t (from q d t read names b) in
        absurd (never_loaded (by q d u).whole p (by q d u).unread unread (by q d u).config r (given_under q d u) a (view_of files job (loaded p unread) r h))

    at_given : (p : WholeProgram) (unread : List (Noted Unread)) (c : Config) (stage : Stage) (r k : List ℕ) → Reaches (Some files) job (given p unread c) → Reaches (Some files) job stage
        → Halts files job (given p unread c) r → Halts files job stage k → r ≡ k
    at_given p unread c begun r k a b h g = sym (at_begun (given p unread c) k r a g h)
    at_given p unread c (loaded q others) r k a b h g = sym (at_loaded q others (given p unread c) k r b a g h)
    at_given p unread c (given q others d) r k a b h g =
        one_given p q unread others c d r k a b (view_of files job (given p unread c) r h) (view_of files job (given q others d) k g) (λ x y. pieces p q unread others c d r k x y a b h g)
    at_given p unread c (configured q d) r k a b h g = absurd (never_given q p d c unread r b a (view_of files job (given p unread c) r h))
    at_given p unread c (resolved q d t) r k a b h g = absurd (never_given q p d c unread r (under q d t b) a (view_of files job (given p unread c) r h))
    at_given p unread c (logged q d t read names) r k a b h g =
        absurd (never_given q p d c unread r (under q d t (from q d t read names b)) a (view_of files job (given p unread c) r h))

    at_configured : (p : Program) (c : Config) (stage : Stage) (r k : List ℕ) → Reaches (Some files) job (configured p c) → Reaches (Some files) job stage
        → Halts files job (configured p c) r → Halts files job stage k → r ≡ k
    at_configured p c begun r k a b h g = sym (at_begun (configured p c) k r a g h)
    at_configured p c (loaded q others) r k a b h g = sym (at_loaded q others (configured p c) k r b a g h)
    at_configured p c (given q others d) r k a b h g = sym (at_given q others d (configured p c) k r b a g h)
    at_configured p c (configured q d) r k a b h g = one_configured p q c d r k a b (view_of files job (configured p c) r h) (view_of files job (configured q d) k g)
    at_configured p c (resolved q d t) r k a b h g =
        let x = view_of files job (configured p c) r h in
        absurd (never_configured q p d c t x.0 b a x.1)
    at_configured p c (logged q d t read names) r k a b h g =
        let x = view_of files job (configured p c) r h in
        absurd (never_configured q p d c t x.0 (from q d t read names b) a x.1)

    at_resolved : (p : Program) (c : Config) (s : Spec) (stage : Stage) (r k : List ℕ) → Reaches (Some files) job (resolved p c s) → Reaches (Some files) job stage
        → Halts files job (resolved p c s) r → Halts files job stage k → r ≡ k
    at_resolved p c s begun r k a b h g = sym (at_begun (resolved p c s) k r a g h)
    at_resolved p c s (loaded q others) r k a b h g = sym (at_loaded q others (resolved p c s) k r b a g h)
    at_resolved p c s (given q others d) r k a b h g = sym (at_given q others d (resolved p c s) k r b a g h)
    at_resolved p c s (configured q d) r k a b h g = sym (at_configured q d (resolved p c s) k r b a g h)
    at_resolved p c s (resolved q d t) r k a b h g = one_resolved p q c d s t r k a b (view_of files job (resolved p c s) r h) (view_of files job (resolved q d t) k g)
    at_resolved p c s (logged q d t read names) r k a b h g =
        let x = view_of files job (resolved p c s) r h in
        absurd (never_resolved q p d c t s read names x.0 b a x.1)

    at_logged : (p : Program) (c : Config) (s : Spec) (read : LogsRead) (names : List (List ℕ)) (stage : Stage) (r k : List ℕ) → Reaches (Some files) job (logged p c s read names)
        → Reaches (Some files) job stage → Halts files job (logged p c s read names) r → Halts files job stage k → r ≡ k
    at_logged p c s read names begun r k a b h g = sym (at_begun (logged p c s read names) k r a g h)
    at_logged p c s read names (loaded q others) r k a b h g = sym (at_loaded q others (logged p c s read names) k r b a g h)
    at_logged p c s read names (given q others d) r k a b h g = sym (at_given q others d (logged p c s read names) k r b a g h)
    at_logged p c s read names (configured q d) r k a b h g = sym (at_configured q d (logged p c s read names) k r b a g h)
    at_logged p c s read names (resolved q d t) r k a b h g = sym (at_resolved q d t (logged p c s read names) k r b a g h)
    at_logged p c s read names (logged q d t other others) r k a b h g =
        one_logged p q c d s t read other names others r k a b (view_of files job (logged p c s read names) r h) (view_of files job (logged q d t other others) k g)

    at_any : (stage other : Stage) (r k : List ℕ) → Reaches (Some files) job stage → Reaches (Some files) job other → Halts files job stage r → Halts files job other k → r ≡ k
    at_any begun other r k a b h g = at_begun other r k b h g
    at_any (loaded p unread) other r k a b h g = at_loaded p unread other r k a b h g
    at_any (given p unread c) other r k a b h g = at_given p unread c other r k a b h g
    at_any (configured p c) other r k a b h g = at_configured p c other r k a b h g
    at_any (resolved p c s) other r k a b h g = at_resolved p c s other r k a b h g
    at_any (logged p c s read names) other r k a b h g = at_logged p c s read names other r k a b h g

-- ---- the law

record HaltsAt (files : List File) (job : Job) (report : List ℕ) : Type 0 where
  stage : Stage
  reaches : Reaches (Some files) job stage
  halts : Halts files job stage report

halts_at : (files : List File) (job : Job) (before now : ℕ) (report : List ℕ) → IsRefusal (Some files) before now job report → HaltsAt files job report
halts_at files job before now _ (is_missing name limit wants lacks) = record { stage = wants.stage; reaches = wants.reaches; halts = at_missing name limit wants.is_next lacks }
halts_at files job before now _ (is_too_long name limit wants long) = record { stage = wants.stage; reaches = wants.reaches; halts = at_long name limit wants.is_next long }
halts_at files job before now _ (is_refused stage report reaches rejects) = record { stage = stage; reaches = reaches; halts = at_text report rejects }

pub refusal_is_one : Known → RefusalIsOne
refusal_is_one known files job modules pieces before now earlier later r q a b =
    let x = halts_at files job before now r a in
    let y = halts_at files job earlier later q b in
    at_any known files job modules pieces x.stage y.stage r q x.reaches y.reaches x.halts y.halts
