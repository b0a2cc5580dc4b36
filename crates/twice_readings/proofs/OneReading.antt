-- Two readings of the same files come to the same.
use Rattle.std.proofs.Common.{◌≡◌, ◌⊎◌, ℕ, List, [], length, map, Some, Result, Ok, Err, inl, inr, refl, ap, sym, ◌∙◌, subst, arith}
use Rattle.std.specs.Prelude.{Bool, true}
use Rattle.base_core.specs.Device.{File}
use Rattle.reading_trees.specs.declared.config.Config.{Config}
use Rattle.reading_trees.specs.declared.module.Program.{Program}
use Rattle.reading_trees.specs.declared.module.WholeProgram.{WholeProgram}
use Rattle.reading_wide_configuration.specs.Wide.{ReadsBy}
use Rattle.reading_modules.specs.declared.notes.Noted.{Noted}
use Rattle.reading_modules.specs.Loads.{IsProgramBy}
use Rattle.reading_modules.specs.Paths.{IsPath}
use Rattle.reading_wide_modules.specs.declared.unread.Unread.{Unread}
use Rattle.reading_wide_modules.specs.Laws.{OneWideProgram, told}
use Rattle.reading_wide_modules.specs.Wide.{reading_by}
use Rattle.states_core.specs.declared.state.Shown.{Shown}
use Rattle.names_terms.specs.declared.spec.Spec.{Spec}
use Rattle.names_resolving.specs.Resolved.{IsOneForm}
use Rattle.names_resolving.specs.declared.fault.ResolveFault.{ResolveFault}
use Rattle.names_specification.specs.Resolving.{ResolvedBy}
use Rattle.names_specification.proofs.Readings.{resolved_with}
use Rattle.names_expanded_laws.specs.Expansion.{ExpandedAreWellFormed}
use Rattle.names_load_laws.specs.Loaded.{ConfigurationsHaveOneForm, PlainHasOneForm}
use Rattle.names_resolved_laws.specs.InOrder.{IsWellFormed, ResolvedAreInOrder}
use Rattle.names_pruning.specs.Laws.{OneAlone, OnePruned}
use Rattle.run_wide.specs.Laws.{PassedAreWellFormed, PassedHaveOneForm}
use Rattle.names_whole_programs.specs.Expansion.{ExpansionBy}
use Rattle.names_whole_programs.specs.Laws.{OneExpansion}
use Rattle.run_wide.specs.Passing.{Passes}
use Rattle.names_specification_laws.specs.IsSpec.{IsSpec}
use Rattle.twice_tables.specs.OneOutcome.{HasOneOutcome}
use Rattle.twice_tables.specs.Outcome.{AreAlike}
use Rattle.logs_tied.specs.declared.logs.Lined.{Lined}
use Rattle.states_files.specs.Files.{StateFileSays}
use Rattle.states_files.specs.Laws.{StateFileSaysOne}
use Rattle.states_files.specs.declared.refusal.StateRefusal.{StateRefusal}
use Rattle.twice_logs.specs.Logs.{FilesSayAlike}
use Rattle.twice_logs.specs.Lined.{LinedAreAlike}
use Rattle.run_words.specs.declared.job.Job.{Job}
use Rattle.run_reading_defs.specs.Texts.{config_limit}
use Rattle.run_reading_defs.specs.Reaches.{AllRead, Reaches, configured, given, loaded, resolved}
use Rattle.run_reading_defs.specs.Given.{AllGiven, states_limit}
use Rattle.twice_readings.specs.Readings.{AreSame, GivenIsOne, ReadingIsOne}
use Rattle.reading_laws.specs.OneReading.{OneConfiguration, OnePath}
use Rattle.reading_laws.specs.Readings.{noted_by}
use Rattle.twice_readings.proofs.Outcomes.{one_outcome_by}
use Rattle.twice_readings.proofs.Passing.{PassingParts, one_passing, passes_same}
use Rattle.twice_readings.proofs.Stages.{ConfiguredBy, LoadedBy, WithText, WithoutText, configured_by, counted, given_by, loaded_by, logged_from, none_is_some, resolved_by, some_is}
use Rattle.twice_readings.proofs.SameLogs.{AreAlikeReads, one_text, same_logs}

ok_is : (w v : List Shown) (r q : Result (List Shown) StateRefusal) → r ≡ Ok w → q ≡ Ok v → r ≡ q → w ≡ v
ok_is w v r q a b e = cc

-- What is known of the parts of reading.
pub record Parts : Type 0 where
  pub path : OnePath
  pub program : OneWideProgram
  pub configuration : OneConfiguration
  pub well_formed : ExpandedAreWellFormed
  pub expansion : OneExpansion
  pub pruned : OnePruned
  pub alone : OneAlone
  pub passed : PassedAreWellFormed
  pub passed_form : PassedHaveOneForm
  pub in_order : ResolvedAreInOrder
  pub form : ConfigurationsHaveOneForm
  pub plain_form : PlainHasOneForm
  pub outcome : HasOneOutcome
  pub files : FilesSayAlike
  pub lines : LinedAreAlike
  pub states : StateFileSaysOne

pub passing_parts : Parts → PassingParts
passing_parts known = record {
  never = λ p c silent form s fault is refused. one_outcome_by known.outcome true p c silent form (Ok s) (Err fault) is refused;
  pruned = known.pruned;
  alone = known.alone;
}

accepted_is : (p q : Program) → (let r : Result Program ResolveFault = Ok p in r ≡ Ok q) → p ≡ q
accepted_is p q e = cc

module _ (known : Parts) (files : List File) (job : Job) where
  abbrev Comes : Program → Config → Spec → Type 0
  Comes p c s = Reaches (Some files) job (resolved p c s)

  abbrev pub ProgramOf : List ℕ → List ℕ → WholeProgram → List (Noted Unread) → Type 0
  ProgramOf folder name whole unread = IsProgramBy (reading_by job.wide) (Some files) folder name whole unread

  -- a program is that of every folder and name that the path has
  pub program_of : (folder name : List ℕ) (w : WholeProgram) (unread : List (Noted Unread)) → IsPath job.module folder name → LoadedBy (Some files) job w unread
      → ProgramOf folder name w unread
  program_of folder name w unread path by =
      let same = known.path job.module by.0 folder by.1 name by.2 path in
      subst (λ (x : List ℕ). ProgramOf folder x w unread) same.1 (subst (λ (x : List ℕ). ProgramOf x by.1 w unread) same.0 by.3)

  -- one program, and of its pieces that were not read the same is told
  pub same_program : (v w : WholeProgram) (unread others : List (Noted Unread)) → LoadedBy (Some files) job v unread → LoadedBy (Some files) job w others
      → (v ≡ w) × (map (noted_by told) unread ≡ map (noted_by told) others)
  same_program v w unread others a b = known.program job.wide files b.0 b.1 v w unread others (program_of b.0 b.1 v unread b.2 a) b.3

  abbrev pub Given : WholeProgram → Config → Type 0
  Given p c = WithoutText (Some files) job c ⊎ WithText (Some files) job p c

  by_texts : (p : WholeProgram) (c d : Config) → WithText (Some files) job p c → WithText (Some files) job p d → c ≡ d
  by_texts p c d a b =
      let named : a.0 ≡ b.0 = some_is a.0 b.0 (sym a.2 ∙ b.2) in
      let texts : a.1 ≡ b.1 = one_text files a.0 b.0 config_limit config_limit a.1 b.1 named a.3 b.3 in
      let name : ReadsBy job.wide (length p.program.files) a.0 b.1 (Ok d) = subst (λ (x : List ℕ). ReadsBy job.wide (length p.program.files) x b.1 (Ok d)) (sym named) b.4 in
      let there : ReadsBy job.wide (length p.program.files) a.0 a.1 (Ok d) = subst (λ (x : List ℕ). ReadsBy job.wide (length p.program.files) a.0 x (Ok d)) (sym texts) name in
      known.configuration job.wide (length p.program.files) a.0 a.1 c d a.4 there

  same_configuration : (p : WholeProgram) (c d : Config) → Given p c → Given p d → c ≡ d
  same_configuration p c d (inl a) (inl b) = a.1 ∙ sym b.1
  same_configuration p c d (inl a) (inr b) = absurd (none_is_some b.0 (sym a.0 ∙ b.2))
  same_configuration p c d (inr a) (inl b) = absurd (none_is_some a.0 (sym b.0 ∙ a.2))
  same_configuration p c d (inr a) (inr b) = by_texts p c d a b

  one_form : (p : WholeProgram) (c : Config) → Given p c → IsOneForm c
  one_form p c (inl a) = subst (λ (x : Config). IsOneForm x) (sym a.1) known.plain_form
  one_form p c (inr a) = known.form job.wide (length p.program.files) a.0 a.1 c a.4

  well_formed : (w : WholeProgram) (unread : List (Noted Unread)) → Reaches (Some files) job (loaded w unread) → (p : Program) → ExpansionBy job.wide w (Ok p) → IsWellFormed p
  well_formed w unread reaches p expands =
      let by : LoadedBy (Some files) job w unread = loaded_by (Some files) job w unread reaches in
      known.well_formed job.wide (Some files) 0 0 job.module (record { program = w; notes = unread }) (by.0, by.1, by.2, by.3) p expands

  configured_well_formed : (q : Program) (d : Config) → Reaches (Some files) job (configured q d) → IsWellFormed q
  configured_well_formed q d reaches =
      let by : ConfiguredBy (Some files) job q d = configured_by (Some files) job q d reaches in
      known.passed job.wide by.program q by.config d job.silent by.unread by.passed
      (well_formed by.whole by.unread (given_by (Some files) job by.whole by.unread by.config by.reaches).0 by.program by.expands)

  pub in_order : (p : Program) (c : Config) (s : Spec) → Comes p c s → IsSpec s
  in_order p c s reaches =
      let r = resolved_by (Some files) job p c s reaches in
      let with = resolved_with job.wide p c job.silent s r.1 in
      known.in_order p with.config job.silent s (configured_well_formed p c r.0) with.is

  -- what the texts give: the programs, what is told of pieces that were not read, and the configurations
  pub record AreGiven (p q : WholeProgram) (unread others : List (Noted Unread)) (c d : Config) : Type 0 where
    pub programs : p ≡ q
    pub pieces : map (noted_by told) unread ≡ map (noted_by told) others
    pub configurations : c ≡ d

  pub given_same : (p q : WholeProgram) (unread others : List (Noted Unread)) (c d : Config) → Reaches (Some files) job (given p unread c) → Reaches (Some files) job (given q others d)
      → AreGiven p q unread others c d
  given_same p q unread others c d a b =
      let left = given_by (Some files) job p unread c a in
      let right = given_by (Some files) job q others d b in
      let same = same_program p q unread others (loaded_by (Some files) job p unread left.0) (loaded_by (Some files) job q others right.0) in
      let there : Given p d = subst (λ (x : WholeProgram). Given x d) (sym same.0) right.1 in
      record { programs = same.0; pieces = same.1; configurations = same_configuration p c d left.1 there }

  pub given_form : (p : WholeProgram) (unread : List (Noted Unread)) (c : Config) → Reaches (Some files) job (given p unread c) → IsOneForm c
  given_form p unread c reaches = one_form p c (given_by (Some files) job p unread c reaches).1

  -- what instances make of the same
  pub expanded_there : (v w : WholeProgram) (unread others : List (Noted Unread)) (c d : Config) (r : Result Program ResolveFault) → AreGiven v w unread others c d → ExpansionBy job.wide w r → ExpansionBy job.wide v r
  expanded_there v w unread others c d r same h = subst (λ (x : WholeProgram). ExpansionBy job.wide x r) (sym same.programs) h

  pub one_expanded : (v w : WholeProgram) (unread others : List (Noted Unread)) (c d : Config) (r s : Result Program ResolveFault) → AreGiven v w unread others c d → ExpansionBy job.wide v r → ExpansionBy job.wide w s → r ≡ s
  one_expanded v w unread others c d r s same a b = known.expansion job.wide v r s a (expanded_there v w unread others c d s same b)

  pub expanded_same : (v w : WholeProgram) (unread others : List (Noted Unread)) (c d : Config) (p q : Program) → AreGiven v w unread others c d → ExpansionBy job.wide v (Ok p) → ExpansionBy job.wide w (Ok q) → p ≡ q
  expanded_same v w unread others c d p q same a b = accepted_is p q (one_expanded v w unread others c d (Ok p) (Ok q) same a b)

  -- what is passed over of the same
  pub passed_there : (v w : WholeProgram) (p q r : Program) (unread others : List (Noted Unread)) (c d e : Config) → AreGiven v w unread others c d → p ≡ q → Passes q d job.silent others job.wide r e
      → Passes p c job.silent unread job.wide r e
  passed_there v w p q r unread others c d e same programs h =
      let program : Passes p d job.silent others job.wide r e = subst (λ (x : Program). Passes x d job.silent others job.wide r e) (sym programs) h in
      let both : Passes p c job.silent others job.wide r e = subst (λ (x : Config). Passes p x job.silent others job.wide r e) (sym same.configurations) program in
      passes_same p c job.silent others unread (sym same.pieces) job.wide r e both

  -- the programs and the configurations
  pub record AreConfigured (p q : Program) (c d : Config) : Type 0 where
    pub programs : p ≡ q
    pub configurations : c ≡ d

  pub configured_same : (p q : Program) (c d : Config) → Reaches (Some files) job (configured p c) → Reaches (Some files) job (configured q d) → AreConfigured p q c d
  configured_same p q c d a b =
      let left : ConfiguredBy (Some files) job p c = configured_by (Some files) job p c a in
      let right : ConfiguredBy (Some files) job q d = configured_by (Some files) job q d b in
      let same : AreGiven left.whole right.whole left.unread right.unread left.config right.config =
      given_same left.whole right.whole left.unread right.unread left.config right.config left.reaches right.reaches in
      let programs : left.program ≡ right.program = expanded_same left.whole right.whole left.unread right.unread left.config right.config left.program right.program same left.expands right.expands in
      let there = passed_there left.whole right.whole left.program right.program q left.unread right.unread left.config right.config d same programs right.passed in
      let one = one_passing (passing_parts known) left.program left.config job.silent (given_form left.whole left.unread left.config left.reaches) left.unread
      job.wide p q c d left.passed there in
      record { programs = one.0; configurations = one.1 }

  -- what is resolved of the same
  pub resolved_there : (p q : Program) (c d : Config) (r : Result Spec ResolveFault) → AreConfigured p q c d → ResolvedBy job.wide q d job.silent r → ResolvedBy job.wide p c job.silent r
  resolved_there p q c d r same h =
      subst (λ (x : Config). ResolvedBy job.wide p x job.silent r) (sym same.configurations) (subst (λ (x : Program). ResolvedBy job.wide x d job.silent r) (sym same.programs) h)

  pub form_is_one : (p : Program) (c : Config) → Reaches (Some files) job (configured p c) → IsOneForm c
  form_is_one p c reaches =
      let by : ConfiguredBy (Some files) job p c = configured_by (Some files) job p c reaches in
      known.passed_form job.wide by.program p by.config c job.silent by.unread by.passed (given_form by.whole by.unread by.config by.reaches)

  -- the programs, the configurations and the specifications
  pub record AreBegun (p q : Program) (c d : Config) (s t : Spec) : Type 0 where
    pub programs : p ≡ q
    pub configurations : c ≡ d
    pub specs : AreAlike s t

  pub begun_same : (p q : Program) (c d : Config) (s t : Spec) → Comes p c s → Comes q d t → AreBegun p q c d s t
  begun_same p q c d s t a b =
      let first = resolved_by (Some files) job p c s a in
      let second = resolved_by (Some files) job q d t b in
      let same : AreConfigured p q c d = configured_same p q c d first.0 second.0 in
      let there : ResolvedBy job.wide p c job.silent (Ok t) = resolved_there p q c d (Ok t) same second.1 in
      record {
        programs = same.programs;
        configurations = same.configurations;
        specs = one_outcome_by known.outcome job.wide p c job.silent (form_is_one p c first.0) (Ok s) (Ok t) first.1 there;
      }

  same_reading : (p q : Program) (c d : Config) (s t : Spec) (lined other : Lined) → AllRead (Some files) job p c s lined → AllRead (Some files) job q d t other → AreSame p q c d s t lined other
  same_reading p q c d s t lined other a b =
      let first : Comes p c s = logged_from (Some files) job p c s a.read [] a.reaches in
      let second : Comes q d t = logged_from (Some files) job q d t b.read [] b.reaches in
      let begun = begun_same p q c d s t first second in
      let ordered : IsSpec s = in_order p c s first in
      let other_ordered : IsSpec t = in_order q d t second in
      let m = counted (Some files) job p c s a.read [] a.reaches in
      let n = counted (Some files) job q d t b.read [] b.reaches in
      let count : length a.read.found ≡ length b.read.found = omega (arith, m, n) in
      let reads : AreAlikeReads s.operators t.operators a.read b.read =
      same_logs files job known.files s t ordered other_ordered begun.specs q d p c a.read [] b.read [] a.reaches b.reaches count in
      record {
        programs = begun.programs;
        configurations = begun.configurations;
        specs = begun.specs;
        ordered = ordered;
        other_ordered = other_ordered;
        lines = known.lines s.operators t.operators job.ties a.read.found b.read.found lined other reads.found a.lines b.lines;
      }

  same_given : (witness : List ℕ) (p q : Program) (c d : Config) (s t : Spec) (lined other : Lined) (w v : List Shown) → AllGiven (Some files) job witness p c s lined w
      → AllGiven (Some files) job witness q d t other v → AreSame p q c d s t lined other × (w ≡ v)
  same_given witness p q c d s t lined other w v a b =
      let same = same_reading p q c d s t lined other a.all_read b.all_read in
      let texts : a.text ≡ b.text = one_text files witness witness states_limit states_limit a.text b.text refl a.has_text b.has_text in
      let names : StateFileSays s.variables b.text (Ok v) = subst (λ (x : List (List ℕ)). StateFileSays x b.text (Ok v)) (sym same.specs.variables) b.says in
      let there : StateFileSays s.variables a.text (Ok v) = subst (λ (x : List ℕ). StateFileSays s.variables x (Ok v)) (sym texts) names in
      (same, ok_is w v (Ok w) (Ok v) refl refl (known.states s.variables a.text (Ok w) (Ok v) a.says there))

pub reading_is_one : Parts → ReadingIsOne
reading_is_one known files job = same_reading known files job

pub given_is_one : Parts → GivenIsOne
given_is_one known files job = same_given known files job
