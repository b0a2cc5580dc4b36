-- What holds of what was accepted.
use Rattle.std.proofs.Common.{◌≡◌, ◌≤◌, ◌+◌, refl, ℕ, List, ◌∷◌, Option, Ok, length, All}
use Rattle.std.specs.Prelude.{Bool}
use Rattle.std.proofs.lemmas.List.Elements.{All-nil, All-push}
use Rattle.base_core.specs.Device.{File}
use Rattle.reading_trees.specs.declared.config.Config.{Config}
use Rattle.reading_trees.specs.declared.module.Program.{Program}
use Rattle.reading_trees.specs.declared.module.WholeProgram.{WholeProgram}
use Rattle.reading_modules.specs.declared.notes.Noted.{Noted}
use Rattle.names_terms.specs.declared.spec.Spec.{Spec}
use Rattle.names_tables.specs.Values.{AreSpelled}
use Rattle.names_resolving.specs.Resolved.{IsOneForm}
use Rattle.names_specification.proofs.Readings.{resolved_with}
use Rattle.names_resolved_laws.specs.InOrder.{IsWellFormed, ResolvedAreInOrder}
use Rattle.names_expanded_laws.specs.Expansion.{ExpandedAreWellFormed}
use Rattle.names_load_laws.specs.AnyReading.{LoadedHaveFewFilesBy}
use Rattle.names_load_laws.specs.Loaded.{ConfigurationsAreSpelled, ConfigurationsHaveOneForm, PlainHasOneForm, PlainIsSpelled}
use Rattle.reading_wide_modules.specs.declared.unread.Unread.{Unread}
use Rattle.reading_wide_modules.specs.Wide.{reading_by}
use Rattle.names_whole_programs.specs.Expansion.{ExpansionBy}
use Rattle.run_wide.specs.Answers.{IsResolution}
use Rattle.run_wide.specs.declared.resolution.Resolution.{Resolution}
use Rattle.run_wide.specs.Laws.{PassedAreWellFormed}
use Rattle.names_specification_laws.specs.IsSpec.{IsSpec}
use Rattle.logs_tied.specs.declared.logs.Lined.{Lined}
use Rattle.logs_tied.specs.declared.logs.Lined.TheVariants.{Sequence, Tied}
use Rattle.logs_files.specs.Lined.{AreMadeSo}
use Rattle.steps_ready_defs.specs.Ready.{IsReadySpec}
use Rattle.steps_lined.specs.Beside.{IsReadyOver}
use Rattle.steps_ready_lines.specs.Lines.{FilesAreReady, IsReadyFile, IsReadyLined}
use Rattle.run_words.specs.declared.job.Job.{Job}
use Rattle.run_reading_defs.specs.Texts.{LogsRead, are_several, steps_left}
use Rattle.run_reading_defs.specs.Reaches.{Reaches, configured, given, has_forms, loaded, loads, logged, needs_no_configuration, passes, reads_configuration, reads_log, resolved, resolves}

pub loaded_few : (holds : Option (List File)) (job : Job) (whole : WholeProgram) (unread : List (Noted Unread)) → ((word : Bool) → LoadedHaveFewFilesBy (reading_by word))
    → Reaches holds job (loaded whole unread) → length whole.program.files ≤ 32
loaded_few holds job _ unread law (loads folder name whole _ path is) = law job.wide holds 0 0 job.module (record { program = whole; notes = unread }) (folder, name, path, is)

-- a program with what its instances make
expanded_formed : (holds : Option (List File)) (job : Job) (whole : WholeProgram) (unread : List (Noted Unread)) → ExpandedAreWellFormed
    → Reaches holds job (loaded whole unread) → (p : Program) → ExpansionBy job.wide whole (Ok p) → IsWellFormed p
expanded_formed holds job _ unread law (loads folder name whole _ path is) p expands = law job.wide holds 0 0 job.module (record { program = whole; notes = unread }) (folder, name, path, is) p expands

formed : (holds : Option (List File)) (job : Job) (whole : WholeProgram) (unread : List (Noted Unread)) (c : Config) → ExpandedAreWellFormed
    → Reaches holds job (given whole unread c) → (p : Program) → ExpansionBy job.wide whole (Ok p) → IsWellFormed p
formed holds job whole unread c law (needs_no_configuration _ _ reaches none) p expands = expanded_formed holds job whole unread law reaches p expands
formed holds job whole unread c law (reads_configuration _ _ name text _ reaches some has reads) p expands = expanded_formed holds job whole unread law reaches p expands

pub spelled : (holds : Option (List File)) (job : Job) (whole : WholeProgram) (unread : List (Noted Unread)) (c : Config) → ConfigurationsAreSpelled → PlainIsSpelled
    → Reaches holds job (given whole unread c) → AreSpelled c.givens
spelled holds job whole unread c law plain (needs_no_configuration _ _ reaches none) = plain
spelled holds job whole unread c law plain (reads_configuration _ _ name text _ reaches some has reads) = law job.wide (length whole.program.files) name text c reads

pub one_form : (holds : Option (List File)) (job : Job) (whole : WholeProgram) (unread : List (Noted Unread)) (c : Config) → ConfigurationsHaveOneForm → PlainHasOneForm
    → Reaches holds job (given whole unread c) → IsOneForm c
one_form holds job whole unread c law plain (needs_no_configuration _ _ reaches none) = plain
one_form holds job whole unread c law plain (reads_configuration _ _ name text _ reaches some has reads) = law job.wide (length whole.program.files) name text c reads

-- what is resolved is reached, and its specification is in order
pub resolution_reached : (holds : Option (List File)) (job : Job) (whole : WholeProgram) (p : Program) (unread : List (Noted Unread)) (c : Config) (r : Resolution) → Reaches holds job (given whole unread c)
    → ExpansionBy job.wide whole (Ok p) → IsResolution job.wide p c job.silent unread r → Reaches holds job (resolved r.program r.config r.spec)
resolution_reached holds job whole p unread c r reaches expands is = resolves r.program r.config r.spec (passes whole p r.program unread c r.config reaches expands is.passes) is.resolved

pub resolution_in_order : (holds : Option (List File)) (job : Job) (whole : WholeProgram) (p : Program) (unread : List (Noted Unread)) (c : Config) (r : Resolution)
    → ExpandedAreWellFormed → PassedAreWellFormed → ResolvedAreInOrder → Reaches holds job (given whole unread c) → ExpansionBy job.wide whole (Ok p)
    → IsResolution job.wide p c job.silent unread r → IsSpec r.spec
resolution_in_order holds job whole p unread c r well passed order reaches expands is =
    let with = resolved_with job.wide r.program r.config job.silent r.spec is.resolved in
    order r.program with.config job.silent r.spec
    (passed job.wide p r.program c r.config job.silent unread is.passes (formed holds job whole unread c well reaches p expands)) with.is

-- what the logs say can be asked of the specification
pub files_ready : (holds : Option (List File)) (job : Job) (p : Program) (c : Config) (s : Spec) (read : LogsRead) (names : List (List ℕ)) → FilesAreReady → IsSpec s
    → Reaches holds job (logged p c s read names) → All (IsReadyFile s) read.found
files_ready holds job p c s _ _ law is (has_forms _ _ _ reaches whole) = All-nil (IsReadyFile s)
files_ready holds job p c s _ names law is (reads_log _ _ _ read name _ text f reaches log says) =
    All-push (IsReadyFile s) read.found f (files_ready holds job p c s read (name ∷ names) law is reaches)
    (law s (1 + length read.found) (are_several job.logs) (steps_left read) read.form text f is says)

-- and so can the lines of all logs, beside which the specification is ready
pub ready_over : (s : Spec) (lined : Lined) → IsReadySpec s → IsReadyLined s lined → AreMadeSo lined → IsReadyOver s lined
ready_over s (Sequence log) ready is made = record { spec = ready; first = is.init; lines = is.lines }
ready_over s (Tied logs) ready is made = (record { spec = ready; first = is.init; lines = is.lines }, made)
