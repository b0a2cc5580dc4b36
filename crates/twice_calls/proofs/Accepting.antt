-- What is accepted is printed in lines, and what is printed is valid.
use Rattle.std.proofs.Common.{◌≡◌, ◌∙◌, ℕ, List, ◌∷◌, Option, Ok, length, refl, sym, subst}
use Rattle.std.specs.Prelude.{All, IsUtf8}
use Rattle.std.proofs.lemmas.List.Elements.{All-nil}
use Rattle.base_core.specs.Device.{File}
use Rattle.reading_trees.specs.declared.config.Config.{Config}
use Rattle.reading_trees.specs.declared.module.Program.{Program}
use Rattle.reading_trees.specs.declared.module.WholeProgram.{WholeProgram}
use Rattle.reading_modules.specs.declared.notes.Noted.{Noted}
use Rattle.reading_wide_modules.specs.declared.unread.Unread.{Unread}
use Rattle.names_terms.specs.declared.spec.Spec.{Spec}
use Rattle.names_resolving.specs.Resolved.{Resolved, accepted}
use Rattle.names_specification.proofs.Readings.{resolved_with}
use Rattle.steps_lines_defs.specs.Logs.{Asked}
use Rattle.logs_tied.specs.declared.logs.Lined.{Lined}
use Rattle.logs_tied.specs.declared.logs.Lined.TheVariants.{Sequence, Tied}
use Rattle.states_core.specs.declared.state.Shown.{Shown}
use Rattle.states_layers.specs.declared.answer.Answer.TheVariants.{Explained}
use Rattle.steps_lined.specs.Answers.{AreAssumedOf, IsTrueOf}
use Rattle.states_verdicts.specs.declared.verdict.Verdict.TheVariants.{Valid}
use Rattle.run_words.specs.declared.job.Job.{Job}
use Rattle.run_reading_defs.specs.Reaches.{AllRead, Reaches, configured, given, has_forms, logged, needs_no_configuration, passes, reads_configuration, reads_log, resolved, resolves}
use Rattle.run_reading_defs.specs.Texts.{LogsRead}
use Rattle.reading_laws.specs.Telling.{HasNoFeed, UncheckedAreLines}
use Rattle.run_wide.specs.Laws.{PassedAreLines}
use Rattle.steps_lined.specs.Held.{ArePlaced}
use Rattle.twice_printed.specs.PrintedStates.{PrintedIsValid}
use Rattle.run_call.specs.Calls.{asked_by, is_answered_given, is_judged, named_in}
use Rattle.twice_calls.specs.Printed.{IsCheckedValid, PrintsValid}
use Rattle.twice_calls.proofs.Searching.{all_read_so, assumed_so, judged_so}

-- What is known of the texts that the report has behind NOT CHECKED: those of a configuration that is read are lines, and what is passed over adds lines.
pub record LinesKnown : Type 0 where
  pub read : UncheckedAreLines
  pub passed : PassedAreLines

given_lines : (holds : Option (List File)) (job : Job) (p : WholeProgram) (unread : List (Noted Unread)) (c : Config) → LinesKnown → Reaches holds job (given p unread c)
    → All HasNoFeed c.unchecked
given_lines holds job _ _ _ law (needs_no_configuration p unread reaches none) = All-nil HasNoFeed
given_lines holds job _ _ _ law (reads_configuration p unread name text c reaches some has reads) = law.read job.wide (length p.program.files) name text c reads

configured_lines : (holds : Option (List File)) (job : Job) (p : Program) (c : Config) → LinesKnown → Reaches holds job (configured p c) → All HasNoFeed c.unchecked
configured_lines holds job _ _ law (passes w p q unread c d reaches expands is) =
    law.passed job.wide p q c d job.silent unread is (given_lines holds job w unread c law reaches)

-- a specification leaves unchecked what its configuration does
same_unchecked : (p : Program) (c : Config) (silent : Option (List ℕ)) (s : Spec) → Resolved p c silent (Ok s) → s.unchecked ≡ c.unchecked
same_unchecked p c silent _ (accepted values number ops assumes s conf low is) = is.unchecked

resolved_lines : (holds : Option (List File)) (job : Job) (p : Program) (c : Config) (s : Spec) → LinesKnown → Reaches holds job (resolved p c s) → All HasNoFeed s.unchecked
resolved_lines holds job p c s law (resolves _ _ _ reaches is) =
    let with = resolved_with job.wide p c job.silent s is in
    subst (All HasNoFeed) (sym (same_unchecked p with.config job.silent s with.is ∙ with.unchecked)) (configured_lines holds job p c law reaches)

logged_lines : (holds : Option (List File)) (job : Job) (p : Program) (c : Config) (s : Spec) (read : LogsRead) (names : List (List ℕ)) → LinesKnown
    → Reaches holds job (logged p c s read names) → All HasNoFeed s.unchecked
logged_lines holds job p c s _ _ law (has_forms _ _ _ reaches whole) = resolved_lines holds job p c s law reaches
logged_lines holds job p c s _ names law (reads_log _ _ _ read name _ text f reaches log says) = logged_lines holds job p c s read (name ∷ names) law reaches

pub accepted_lines : (holds : Option (List File)) (job : Job) (p : Program) (c : Config) (s : Spec) (lined : Lined) → LinesKnown → AllRead holds job p c s lined → All HasNoFeed s.unchecked
accepted_lines holds job p c s lined law all = logged_lines holds job p c s all.read _ law all.reaches

pub prints_valid : (job : Job) (p : Program) (c : Config) (s : Spec) (lined : Lined) → PrintedIsValid s lined (asked_by job.options) → All HasNoFeed s.unchecked → All IsUtf8 s.variables
    → ArePlaced lined → PrintsValid job p c s lined
prints_valid job p c s lined law lines texts places w widest a =
    law (named_in job p c s lined) w widest (record { variables = refl; texts = texts; unchecked = lines; places = places }) a

-- where the lines are explained each assumption is TRUE
explained_assumed : (s : Spec) (lined : Lined) (asked : Asked) (w : List Shown) (widest : ℕ) → IsTrueOf s asked lined (Explained w widest) → AreAssumedOf s asked lined
explained_assumed s (Sequence log) asked w widest a = a.0
explained_assumed s (Tied logs) asked w widest a = a.0

pub is_checked_valid : (job : Job) (p : Program) (c : Config) (s : Spec) (lined : Lined) → PrintsValid job p c s lined → IsCheckedValid job p c s lined
is_checked_valid job p c s lined valid w widest a limit why near holds before now witness all has =
    let v = valid w widest a in
    let read = all_read_so limit why near holds job p c s lined all in
    let assumed = assumed_so s lined (asked_by job.options) limit (explained_assumed s lined (asked_by job.options) w widest a) in
    let judged = judged_so s lined (asked_by job.options) limit w v.1 in
    is_answered_given p c s lined w _ _ (record { all_read = read; text = _; has_text = has; says = v.0 }) (is_judged Valid assumed judged refl refl)
