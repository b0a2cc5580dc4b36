-- What is read and held is printed in lines and valid, so that `check` of its report answers VALID.
use Rattle.std.proofs.Common.{◌≡◌, ◌∙◌, ◌∷◌, [], List, ℕ, Option, Ok, Some, length, refl, subst, sym}
use Rattle.std.specs.Prelude.{All}
use Rattle.std.proofs.lemmas.List.Elements.{All-nil}
use Rattle.base_core.specs.Device.{File}
use Rattle.reading_trees.specs.declared.config.Config.{Config}
use Rattle.reading_trees.specs.declared.module.Program.{Program}
use Rattle.reading_trees.specs.declared.module.WholeProgram.{WholeProgram}
use Rattle.reading_modules.specs.declared.notes.Noted.{Noted}
use Rattle.reading_wide_modules.specs.declared.unread.Unread.{Unread}
use Rattle.names_terms.specs.declared.spec.Spec.{Spec}
use Rattle.names_resolving.specs.Resolved.{Resolved, accepted}
use Rattle.names_specification.proofs.Readings.{resolved_with}
use Rattle.logs_tied.specs.declared.logs.Lined.{Lined}
use Rattle.steps_tied.specs.Laws.{RunsOverOrders}
use Rattle.judge_truth.specs.Faults.{FaultsStay}
use Rattle.actions_form_laws.specs.Growth.{FormsStay}
use Rattle.judge_verdicts.proofs.LinedJudging.{explained_states, explained_valid, have_one}
use Rattle.states_files.specs.Laws.{StateFileSaysOne}
use Rattle.twice_printed.specs.StateFiles.{ExplainedReadsBack}
use Rattle.twice_printed.proofs.Printing.{printed_valid, spec_of}
use Rattle.run_words.specs.declared.job.Job.{Job}
use Rattle.run_reading_defs.specs.Reaches.{AllRead, Reaches, configured, given, has_forms, logged, needs_no_configuration, passes, reads_configuration, reads_log, resolved, resolves}
use Rattle.run_reading_defs.specs.Texts.{LogsRead}
use Rattle.reading_laws.specs.Telling.{HasNoFeed, UncheckedAreLines}
use Rattle.run_wide.specs.Laws.{PassedAreLines}
use Rattle.steps_lined.specs.Held.{IsHeldSo}
use Rattle.run_call.specs.Calls.{asked_by, named_in}
use Rattle.twice_calls.specs.Printed.{PrintsValid}
use Rattle.twice_logs.specs.Lined.{LinedAnswersAlike, LinedVerdictsAlike}
use Rattle.twice_readings.specs.Readings.{ReadingIsOne}
use Rattle.twice_calls.specs.OwnPlace.{ReadAreTellable}
use Rattle.twice_calls.specs.Assumption.{AssumedAreNotUnassumed}
use Rattle.twice_readings.specs.NotRefused.{GivenNotRefused}
use Rattle.twice_calls.specs.Answered.{CheckIsValid}
use Rattle.twice_calls.proofs.Answering as answering
use Rattle.twice_calls.specs.AfterExplained.{ChecksAfter}
use Rattle.twice_calls.proofs.Following.{Known, checks_after}

-- What is known of what is printed and judged.
pub record Valid : Type 0 where
  pub stay : FormsStay
  pub keep : FaultsStay
  pub runs : RunsOverOrders
  pub reads : ExplainedReadsBack
  pub unchecked : UncheckedAreLines
  pub passed : PassedAreLines
  pub own : ReadAreTellable
  pub assumed : AssumedAreNotUnassumed
  pub reading : ReadingIsOne
  pub answers : LinedAnswersAlike
  pub verdicts : LinedVerdictsAlike
  pub states : StateFileSaysOne
  pub given : GivenNotRefused

-- ---- each thing that is not checked is one line

module _ (known : Valid) (holds : Option (List File)) (job : Job) where
  given_lines : (p : WholeProgram) (unread : List (Noted Unread)) (c : Config) → Reaches holds job (given p unread c) → All HasNoFeed c.unchecked
  given_lines _ _ _ (needs_no_configuration p unread reaches none) = All-nil HasNoFeed
  given_lines _ _ _ (reads_configuration p unread name text c reaches some has reads) = known.unchecked job.wide (length p.program.files) name text c reads

  configured_lines : (p : Program) (c : Config) → Reaches holds job (configured p c) → All HasNoFeed c.unchecked
  configured_lines _ _ (passes w p q unread c d reaches expands is) = known.passed job.wide p q c d job.silent unread is (given_lines w unread c reaches)

  same_unchecked : (p : Program) (c : Config) (silent : Option (List ℕ)) (s : Spec) → Resolved p c silent (Ok s) → s.unchecked ≡ c.unchecked
  same_unchecked p c silent _ (accepted values number ops assumes s conf low is) = is.unchecked

  resolved_lines : (p : Program) (c : Config) (s : Spec) → Reaches holds job (resolved p c s) → All HasNoFeed s.unchecked
  resolved_lines p c s (resolves _ _ _ reaches is) =
      let with = resolved_with job.wide p c job.silent s is in
      subst (All HasNoFeed) (sym (same_unchecked p with.config job.silent s with.is ∙ with.unchecked)) (configured_lines p c reaches)

  logged_lines : (p : Program) (c : Config) (s : Spec) (read : LogsRead) (names : List (List ℕ)) → Reaches holds job (logged p c s read names) → All HasNoFeed s.unchecked
  logged_lines p c s _ _ (has_forms _ _ _ reaches whole) = resolved_lines p c s reaches
  logged_lines p c s _ names (reads_log _ _ _ read name _ text f reaches log says) = logged_lines p c s read (name ∷ names) reaches

-- ---- what is held is valid

held_prints : Valid → (holds : Option (List File)) (job : Job) (p : Program) (c : Config) (s : Spec) (lined : Lined) → AllRead holds job p c s lined → IsHeldSo s lined → PrintsValid job p c s lined
held_prints known holds job p c s lined all held w widest a =
    let asked = asked_by job.options in
    let valid = explained_valid s lined asked known.stay known.keep held.ready in
    let law = printed_valid s lined asked (spec_of s lined held.ready).ordered known.reads valid (explained_states s lined asked) known.runs held.ready in
    law (named_in job p c s lined) w widest (record { variables = refl; texts = held.texts; unchecked = logged_lines known holds job p c s all.read [] all.reaches; places = held.places }) a

held_is_valid : Valid → (holds : Option (List File)) (job : Job) (p : Program) (c : Config) (s : Spec) (lined : Lined) → AllRead holds job p c s lined → IsHeldSo s lined
    → CheckIsValid job p c s lined
held_is_valid known holds job p c s lined all held = answering.check_is_valid job p c s lined (record {
  prints = held_prints known holds job p c s lined all held;
  one = λ asked. have_one s lined asked held.ready;
  own = known.own;
  values = (spec_of s lined held.ready).known;
  assumed = known.assumed;
  reading = known.reading;
  answers = known.answers;
  verdicts = known.verdicts;
  states = known.states;
}) known.given

pub held_checks_after : Known → Valid → ChecksAfter
held_checks_after known valid = checks_after known (λ files. held_is_valid valid (Some files))
