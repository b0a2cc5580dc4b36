-- Where all texts are accepted, no count rises and nothing hinders a verdict, a call of `validate` decides.
use Rattle.std.proofs.Common.{ℕ, List, Option, Some, inl, inr, refl, subst}
use Rattle.base_core.specs.Device.{Appended, File, Rose}
use Rattle.reading_trees.specs.declared.config.Config.{Config}
use Rattle.reading_trees.specs.declared.module.Program.{Program}
use Rattle.states_core.specs.System.{System}
use Rattle.names_terms.specs.declared.spec.Spec.{Spec}
use Rattle.steps_lines_defs.specs.Logs.{Asked, system}
use Rattle.logs_tied.specs.declared.logs.Lined.{Lined}
use Rattle.logs_tied.specs.declared.logs.Lined.TheVariants.{Sequence, Tied}
use Rattle.steps_tied.specs.Tied.{tied_system}
use Rattle.steps_lined.specs.Answers.{IsTrueOf}
use Rattle.states_layers.specs.Answers.{IsAnswer, fault}
use Rattle.states_layers.specs.declared.answer.Answer.{Answer}
use Rattle.states_layers.specs.declared.answer.Answer.TheVariants.{AssumeFalse, AssumeFault, Explained, Fault, InitFault, LayerLimit, NoInitial, NotExplained, TotalLimit}
use Rattle.twice_logs.specs.LinedBeside.{AreBesideLined}
use Rattle.twice_logs.specs.Lined.{LinedAnswersAlike}
use Rattle.run_words.specs.declared.job.Job.{Job}
use Rattle.run_words.specs.declared.job.Words.TheVariants.{Check, SelfRun, Validate}
use Rattle.run_words.specs.Words.{AreWords, OneCommand}
use Rattle.run_reading_defs.specs.Reaches.{AllRead}
use Rattle.run_call.specs.Calls.{Answers, Calls, asked_by, is_answered, is_refused}
use Rattle.run_call.specs.Run.{HasFailed, HoldsReport, Runs, checks, in_no_form, tests_itself, validates}
use Rattle.run_call.specs.declared.call.Status.{Status}
use Rattle.run_call.specs.declared.call.Status.TheVariants as status
use Rattle.twice_readings.specs.Readings.{AreSame, ReadingIsOne}
use Rattle.twice_readings.specs.NotRefused.{ReadNotRefused}
use Rattle.twice_calls.specs.Ends.{Ends}
use Rattle.twice_calls.specs.Decided.{EndsDecided, IsDecided, IsUnhindered, IsUnhinderedOf, RunsDecide, is_decided, wants_memory}
use Rattle.twice_calls.proofs.Following.{job_is, no_check, no_test}

-- What is known of words and of reading.
pub record Decides : Type 0 where
  pub command : OneCommand
  pub reading : ReadingIsOne
  pub answers : LinedAnswersAlike
  pub refused : ReadNotRefused

decides : {A : Type 0} (y : System A) (answer : Answer) → IsUnhindered y → IsAnswer y answer → IsDecided answer
decides y (Explained w widest) h a = tt
decides y (NotExplained n all after w) h a = tt
decides y NoInitial h a = tt
decides y (InitFault kind at) h a = h.no_init_fault a.1.0 (fault kind at) a.1.1
decides y (Fault n j state kind at) h a = h.no_step_fault n j a.1.member a.1.faults.0 (fault kind at) a.1.before a.1.reached a.1.faults.1
decides y (AssumeFault kind at) h a = h.no_assume_fault a.index (fault kind at) a.below a.faults
decides y (AssumeFalse at) h a = h.none_false a.index at a.below a.is_false
decides y (LayerLimit n j) h a = h.layers n j a.1
decides y (TotalLimit n j) h a = h.together n j a.1.layer a.1.more

decides_of : (s : Spec) (asked : Asked) (lined : Lined) (answer : Answer) → IsUnhinderedOf s asked lined → IsTrueOf s asked lined answer → IsDecided answer
decides_of s asked (Sequence log) answer h a = decides (system s log asked) answer h a
decides_of s asked (Tied logs) answer h a = decides (tied_system s logs asked) answer h a

beside : (p q : Program) (c d : Config) (s t : Spec) (lined other : Lined) → AreSame p q c d s t lined other → AreBesideLined s t lined other
beside p q c d s t lined other same = record { specs = same.specs; smaller = same.ordered.smaller; smaller_other = same.other_ordered.smaller; lines = same.lines }

module _ (known : Decides) (words : List (List ℕ)) (files : List File) (job : Job) (form : AreWords words (Validate job)) (p : Program) (c : Config) (s : Spec) (lined : Lined)
    (all : AllRead (Some files) job p c s lined) (free : IsUnhinderedOf s (asked_by job.options) lined) (old new : Option (List ℕ)) where
  answered : (q : Program) (d : Config) (t : Spec) (other : Lined) (end : Status) (report : List ℕ) → AllRead (Some files) job q d t other → Answers job q d t other end report
      → Appended old report new → EndsDecided files job old new end
  answered q d t other end report there h wrote =
      let same = known.reading files job q p d c t s other lined there all in
      let here : IsTrueOf s (asked_by job.options) lined h.answer =
      (known.answers t s other lined (asked_by job.options) (beside q p d c t s other lined same)).answer h.answer h.is_true in
      is_decided q d t other end report there h (decides_of s (asked_by job.options) lined h.answer free here) wrote

  called : (before now : ℕ) (end : Status) (report : List ℕ) → Calls (Some files) before now job end report → Appended old report new → EndsDecided files job old new end
  called before now _ _ (is_refused report refusal) wrote = absurd (known.refused files before now job p c s lined report all refusal)
  called before now _ _ (is_answered q d t other end report there held h) wrote = answered q d t other end report there h wrote

  ran : (before now : ℕ) (end : Status) (report : List ℕ) → Runs words (Some files) before now end report → Appended old report new → EndsDecided files job old new end
  ran before now _ _ (in_no_form never) wrote = absurd (never (Validate job) form)
  ran before now _ _ (validates other end report its calls) wrote =
      let same = job_is other job (known.command words (Validate other) (Validate job) its form) in
      called before now end report (subst (λ (j : Job). Calls (Some files) before now j end report) same calls) wrote
  ran before now _ _ (checks other witness end report its calls) wrote = absurd (no_check job other witness (known.command words (Validate job) (Check other witness) form its))
  ran before now _ _ (tests_itself n end report its tests) wrote = absurd (no_test job n (known.command words (Validate job) (SelfRun n) form its))

  module _ (before now out_before out_now : ℕ) (still : ¬ Rose before now) (quiet : ¬ Rose out_before out_now) where
    told : (end : Status) → HoldsReport words (Some files) before now end old new → EndsDecided files job old new end
    told end h = ran before now end h.0 h.1 h.2

    never_failed : HasFailed words (Some files) before now out_before out_now old new → ⊥
    never_failed (inl rose) = quiet rose
    never_failed (inr failed) = still failed.0

    ended : (end : Status) → Ends words (Some files) before now out_before out_now old new end → EndsDecided files job old new end
    ended status.Device h = absurd (never_failed (h.device refl))
    ended status.Memory h = wants_memory
    ended status.Done h = told status.Done (h.report (λ e. cc) (λ e. cc))
    ended status.Not h = told status.Not (h.report (λ e. cc) (λ e. cc))
    ended status.Words h = told status.Words (h.report (λ e. cc) (λ e. cc))
    ended status.Reading h = told status.Reading (h.report (λ e. cc) (λ e. cc))
    ended status.Evaluation h = told status.Evaluation (h.report (λ e. cc) (λ e. cc))
    ended status.Limit h = told status.Limit (h.report (λ e. cc) (λ e. cc))

pub runs_decide : Decides → RunsDecide
runs_decide known words files job form p c s lined all free before now out_before out_now still quiet old new end ends =
    ended known words files job form p c s lined all free old new before now out_before out_now still quiet end ends
