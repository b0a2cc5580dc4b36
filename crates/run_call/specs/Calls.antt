-- What a job calls for: one status and one report, by the first refusal in the order of reading, or else by what is true of the specification beside the lines of its logs.
use Rattle.std.specs.Prelude.{◌≡◌, ℕ, List, Option, length}
use Rattle.base_core.specs.Device.{File}
use Rattle.reading_trees.specs.declared.config.Config.{Config}
use Rattle.reading_trees.specs.declared.module.Program.{Program}
use Rattle.names_terms.specs.declared.spec.Spec.{Spec}
use Rattle.steps_lines_defs.specs.Logs.{Asked}
use Rattle.logs_tied.specs.declared.logs.Lined.{Lined}
use Rattle.logs_tied.specs.declared.logs.Lined.TheVariants.{Sequence, Tied}
use Rattle.states_layers.specs.declared.answer.Answer.{Answer}
use Rattle.states_layers.specs.declared.answer.Answer.TheVariants.{Explained, NotExplained, NoInitial, InitFault, Fault, AssumeFault, AssumeFalse, LayerLimit, TotalLimit}
use Rattle.states_core.specs.declared.state.Shown.{Shown}
use Rattle.states_verdicts.specs.declared.verdict.Verdict.{Verdict}
use Rattle.states_verdicts.specs.declared.verdict.Verdict.TheVariants as verdict
use Rattle.run_words.specs.declared.job.Job.{Job}
use Rattle.run_words.specs.declared.job.Options.{Options}
use Rattle.run_reading_defs.specs.Reaches.{AllRead}
use Rattle.run_reading_defs.specs.Refusals.{IsRefusal, all_files}
use Rattle.run_reading_defs.specs.Given.{AllGiven, IsGivenRefusal}
use Rattle.run_texts.specs.Answers.{Named, answer_text}
use Rattle.run_texts.specs.Verdicts.{verdict_text}
use Rattle.steps_ready_defs.specs.Beside.{asked}
use Rattle.steps_lined.specs.Answers.{AreAssumedOf, IsTrueOf, IsUnassumedOf}
use Rattle.steps_lined.specs.Beside.{lines_of}
use Rattle.judge_verdicts.specs.Lined.{IsJudgedOf}
use Rattle.steps_lined.specs.Held.{IsHeldSo}
use Rattle.run_why.specs.Reports.{IsReport}
use Rattle.run_call.specs.declared.call.Status.{Status}
use Rattle.run_call.specs.declared.call.Status.TheVariants.{Done, Not, Reading, Evaluation, Limit}

-- the status that goes with an answer
abbrev pub status_of : Answer → Status
status_of (Explained w widest) = Done
status_of (NotExplained prefix all after w) = Not
status_of NoInitial = Not
status_of (InitFault kind at) = Evaluation
status_of (Fault after silent s kind at) = Evaluation
status_of (AssumeFault kind at) = Evaluation
status_of (AssumeFalse at) = Evaluation
status_of (LayerLimit after silent) = Limit
status_of (TotalLimit after silent) = Limit

-- what the options ask for beside the specification and the lines of its logs
abbrev pub asked_by : Options → Asked
asked_by options = asked options.stutter options.within options.limit

-- what a report names, of so many lines
abbrev pub named_beside : Job → Program → Config → Spec → ℕ → Named
named_beside job p c s lines = record {
  files = all_files p c;
  logs = job.logs;
  variables = s.variables;
  unchecked = s.unchecked;
  lines = lines;
  limit = job.options.limit;
}

abbrev pub named_in : Job → Program → Config → Spec → Lined → Named
named_in job p c s lined = named_beside job p c s (lines_of lined)

-- The report of an answer. What is told behind it, where that is asked for, is told beside lines in one order alone.
abbrev pub IsReportOf : Spec → Lined → Asked → Named → Option ℕ → Option ℕ → Answer → List ℕ → Type 0
IsReportOf g (Sequence log) a l why near answer report = IsReport g log a l why near answer report
IsReportOf g (Tied logs) a l why near answer report = report ≡ answer_text l answer

-- The answer is true of the specification beside the lines of its logs; these are its status and its report, with what is told behind it where it is asked for.
pub record Answers (job : Job) (p : Program) (c : Config) (s : Spec) (lined : Lined) (status : Status) (report : List ℕ) : Type 0 where
  pub answer : Answer
  pub is_true : IsTrueOf s (asked_by job.options) lined answer
  pub status_is : status ≡ status_of answer
  pub report_is : IsReportOf s lined (asked_by job.options) (named_in job p c s lined) job.why job.near answer report

-- what the job calls for; the files' count of faults was before and is now
pub data Calls (holds : Option (List File)) (before now : ℕ) (job : Job) : Status → List ℕ → Type 0 where
  is_refused : (report : List ℕ) → IsRefusal holds before now job report → Calls holds before now job Reading report
  is_answered : (p : Program) (c : Config) (s : Spec) (lined : Lined) (status : Status) (report : List ℕ) → AllRead holds job p c s lined
      → IsHeldSo s lined → Answers job p c s lined status report → Calls holds before now job status report

-- the status that goes with a verdict
abbrev pub status_of_verdict : Verdict → Status
status_of_verdict verdict.Valid = Done
status_of_verdict (verdict.Invalid index reason) = Not
status_of_verdict (verdict.Fault index kind at) = Evaluation

-- What is true of given states beside the specification and the lines of its logs, with its status and its report: the first assumption that is not TRUE, of which
-- `validate` says the same; and where all are TRUE, the verdict on the states.
pub data AnswersGiven (job : Job) (p : Program) (c : Config) (s : Spec) (lined : Lined) (w : List Shown) (status : Status) (report : List ℕ) : Type 0 where
  is_unassumed : (answer : Answer) → IsUnassumedOf s (asked_by job.options) lined answer → status ≡ status_of answer
      → report ≡ answer_text (named_in job p c s lined) answer → AnswersGiven job p c s lined w status report
  is_judged : (v : Verdict) → AreAssumedOf s (asked_by job.options) lined → IsJudgedOf s (asked_by job.options) lined w v
      → status ≡ status_of_verdict v → report ≡ verdict_text (all_files p c) (length w) v → AnswersGiven job p c s lined w status report

-- what the job of `check` calls for, the file of states being this one
pub data CallsGiven (holds : Option (List File)) (before now : ℕ) (job : Job) (witness : List ℕ) : Status → List ℕ → Type 0 where
  is_refused_given : (report : List ℕ) → IsGivenRefusal holds before now job witness report → CallsGiven holds before now job witness Reading report
  is_answered_given : (p : Program) (c : Config) (s : Spec) (lined : Lined) (w : List Shown) (status : Status) (report : List ℕ)
      → AllGiven holds job witness p c s lined w → AnswersGiven job p c s lined w status report → CallsGiven holds before now job witness status report
