-- For the prover: what is true of a specification beside a log, as the smoke test tells it.
use Rattle.std.specs.Prelude.{◌≢◌, ℕ, List}
use Rattle.reading_trees.specs.declared.config.Config.{Config}
use Rattle.reading_trees.specs.declared.module.Program.{Program}
use Rattle.names_terms.specs.declared.spec.Spec.{Spec}
use Rattle.states_core.specs.declared.state.Shown.{Shown}
use Rattle.logs_tied.specs.declared.logs.Lined.{Lined}
use Rattle.states_layers.specs.declared.answer.Answer.TheVariants.{Explained}
use Rattle.states_verdicts.specs.declared.verdict.Verdict.TheVariants.{Valid}
use Rattle.steps_lined.specs.Answers.{IsTrueOf}
use Rattle.judge_verdicts.specs.Lined.{IsJudgedOf}
use Rattle.run_words.specs.declared.job.Job.{Job}
use Rattle.run_texts.specs.Smoke.{smoke_text}
use Rattle.run_call.specs.declared.call.Status.{Status}
use Rattle.run_call.specs.declared.call.Status.TheVariants.{Done}
use Rattle.run_call.specs.Calls.{Answers, asked_by}

-- the log is explained and the states are valid, with the report over n lines; or another answer is true, with its own report
pub data IsTested (n : ℕ) (job : Job) (p : Program) (c : Config) (s : Spec) (lined : Lined) : Status → List ℕ → Type 0 where
  tested_sure : (w : List Shown) (widest : ℕ) → IsTrueOf s (asked_by job.options) lined (Explained w widest)
      → IsJudgedOf s (asked_by job.options) lined w Valid → IsTested n job p c s lined Done (smoke_text n widest s.variables w)
  tested_other : (status : Status) (report : List ℕ) → Answers job p c s lined status report → status ≢ Done → IsTested n job p c s lined status report
