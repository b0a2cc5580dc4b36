-- What the smoke test calls for: the module Ring beside its log, both of which it makes itself.
use Rattle.std.specs.Prelude.{◌≢◌, ℕ, List, Some, string_bytes}
use Rattle.reading_trees.specs.declared.config.Config.{Config}
use Rattle.reading_trees.specs.declared.module.Program.{Program}
use Rattle.names_terms.specs.declared.spec.Spec.{Spec}
use Rattle.states_core.specs.declared.state.Shown.{Shown}
use Rattle.logs_tied.specs.declared.logs.Lined.{Lined}
use Rattle.states_layers.specs.declared.answer.Answer.TheVariants.{Explained}
use Rattle.states_verdicts.specs.declared.verdict.Verdict.TheVariants.{Valid}
use Rattle.steps_lined.specs.Answers.{IsTrueOf}
use Rattle.judge_verdicts.specs.Lined.{IsJudgedOf}
use Rattle.run_ring.specs.Ring.{ring_files, ring_job}
use Rattle.run_reading_defs.specs.Reaches.{AllRead}
use Rattle.run_stages.specs.declared.stop.Stop.{Stop}
use Rattle.run_stages.specs.declared.stop.Stop.TheVariants as stop
use Rattle.run_texts.specs.Smoke.{smoke_text}
use Rattle.run_call.specs.declared.call.Status.{Status}
use Rattle.run_call.specs.declared.call.Status.TheVariants.{Done, Reading}
use Rattle.run_call.specs.Calls.{Calls, asked_by}

-- What the smoke test over n lines calls for: what `validate` says of the module Ring and its log; but where they are explained, the states being valid,
-- its own report.
pub data SmokeTests (n : ℕ) : Status → List ℕ → Type 0 where
  is_sure : (p : Program) (c : Config) (s : Spec) (lined : Lined) (w : List Shown) (widest : ℕ) → AllRead (Some (ring_files n)) ring_job p c s lined
      → IsTrueOf s (asked_by ring_job.options) lined (Explained w widest) → IsJudgedOf s (asked_by ring_job.options) lined w Valid
      → SmokeTests n Done (smoke_text n widest s.variables w)
  is_not_explained : (s : Status) (report : List ℕ) → Calls (Some (ring_files n)) 0 0 ring_job s report → s ≢ Done → SmokeTests n s report

-- The smoke test stops: a first refusal is its report; or memory is wanting. No read of its files fails.
abbrev pub IsSmokeStop : ℕ → Stop → Type 0
IsSmokeStop n (stop.Refused report) = SmokeTests n Reading (string_bytes report)
IsSmokeStop n (stop.Device name) = ⊥
IsSmokeStop n stop.NoMemory = Unit {0}
