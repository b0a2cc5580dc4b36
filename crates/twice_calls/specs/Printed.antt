-- What `validate` prints of logs that are explained, and what `check` says of it.
use Rattle.std.specs.Prelude.{ℕ, List, Option, length, Ok}
use Rattle.base_core.specs.Device.{File}
use Rattle.reading_trees.specs.declared.config.Config.{Config}
use Rattle.reading_trees.specs.declared.module.Program.{Program}
use Rattle.states_core.specs.declared.state.Shown.{Shown}
use Rattle.names_terms.specs.declared.spec.Spec.{Spec}
use Rattle.logs_tied.specs.declared.logs.Lined.{Lined}
use Rattle.states_files.specs.Files.{StateFileSays}
use Rattle.states_layers.specs.declared.answer.Answer.TheVariants.{Explained}
use Rattle.states_verdicts.specs.declared.verdict.Verdict.TheVariants.{Valid}
use Rattle.steps_lined.specs.Answers.{IsTrueOf}
use Rattle.judge_verdicts.specs.Lined.{IsJudgedOf}
use Rattle.run_words.specs.declared.job.Job.{Job}
use Rattle.run_texts.specs.Answers.{answer_text}
use Rattle.run_texts.specs.Verdicts.{verdict_text}
use Rattle.run_reading_defs.specs.Given.{states_limit}
use Rattle.run_reading_defs.specs.Reaches.{AllRead}
use Rattle.run_reading_defs.specs.Refusals.{all_files}
use Rattle.run_reading_defs.specs.Texts.{HasText}
use Rattle.run_call.specs.Calls.{CallsGiven, asked_by, named_in}
use Rattle.run_call.specs.declared.call.Status.TheVariants.{Done}

-- The report of logs that are explained says its behaviour, as a file of states, and that behaviour is valid.
abbrev pub PrintsValid : Job → Program → Config → Spec → Lined → Type 0
PrintsValid job p c s lined = (w : List Shown) (widest : ℕ) → IsTrueOf s (asked_by job.options) lined (Explained w widest)
    → StateFileSays s.variables (answer_text (named_in job p c s lined) (Explained w widest)) (Ok w) × IsJudgedOf s (asked_by job.options) lined w Valid

-- The job with this in place of what `validate` alone takes: the limit of a layer, and what is told behind an answer.
abbrev pub searching : ℕ → Option ℕ → Option ℕ → Job → Job
searching limit why near job = record job { options = record job.options { limit = limit }; why = why; near = near }

-- Where that report is the text of a file beside those of the job, `check` of this file calls for VALID and status 0, whatever stands in its job in place of
-- what `validate` alone takes.
abbrev pub IsCheckedValid : Job → Program → Config → Spec → Lined → Type 0
IsCheckedValid job p c s lined = (w : List Shown) (widest : ℕ) → IsTrueOf s (asked_by job.options) lined (Explained w widest)
    → (limit : ℕ) (why near : Option ℕ) (holds : Option (List File)) (before now : ℕ) (witness : List ℕ) → AllRead holds job p c s lined
    → HasText holds witness states_limit (answer_text (named_in job p c s lined) (Explained w widest))
    → CallsGiven holds before now (searching limit why near job) witness Done (verdict_text (all_files p c) (length w) Valid)
