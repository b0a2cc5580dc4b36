-- What `validate` prints of logs that are explained, and what `check` of it answers, as often as it is asked.
use Rattle.std.specs.Prelude.{◌≡◌, ◌⊎◌, ℕ, List, Option, length, Some}
use Rattle.base_core.specs.Device.{File, IsWhole}
use Rattle.reading_trees.specs.declared.config.Config.{Config}
use Rattle.reading_trees.specs.declared.module.Program.{Program}
use Rattle.states_core.specs.declared.state.Shown.{Shown}
use Rattle.names_terms.specs.declared.spec.Spec.{Spec}
use Rattle.logs_tied.specs.declared.logs.Lined.{Lined}
use Rattle.steps_lined.specs.Answers.{IsTrueOf}
use Rattle.states_layers.specs.declared.answer.Answer.TheVariants.{Explained}
use Rattle.states_verdicts.specs.declared.verdict.Verdict.TheVariants.{Valid}
use Rattle.run_words.specs.declared.job.Job.{Job}
use Rattle.run_texts.specs.Answers.{answer_text}
use Rattle.run_texts.specs.Verdicts.{verdict_text}
use Rattle.run_reading_defs.specs.Given.{IsGivenRefusal, states_limit}
use Rattle.run_reading_defs.specs.Reaches.{AllRead}
use Rattle.run_reading_defs.specs.Refusals.{all_files}
use Rattle.run_reading_defs.specs.Texts.{HasText}
use Rattle.run_call.specs.Calls.{CallsGiven, asked_by, named_in}
use Rattle.run_call.specs.declared.call.Status.{Status}
use Rattle.run_call.specs.declared.call.Status.TheVariants.{Done, Reading}
use Rattle.twice_calls.specs.Printed.{searching}

-- the reading of `check` is refused, or the answer is VALID
abbrev pub IsValidOrRefused : Option (List File) → ℕ → ℕ → Job → Program → Config → List ℕ → List Shown → Status → List ℕ → Type 0
IsValidOrRefused holds before now job p c witness w status report =
    ((status ≡ Reading) × IsGivenRefusal holds before now job witness report) ⊎ ((status ≡ Done) × (report ≡ verdict_text (all_files p c) (length w) Valid))

-- Where files tell what they hold, and the report of logs that are explained is the text of one of them, whatever `check` of this file calls for is VALID
-- with status 0, or a refusal of its reading; whatever stands in its job in place of what `validate` alone takes.
abbrev pub CheckAnswersValid : Job → Program → Config → Spec → Lined → Type 0
CheckAnswersValid job p c s lined =
    (w : List Shown) (widest : ℕ) → IsTrueOf s (asked_by job.options) lined (Explained w widest)
    → (limit : ℕ) (why near : Option ℕ) (files : List File) (witness : List ℕ) → AllRead (Some files) job p c s lined
    → IsWhole witness (Some files) (answer_text (named_in job p c s lined) (Explained w widest))
    → (before now : ℕ) (status : Status) (report : List ℕ) → CallsGiven (Some files) before now (searching limit why near job) witness status report
    → IsValidOrRefused (Some files) before now (searching limit why near job) p c witness w status report

-- Where that text is no longer than a file of states may be, nothing is refused either: whatever `check` of this file calls for is VALID with status 0.
abbrev pub CheckIsValid : Job → Program → Config → Spec → Lined → Type 0
CheckIsValid job p c s lined =
    (w : List Shown) (widest : ℕ) → IsTrueOf s (asked_by job.options) lined (Explained w widest)
    → (limit : ℕ) (why near : Option ℕ) (files : List File) (witness : List ℕ) → AllRead (Some files) job p c s lined
    → HasText (Some files) witness states_limit (answer_text (named_in job p c s lined) (Explained w widest))
    → (before now : ℕ) (status : Status) (report : List ℕ) → CallsGiven (Some files) before now (searching limit why near job) witness status report
    → (status ≡ Done) × (report ≡ verdict_text (all_files p c) (length w) Valid)
