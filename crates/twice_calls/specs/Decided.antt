-- Where all texts of a job are accepted, no count of faults rises and nothing hinders a verdict, a call of `validate` decides. It is said of files that tell what they
-- hold, by the clauses of `run` alone.
use Rattle.std.specs.Prelude.{ℕ, ◌<◌, List, Option, Some}
use Rattle.base_core.specs.Device.{Appended, File, Rose}
use Rattle.base_core.specs.declared.place.Place.{Place}
use Rattle.reading_trees.specs.declared.config.Config.{Config}
use Rattle.reading_trees.specs.declared.module.Program.{Program}
use Rattle.states_core.specs.Runs.{Faults, Layer, Upto}
use Rattle.states_core.specs.Sets.{HasMoreThan}
use Rattle.states_core.specs.System.{System}
use Rattle.states_core.specs.declared.fault.Fault.{Fault}
use Rattle.names_terms.specs.declared.spec.Spec.{Spec}
use Rattle.steps_lines_defs.specs.Logs.{Asked, system}
use Rattle.logs_tied.specs.declared.logs.Lined.{Lined}
use Rattle.logs_tied.specs.declared.logs.Lined.TheVariants.{Sequence, Tied}
use Rattle.steps_tied.specs.Tied.{tied_system}
use Rattle.states_layers.specs.Answers.{AllAssumed, HasLayer}
use Rattle.states_layers.specs.declared.answer.Answer.{Answer}
use Rattle.states_layers.specs.declared.answer.Answer.TheVariants.{Explained, NoInitial, NotExplained}
use Rattle.run_words.specs.declared.job.Job.{Job}
use Rattle.run_words.specs.declared.job.Words.TheVariants.{Validate}
use Rattle.run_words.specs.Words.{AreWords}
use Rattle.run_reading_defs.specs.Reaches.{AllRead}
use Rattle.run_call.specs.Calls.{Answers, asked_by}
use Rattle.run_call.specs.declared.call.Status.{Status}
use Rattle.run_call.specs.declared.call.Status.TheVariants.{Memory}
use Rattle.twice_calls.specs.Ends.{Ends}

-- Nothing hinders a verdict: each assumption is TRUE and has no other outcome; Init faults nowhere; no step faults from what is reached, before the last line; and no
-- layer is too large, nor are the layers together up to one that there is.
pub record IsUnhindered {A : Type 0} (y : System A) : Type 0 where
  pub assumed : AllAssumed y
  pub no_assume_fault : (k : ℕ) (f : Fault) → k < y.assumes → y.FaultAssume k f → ⊥
  pub none_false : (k : ℕ) (at : Place) → k < y.assumes → y.IsFalse k at → ⊥
  pub no_init_fault : (t : A) (f : Fault) → y.FaultInit t f → ⊥
  pub no_step_fault : (n j : ℕ) (s t : A) (f : Fault) → n < y.count → Layer y n j s → Faults y n j s t f → ⊥
  pub layers : (n j : ℕ) → HasMoreThan (Layer y n j) y.limit → ⊥
  pub together : (n j : ℕ) → HasLayer y n j → HasMoreThan (Upto y n j) y.total → ⊥

-- the same of a specification beside the lines of all logs
abbrev pub IsUnhinderedOf : Spec → Asked → Lined → Type 0
IsUnhinderedOf g asked (Sequence log) = IsUnhindered (system g log asked)
IsUnhinderedOf g asked (Tied logs) = IsUnhindered (tied_system g logs asked)

-- EXPLAINED, NOT EXPLAINED or NO INITIAL STATE
abbrev pub IsDecided : Answer → Type 0
IsDecided (Explained w widest) = Unit {0}
IsDecided (NotExplained n of after w) = Unit {0}
IsDecided NoInitial = Unit {0}
IsDecided answer = ⊥

-- The call ends so that its report tells such an answer, which is true of a reading of these files; or for want of memory.
pub data EndsDecided (files : List File) (job : Job) (old new : Option (List ℕ)) : Status → Type 0 where
  is_decided : (p : Program) (c : Config) (s : Spec) (lined : Lined) (end : Status) (report : List ℕ) → AllRead (Some files) job p c s lined
      → (true_answer : Answers job p c s lined end report) → IsDecided true_answer.answer → Appended old report new → EndsDecided files job old new end
  wants_memory : EndsDecided files job old new Memory

abbrev pub RunsDecide : Type 0
RunsDecide =
    (words : List (List ℕ)) (files : List File) (job : Job) → AreWords words (Validate job)
    → (p : Program) (c : Config) (s : Spec) (lined : Lined) → AllRead (Some files) job p c s lined → IsUnhinderedOf s (asked_by job.options) lined
    → (before now out_before out_now : ℕ) → ¬ Rose before now → ¬ Rose out_before out_now
    → (old new : Option (List ℕ)) (end : Status) → Ends words (Some files) before now out_before out_now old new end → EndsDecided files job old new end
