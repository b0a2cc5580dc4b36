-- The reading of `check`: behind the logs the file of states is read, and it is the last.
use Rattle.std.specs.Prelude.{ℕ, List, [], Option, Ok, Err}
use Rattle.base_core.specs.Device.{File, IsLonger, Lacks}
use Rattle.reading_trees.specs.declared.config.Config.{Config}
use Rattle.reading_trees.specs.declared.module.Program.{Program}
use Rattle.names_terms.specs.declared.spec.Spec.{Spec}
use Rattle.states_core.specs.declared.state.Shown.{Shown}
use Rattle.logs_tied.specs.declared.logs.Lined.{Lined}
use Rattle.states_files.specs.Files.{StateFileSays}
use Rattle.states_files.specs.declared.refusal.StateRefusal.{StateRefusal}
use Rattle.run_words.specs.declared.job.Job.{Job}
use Rattle.run_texts.specs.Files.{missing_text, too_long_text}
use Rattle.run_texts.specs.GivenStates.{states_refusal}
use Rattle.run_reading_defs.specs.Texts.{HasText, LogsRead}
use Rattle.run_reading_defs.specs.Reaches.{AllRead, Reaches, Stage, Wants, logged}
use Rattle.run_reading_defs.specs.Refusals.{Rejects}

-- a file of states has at most this many bytes
abbrev pub states_limit : ℕ
states_limit = 268435456

-- The file is read next, with this limit, and nothing before it is refused: a file that `validate` reads too or, all logs being read, that of the states.
pub data GivenWants (holds : Option (List File)) (job : Job) (witness : List ℕ) : List ℕ → ℕ → Type 0 where
  wants_before : (name : List ℕ) (limit : ℕ) → Wants holds job name limit → GivenWants holds job witness name limit
  wants_states : (p : Program) (c : Config) (s : Spec) (read : LogsRead) → Reaches holds job (logged p c s read [])
      → GivenWants holds job witness witness states_limit

-- The report of the first refusal: a file is missing, which the files tell, or else their count of faults rose; it is too long; or a text is refused.
pub data IsGivenRefusal (holds : Option (List File)) (before now : ℕ) (job : Job) (witness : List ℕ) : List ℕ → Type 0 where
  is_missing : (name : List ℕ) (limit : ℕ) → GivenWants holds job witness name limit → Lacks name holds before now
      → IsGivenRefusal holds before now job witness (missing_text name)
  is_too_long : (name : List ℕ) (limit : ℕ) → GivenWants holds job witness name limit → IsLonger name holds limit
      → IsGivenRefusal holds before now job witness (too_long_text name)
  is_refused : (stage : Stage) (report : List ℕ) → Reaches holds job stage → Rejects holds job stage report → IsGivenRefusal holds before now job witness report
  are_refused : (p : Program) (c : Config) (s : Spec) (read : LogsRead) (text : List ℕ) (refusal : StateRefusal) → Reaches holds job (logged p c s read [])
      → HasText holds witness states_limit text → StateFileSays s.variables text (Err refusal)
      → IsGivenRefusal holds before now job witness (states_refusal witness refusal)

-- All texts are read and none is refused: this is the specification, these are the lines of the logs, and these the states that the file gives.
pub record AllGiven (holds : Option (List File)) (job : Job) (witness : List ℕ) (p : Program) (c : Config) (s : Spec) (lined : Lined) (w : List Shown) : Type 0 where
  pub all_read : AllRead holds job p c s lined
  pub text : List ℕ
  pub has_text : HasText holds witness states_limit text
  pub says : StateFileSays s.variables text (Ok w)
