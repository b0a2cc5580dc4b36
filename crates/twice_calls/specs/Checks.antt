-- Two calls of the program: `validate`, whose report is kept as a file, and then `check` of that file. It is said of files that tell what they hold.
use Rattle.std.specs.Prelude.{◌≤◌, ℕ, List, [], Option, Some, length}
use Rattle.base_core.specs.Device.{File}
use Rattle.base_core.specs.Failures.{Failures}
use Rattle.states_core.specs.declared.state.Shown.{Shown}
use Rattle.run_words.specs.declared.job.Job.{Job}
use Rattle.run_words.specs.declared.job.Words.TheVariants.{Check, Validate}
use Rattle.run_words.specs.Words.{AreWords}
use Rattle.run_reading_defs.specs.Given.{states_limit}
use Rattle.run_call.specs.declared.call.Status.{Status}
use Rattle.run_call.specs.declared.call.Status.TheVariants.{Done}
use Rattle.twice_calls.specs.Printed.{searching}
use Rattle.twice_calls.specs.AfterExplained.{AreWith, EndsValid, IsFree, TellsExplained}
use Rattle.run_library.specs.Behind.{files_behind}
use Rattle.run_library.specs.Calls.{CallEnds, LibraryAt}

-- each call of `check` on a report of so many states that is kept under a free name, and is no longer than a file of states may be, ends with VALID
abbrev pub CallsValid : List (List ℕ) → Option (List ℕ) → List File → Job → List ℕ → ℕ → Type 0
CallsValid words folder files job report states =
    (others : List File) (witness : List ℕ) → AreWith files others witness report → IsFree words (files_behind folder files) witness → length report ≤ states_limit
    → (again : List (List ℕ)) (limit : ℕ) (why near : Option ℕ) → AreWords again (Check (searching limit why near job) witness)
    → (before now out_before out_now : ℕ) (first last : Failures) (old new : Option (List ℕ)) (end : Status)
    → CallEnds again (Some others) before now out_before out_now first last old new end
    → EndsValid states before now out_before out_now old new end

-- Where `validate` ends with status 0, its report tells EXPLAINED, and each `check` of it then answers VALID.
abbrev pub CallChecksAfter : Type 0
CallChecksAfter =
    (words : List (List ℕ)) (folder : Option (List ℕ)) (files : List File) (job : Job) (before now out_before out_now : ℕ) (first last : Failures) (report : List ℕ)
    → AreWords words (Validate job) → LibraryAt words folder → CallEnds words (Some files) before now out_before out_now first last (Some []) (Some report) Done
    → (w : List Shown) × TellsExplained report w × CallsValid words folder files job report (length w)
