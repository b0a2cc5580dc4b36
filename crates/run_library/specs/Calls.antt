-- A call of the program: `run` over the files and, where the words have `--wide`, the library behind them in the folder of the main module. Files that are called for
-- without the word, by `selfrun`, or by words that are no command, are those that are given.
use Rattle.std.specs.Prelude.{◌≡◌, ◌≢◌, ◌⊎◌, ℕ, true, false, List, Option, Some, None}
use Rattle.base_core.specs.Device.{File, Rose}
use Rattle.base_core.specs.Failures.{Failures}
use Rattle.reading_modules.specs.Paths.{IsPath}
use Rattle.run_words.specs.declared.job.Job.{Job}
use Rattle.run_words.specs.declared.job.Words.{Words}
use Rattle.run_words.specs.declared.job.Words.TheVariants.{Check, SelfRun, Validate}
use Rattle.run_words.specs.Words.{AreWords}
use Rattle.run_call.specs.Run.{HasFailed, HoldsPart, HoldsReport, NamesFailure}
use Rattle.run_call.specs.declared.call.Status.{Status}
use Rattle.run_call.specs.declared.call.Status.TheVariants.{Device, Memory}
use Rattle.run_library.specs.Behind.{behind}

-- the folder of the job's module, where the job has the word, and none where it has not
abbrev pub IsFolderOfJob : Job → Option (List ℕ) → Type 0
IsFolderOfJob job None = job.wide ≡ false
IsFolderOfJob job (Some folder) = (job.wide ≡ true) × ((name : List ℕ) × IsPath job.module folder name)

abbrev pub IsFolderOf : Words → Option (List ℕ) → Type 0
IsFolderOf (Validate job) folder = IsFolderOfJob job folder
IsFolderOf (Check job witness) folder = IsFolderOfJob job folder
IsFolderOf (SelfRun n) folder = folder ≡ None

-- in this folder the library stands behind the files, or in none
pub data LibraryAt (words : List (List ℕ)) : Option (List ℕ) → Type 0 where
  of_command : (command : Words) (folder : Option (List ℕ)) → AreWords words command → IsFolderOf command folder → LibraryAt words folder
  in_no_form : ((command : Words) → ¬ AreWords words command) → LibraryAt words None

-- What the clauses of `run` say of a call over files that hold this: the counts of faults of the files and of the sink were so before and are so now, these calls on the
-- files had failed before and have failed now, and the sink held this before and holds that now.
pub record RunEnds (words : List (List ℕ)) (holds : Option (List File)) (before now out_before out_now : ℕ) (first last : Failures) (old new : Option (List ℕ)) (end : Status) : Type 0 where
  pub report : end ≢ Device → end ≢ Memory → HoldsReport words holds before now end old new
  pub part : HoldsPart words holds before now old new
  pub device : end ≡ Device → HasFailed words holds before now out_before out_now old new
  pub named : end ≡ Device → Rose out_before out_now ⊎ NamesFailure words holds first last old new
  pub quiet : end ≢ Device → end ≢ Memory → (last ≡ first) × (out_now ≡ out_before)

-- A call over files of one's own that hold `own`: it ends as `run` does over these with the library behind them; or memory was wanting before, and nothing was read or written.
pub data CallEnds (words : List (List ℕ)) (own : Option (List File)) (before now out_before out_now : ℕ) (first last : Failures) (old new : Option (List ℕ)) : Status → Type 0 where
  has_run : (folder : Option (List ℕ)) (end : Status) → LibraryAt words folder → RunEnds words (behind folder own) before now out_before out_now first last old new end
      → CallEnds words own before now out_before out_now first last old new end
  wants_memory : now ≡ before → out_now ≡ out_before → last ≡ first → new ≡ old → CallEnds words own before now out_before out_now first last old new Memory
