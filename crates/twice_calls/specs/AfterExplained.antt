-- Two calls of `run`: `validate`, whose report is kept as a file, and then `check` of that file. It is said of files that tell what they hold, by the clauses of `run`
-- alone.
use Rattle.std.specs.Prelude.{◌≡◌, ◌≢◌, ◌⊎◌, ◌≤◌, ℕ, List, [], ◌∷◌, length, Option, None, Some}
use Rattle.base_core.specs.Device.{Appended, File, Rose, found}
use Rattle.states_core.specs.declared.state.Shown.{Shown}
use Rattle.states_layers.specs.declared.answer.Answer.TheVariants.{Explained}
use Rattle.states_verdicts.specs.declared.verdict.Verdict.TheVariants.{Valid}
use Rattle.run_words.specs.declared.job.Job.{Job}
use Rattle.run_words.specs.declared.job.Words.TheVariants.{Check, Validate}
use Rattle.run_words.specs.Words.{AreWords}
use Rattle.run_texts.specs.Answers.{Named, answer_text}
use Rattle.run_texts.specs.Verdicts.{verdict_text}
use Rattle.run_reading_defs.specs.Given.{states_limit}
use Rattle.run_call.specs.Run.{IsWanted}
use Rattle.run_call.specs.declared.call.Status.{Status}
use Rattle.run_call.specs.declared.call.Status.TheVariants.{Done, Device, Memory}
use Rattle.twice_calls.specs.Printed.{searching}
use Rattle.twice_calls.specs.Ends.{Ends}

-- The files hold this text under the name, in place of what they held under it before, if anything; of every other name they tell the same.
pub record AreWith (files others : List File) (name text : List ℕ) : Type 0 where
  pub text_is : found name others ≡ Some text
  pub rest : (other : List ℕ) → other ≢ name → found other others ≡ found other files

-- the files before and one more are such
abbrev pub OneMoreIsKept : Type 0
OneMoreIsKept = (files : List File) (name text : List ℕ) → AreWith files ((name, text) ∷ files) name text

-- no file has the name, or the words ask for none of it
abbrev pub IsFree : List (List ℕ) → List File → List ℕ → Type 0
IsFree words files name = (found name files ≡ None) ⊎ (IsWanted words (Some files) name → ⊥)

-- the report tells EXPLAINED, by these states
pub record TellsExplained (report : List ℕ) (w : List Shown) : Type 0 where
  pub named : Named
  pub widest : ℕ
  pub text_is : report ≡ answer_text named (Explained w widest)

-- `check` ends with VALID of so many states; or for want of memory; or by a read or a write that failed
pub data EndsValid (states before now out_before out_now : ℕ) (old new : Option (List ℕ)) : Status → Type 0 where
  is_valid : Appended old (verdict_text [] states Valid) new → EndsValid states before now out_before out_now old new Done
  wants_memory : EndsValid states before now out_before out_now old new Memory
  has_failed : Rose out_before out_now ⊎ Rose before now → EndsValid states before now out_before out_now old new Device

-- So does each call of `check` on a report of so many states that is kept under a free name, and is no longer than a file of states may be: the job is the same, with
-- what it likes in place of what `validate` alone takes.
abbrev pub ChecksValid : List (List ℕ) → List File → Job → List ℕ → ℕ → Type 0
ChecksValid words files job report states =
    (others : List File) (witness : List ℕ) → AreWith files others witness report → IsFree words files witness → length report ≤ states_limit
    → (again : List (List ℕ)) (limit : ℕ) (why near : Option ℕ) → AreWords again (Check (searching limit why near job) witness)
    → (before now out_before out_now : ℕ) (old new : Option (List ℕ)) (end : Status) → Ends again (Some others) before now out_before out_now old new end
    → EndsValid states before now out_before out_now old new end

-- Where `validate` ends with status 0, its report tells EXPLAINED, and each `check` of it then answers VALID.
abbrev pub ChecksAfter : Type 0
ChecksAfter =
    (words : List (List ℕ)) (files : List File) (job : Job) (before now out_before out_now : ℕ) (report : List ℕ) → AreWords words (Validate job)
    → Ends words (Some files) before now out_before out_now (Some []) (Some report) Done
    → (w : List Shown) × TellsExplained report w × ChecksValid words files job report (length w)
