-- What a call does with the sink: a whole report, a first part of one, or the line of a file whose read failed.
use Rattle.std.specs.Prelude.{◌≡◌, ◌⊎◌, ℕ, List, [], Option, Some, string_bytes}
use Rattle.base_core.specs.Device.{File, Rose, Appended, AppendedPart}
use Rattle.base_core.specs.Failures.{Failures, one_more}
use Rattle.run_words.specs.declared.job.Job.{Job}
use Rattle.run_words.specs.declared.job.Words.{Words}
use Rattle.run_words.specs.declared.job.Words.TheVariants.{Validate, Check, SelfRun}
use Rattle.run_words.specs.Words.{AreWords}
use Rattle.run_reading_defs.specs.Reaches.{Wants}
use Rattle.run_reading_defs.specs.Given.{GivenWants}
use Rattle.run_stages.specs.declared.stop.Stop.{Stop}
use Rattle.run_stages.specs.declared.stop.Stop.TheVariants as stop
use Rattle.run_texts.specs.Files.{device_text, words_text}
use Rattle.run_call.specs.declared.call.Status.{Status}
use Rattle.run_call.specs.declared.call.Status.TheVariants as status
use Rattle.run_call.specs.Calls.{Calls, CallsGiven}
use Rattle.run_call.specs.Smoke.{SmokeTests}

-- What the words and the files call for. Words that are in no form of a command are refused.
pub data Runs (words : List (List ℕ)) (holds : Option (List File)) (before now : ℕ) : Status → List ℕ → Type 0 where
  in_no_form : ((w : Words) → AreWords words w → ⊥) → Runs words holds before now status.Words words_text
  validates : (job : Job) (s : Status) (report : List ℕ) → AreWords words (Validate job) → Calls holds before now job s report
      → Runs words holds before now s report
  checks : (job : Job) (witness : List ℕ) (s : Status) (report : List ℕ) → AreWords words (Check job witness) → CallsGiven holds before now job witness s report
      → Runs words holds before now s report
  tests_itself : (n : ℕ) (s : Status) (report : List ℕ) → AreWords words (SelfRun n) → SmokeTests n s report → Runs words holds before now s report

-- the command asks for a file that is read next, nothing before it being refused
abbrev pub AsksFor : Option (List File) → List ℕ → Words → Type 0
AsksFor holds name (Validate job) = (limit : ℕ) × Wants holds job name limit
AsksFor holds name (Check job witness) = (limit : ℕ) × GivenWants holds job witness name limit
AsksFor holds name (SelfRun n) = ⊥

-- so do the words
pub record IsWanted (words : List (List ℕ)) (holds : Option (List File)) (name : List ℕ) : Type 0 where
  pub command : Words
  pub form : AreWords words command
  pub wants : AsksFor holds name command

-- The call stops: a first refusal is its report; or a read of a file failed that is read next; or memory is wanting.
abbrev pub IsStop : List (List ℕ) → Option (List File) → ℕ → ℕ → Stop → Type 0
IsStop words holds before now (stop.Refused report) = Runs words holds before now status.Reading (string_bytes report)
IsStop words holds before now (stop.Device name) = Rose before now × IsWanted words holds name
IsStop words holds before now stop.NoMemory = Unit {0}

-- the sink holds the whole report more
abbrev pub HoldsReport : List (List ℕ) → Option (List File) → ℕ → ℕ → Status → Option (List ℕ) → Option (List ℕ) → Type 0
HoldsReport words holds before now s old new = (report : List ℕ) × Runs words holds before now s report × Appended old report new

-- the sink holds the whole line of a file more whose read failed
abbrev pub HoldsDevice : List (List ℕ) → Option (List File) → Option (List ℕ) → Option (List ℕ) → Type 0
HoldsDevice words holds old new = (name : List ℕ) × IsWanted words holds name × Appended old (device_text name) new

-- the sink holds nothing more, or the first bytes of a report that these words and files call for, or those of such a line
pub data HoldsPart (words : List (List ℕ)) (holds : Option (List File)) (before now : ℕ) (old new : Option (List ℕ)) : Type 0 where
  nothing : Appended old [] new → HoldsPart words holds before now old new
  of_report : (s : Status) (report : List ℕ) → Runs words holds before now s report → AppendedPart old report new → HoldsPart words holds before now old new
  of_device : (name : List ℕ) → IsWanted words holds name → AppendedPart old (device_text name) new → HoldsPart words holds before now old new

-- A read failed: just one call on files did, and the line of the file that was asked for then stands in the sink.
pub record NamesFailure (words : List (List ℕ)) (holds : Option (List File)) (before now : Failures) (old new : Option (List ℕ)) : Type 0 where
  pub name : List ℕ
  pub wanted : IsWanted words holds name
  pub failed : now ≡ one_more (Some name) before
  pub line : Appended old (device_text name) new

-- A call ends so only where the sink's count of faults rose, or that of the files did; and then the line of the file stands in the sink.
abbrev pub HasFailed : List (List ℕ) → Option (List File) → ℕ → ℕ → ℕ → ℕ → Option (List ℕ) → Option (List ℕ) → Type 0
HasFailed words holds before now out_before out_now old new = Rose out_before out_now ⊎ (Rose before now × HoldsDevice words holds old new)
