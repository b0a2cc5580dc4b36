-- What callers know of files of the host, and of files and of a sink in memory, and what a call of each in memory answers.
use Rattle.std.specs.Prelude.{◌≡◌, ◌⊎◌, ℕ, ◌+◌, ◌-◌, ◌≤◌, ◌<◌, Bool, true, false, List, ◌++◌, length, take, drop, map, slice_get, option_map, Contains, Option, Some, None, Vec, Result, Ok, Err}
use Rattle.std.specs.Global.{Global}
use Rattle.base_core.specs.Device.{File, found, count_after, TakesOf}
use Rattle.base_core.specs.Failures.{Failures, one_more}
use Rattle.base_core.specs.declared.device.OpenFault.{OpenFault}
use Rattle.base_core.specs.declared.device.OpenFault.TheVariants.{Missing, Failed, NoMemory}
use Rattle.base_core.specs.declared.device.Failed.{Failed as Fault}

-- the call that comes next, by its number, is one of those that fail
abbrev pub FailsNext : List ℕ → ℕ → Type 0
FailsNext failing calls = Contains failing (count_after calls)

-- Which file was asked for last, if one was, and which calls failed.
pub record Course : Type 0 where
  pub asked : Option (List ℕ)
  pub failures : Failures

-- Files of the host: how many faults there were, and which file was asked for and which calls failed.
pub record OnHost : Type 0 where
  pub faults : ℕ
  pub course : Course

-- Files in memory: the files, what is left of the open one, the numbers of the calls that fail, how
-- many calls there were, and which file was asked for and which calls failed.
pub record InMemory : Type 0 where
  pub files : List File
  pub left : Option (List ℕ)
  pub failing : List ℕ
  pub calls : ℕ
  pub course : Course

-- the names and the bytes
abbrev pub files_of : List (List ℕ × Vec ℕ Global) → List File
files_of fs = map (λ f. (f.0, f.1.items)) fs

-- the bytes of the open file, which has that index, from that byte on
abbrev pub left_of : List File → Option ℕ → ℕ → Option (List ℕ)
left_of fs None from = None
left_of fs (Some i) from = option_map (λ f. drop from f.1) (slice_get fs i)

-- the first file of that name has that index, or there is none
abbrev pub FindsAt : List ℕ → List File → Option ℕ → Type 0
FindsAt name fs None = found name fs ≡ None
FindsAt name fs (Some i) = (f : File) × (slice_get fs i ≡ Some f) × (found name fs ≡ Some f.1)

-- the file is there and all its bytes are left, or it is not and no file is open
abbrev pub Finds : List ℕ → List File → Bool → Option (List ℕ) → Type 0
Finds name fs true left = (bytes : List ℕ) × (found name fs ≡ Some bytes) × (left ≡ Some bytes)
Finds name fs false left = (found name fs ≡ None) × (left ≡ None)

-- the call was counted, and the files and the numbers are as before
pub record IsCalled (before after : InMemory) : Type 0 where
  pub files : after.files ≡ before.files
  pub failing : after.failing ≡ before.failing
  pub calls : after.calls ≡ count_after before.calls

-- Failed exactly where the call is one that fails, and this alone is a failure; else Missing exactly
-- where there is no such file. Without a refusal the file is open with all its bytes left.
abbrev pub OpenAnswers : List ℕ → InMemory → Result (Unit {0}) OpenFault → InMemory → Type 0
OpenAnswers name before (Ok _) after = (FailsNext before.failing before.calls → ⊥)
    × (bytes : List ℕ) × (found name before.files ≡ Some bytes) × (after.left ≡ Some bytes) × (after.course.failures ≡ before.course.failures)
OpenAnswers name before (Err Missing) after = (FailsNext before.failing before.calls → ⊥)
    × (found name before.files ≡ None) × (after.left ≡ None) × (after.course.failures ≡ before.course.failures)
OpenAnswers name before (Err Failed) after =
    FailsNext before.failing before.calls × (after.left ≡ None) × (after.course.failures ≡ one_more (Some name) before.course.failures)
OpenAnswers name before (Err NoMemory) after = ⊥

-- A failure exactly where the call is one that fails, and then nothing is taken.
abbrev pub NextAnswers : InMemory → Result ℕ Fault → List ℕ → InMemory → Type 0
NextAnswers before (Ok count) room after = (FailsNext before.failing before.calls → ⊥)
    × (count ≤ length room) × TakesOf before.left count room after.left × (after.course.failures ≡ before.course.failures)
NextAnswers before (Err _) room after =
    FailsNext before.failing before.calls × (after.left ≡ before.left) × (after.course.failures ≡ one_more before.course.asked before.course.failures)

-- Files in memory that never fail: the files, what is left of the open one, and which file was asked
-- for last, if one was.
pub record Sure : Type 0 where
  pub files : List File
  pub left : Option (List ℕ)
  pub asked : Option (List ℕ)

-- Missing exactly where there is no such file, and no other refusal. Without one the file is open with
-- all its bytes left.
abbrev pub OpensSurely : List ℕ → List File → Result (Unit {0}) OpenFault → Option (List ℕ) → Type 0
OpensSurely name files (Ok _) left = (bytes : List ℕ) × (found name files ≡ Some bytes) × (left ≡ Some bytes)
OpensSurely name files (Err Missing) left = (found name files ≡ None) × (left ≡ None)
OpensSurely name files (Err Failed) left = ⊥
OpensSurely name files (Err NoMemory) left = ⊥

-- the next bytes of the open file, without a fault
abbrev pub TakesSurely : Option (List ℕ) → Result ℕ Fault → List ℕ → Option (List ℕ) → Type 0
TakesSurely before (Ok count) room after = (count ≤ length room) × TakesOf before count room after
TakesSurely before (Err _) room after = ⊥

-- A sink in memory: its bytes, how many it has room for, the numbers of the calls that fail, how many
-- calls there were, and how many of them were faults.
pub record SinkInMemory : Type 0 where
  pub bytes : List ℕ
  pub room : ℕ
  pub failing : List ℕ
  pub calls : ℕ
  pub faults : ℕ

-- the call was counted, and the room and the numbers are as before
pub record IsPut (before after : SinkInMemory) : Type 0 where
  pub room : after.room ≡ before.room
  pub failing : after.failing ≡ before.failing
  pub calls : after.calls ≡ count_after before.calls

-- the call is one that fails, and nothing is appended
pub record IsRefused (before after : SinkInMemory) : Type 0 where
  pub fails : FailsNext before.failing before.calls
  pub bytes : after.bytes ≡ before.bytes

-- there is too little room for the piece, and what fits of it is appended
pub record IsCut (before : SinkInMemory) (piece : List ℕ) (after : SinkInMemory) : Type 0 where
  pub fails : FailsNext before.failing before.calls → ⊥
  pub full : before.room < length before.bytes + length piece
  pub bytes : after.bytes ≡ before.bytes ++ take (before.room - length before.bytes) piece

-- A fault exactly where the call is one that fails or the piece does not fit; else the whole piece
-- is appended.
abbrev pub PutAnswers : SinkInMemory → List ℕ → Result (Unit {0}) Fault → SinkInMemory → Type 0
PutAnswers before piece (Ok _) after = (FailsNext before.failing before.calls → ⊥)
    × (length before.bytes + length piece ≤ before.room) × (after.bytes ≡ before.bytes ++ piece) × (after.faults ≡ before.faults)
PutAnswers before piece (Err _) after = (IsRefused before after ⊎ IsCut before piece after) × (after.faults ≡ count_after before.faults)
