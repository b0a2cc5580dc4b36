-- What is so of each line and each file.
use Rattle.std.specs.Prelude.{◌≡◌, ◌<◌, ◌≤◌, ℕ, List, length, AllPairs, Bool, Result, Ok}
use Rattle.logs_updates.specs.Clocks.{MayFollow}
use Rattle.logs_updates.specs.declared.line.Line.{Line}
use Rattle.logs_lines.specs.Setting.{Setting}
use Rattle.logs_lines.specs.Lines.{LineSays}
use Rattle.logs_lines.specs.Files.{FileSays, first_line}
use Rattle.logs_lines.specs.declared.clocks.ClockForm.{ClockForm}
use Rattle.logs_lines.specs.declared.position.Position.{Position}
use Rattle.logs_lines.specs.declared.kind.Outcome.{Outcome}
use Rattle.logs_lines.specs.declared.file.FileLines.{FileLines}
use Rattle.logs_lines.specs.declared.file.Refusal.{Refusal}

-- no line has two outcomes
abbrev pub LineSaysOne : Setting → Type 0
LineSaysOne g = (at : Position) (line : List ℕ) (o p : Outcome) → LineSays g at line o → LineSays g at line p → o ≡ p

-- no file has two
abbrev pub FileSaysOne : Setting → Type 0
FileSaysOne g = (at : Position) (bytes : List ℕ) (r s : Result FileLines Refusal) → FileSays g at bytes r → FileSays g at bytes s → r ≡ s

-- a can stand before b in a file
abbrev pub Precedes : Line → Line → Type 0
Precedes a b = (a.at.line < b.at.line) × MayFollow a.clock b.clock

-- the steps of a file stand in the order of their lines, each clock may follow those before it, and there are no more than may be
abbrev pub StepsKeep : Setting → Type 0
StepsKeep g =
    (file : ℕ) (many : Bool) (room : ℕ) (form : ClockForm) (bytes : List ℕ) (f : FileLines) → FileSays g (first_line file many room form) bytes (Ok f) → AllPairs Precedes f.steps × (length f.steps ≤ room)
