-- What is so of each reading that is accepted, since the types of what was read hold it.
use Rattle.std.specs.Prelude.{◌<◌, ◌≤◌, ◌^◌, All, IsUtf8}
use Rattle.names_terms.specs.declared.spec.Spec.{Spec}
use Rattle.logs_updates.specs.declared.line.Line.{Line}
use Rattle.logs_tied.specs.declared.logs.Lined.{Lined}
use Rattle.logs_tied.specs.declared.logs.Lined.TheVariants.{Sequence, Tied}
use Rattle.steps_lined.specs.Beside.{IsReadyOver, lines_of}

-- the line stands in a file and at a line of 32 bits
abbrev pub IsPlaced : Line → Type 0
IsPlaced l = (l.at.file < 2 ^ 32) × (l.at.line < 2 ^ 32)

-- so do the lines of all logs
abbrev pub ArePlaced : Lined → Type 0
ArePlaced (Sequence log) = All IsPlaced log.lines
ArePlaced (Tied logs) = All (λ file. All IsPlaced file) logs.files.items

-- The specification and the lines are held so: its steps can be asked for beside the lines, of which there are at most 200,000, the names of its variables are texts,
-- and each line has its place.
pub record IsHeldSo (s : Spec) (lined : Lined) : Type 0 where
  pub ready : IsReadyOver s lined
  pub few_lines : lines_of lined ≤ 200000
  pub texts : All IsUtf8 s.variables
  pub places : ArePlaced lined
