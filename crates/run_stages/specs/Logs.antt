-- The reading of logs on its way.
use Rattle.std.specs.Prelude.{◌≡◌, ◌+◌, ◌≤◌, ℕ, List, [], All, length, Option}
use Rattle.base_core.specs.Device.{File}
use Rattle.base_clock_order.specs.Orders.{lines_in}
use Rattle.logs_lines.specs.Laws.{Precedes}
use Rattle.logs_files.specs.Logs.{numbers_in}
use Rattle.logs_lines.specs.declared.file.FileLines.{FileLines}
use Rattle.std.specs.Prelude.{AllPairs}
use Rattle.run_reading_defs.specs.Texts.{LogsRead, logs_limit}
use Rattle.run_reading_defs.specs.Reaches.{Reaches, logged}
use Rattle.run_stages.specs.declared.logs.Course.{Course}
use Rattle.run_stages.specs.declared.logs.LogsSoFar.{LogsSoFar}

abbrev pub read_of : LogsSoFar → LogsRead
read_of so = record { bytes = so.bytes; steps = so.steps; form = so.form; found = so.found.items }

-- in each file the lines stand in order, and each clock may follow those before it; the files have so many steps together, and no more than all may have
pub record AreKept (files : List FileLines) (steps : ℕ) : Type 0 where
  pub each : All (λ f. AllPairs Precedes f.steps × (length f.steps ≤ 200000)) files
  pub total : steps ≡ lines_in (numbers_in files)
  pub few : steps ≤ 200000

-- the logs before are read, and these are still to be read
pub record IsOnTheWay (holds : Option (List File)) (course : Course) (so : LogsSoFar) (names : List (List ℕ)) : Type 0 where
  pub reaches : Reaches holds course.job.now (logged course.program.now course.config.now course.spec.now (read_of so) names)
  pub kept : AreKept so.found.items so.steps
  pub number : so.number ≡ 1 + length so.found.items
  pub bytes : so.bytes ≤ logs_limit
  pub count : length so.found.items + length names ≤ 64
