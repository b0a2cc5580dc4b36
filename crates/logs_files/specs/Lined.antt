-- The lines of all files of logs, in one order or in each that their clocks leave open.
use Rattle.std.specs.Prelude.{◌≡◌, ◌<◌, ◌≤◌, ◌||◌, if◌then◌else◌, Bool, true, List, length, map}
use Rattle.base_cuts.specs.Orders.{Order, by_clock, by_vectors}
use Rattle.logs_lines.specs.declared.file.FileLines.{FileLines}
use Rattle.logs_tied.specs.Lines.{AreTied}
use Rattle.logs_tied.specs.declared.logs.Lined.{Lined}
use Rattle.logs_tied.specs.declared.logs.Lined.TheVariants.{Sequence, Tied}
use Rattle.logs_tied.specs.declared.logs.Logs.{Logs}
use Rattle.logs_files.specs.Logs.{IsLogOf, are_vectors, numbers_in, first_sees, vectors_in}

-- what their clocks leave open: vectors always, and numbers where equal ones are to
abbrev pub are_open : Bool → List FileLines → Bool
are_open ties files = ties || are_vectors files

-- the orders that vectors leave open where there are some, and else those of numbers
abbrev pub order_of : List FileLines → Order
order_of files = if are_vectors files then by_vectors (vectors_in files) else by_clock (numbers_in files)

-- the logs of these files, whose steps may stand in each order that their clocks leave open
pub record AreLogsOf (files : List FileLines) (logs : Logs) : Type 0 where
  pub init : logs.init ≡ first_sees files
  pub lines : logs.files.items ≡ map (λ f. f.steps) files
  pub order : logs.order ≡ order_of files

-- What the files are together: several of them, where their clocks leave lines open, are logs of which each order is allowed; else they are one log.
abbrev pub IsLinedOf : Bool → List FileLines → Lined → Type 0
IsLinedOf ties files (Sequence log) = (are_open ties files ≡ true → length files ≤ 1) × IsLogOf files log
IsLinedOf ties files (Tied logs) = (are_open ties files ≡ true) × (1 < length files) × AreLogsOf files logs

-- logs of which each order is allowed are made as these ask
abbrev pub AreMadeSo : Lined → Type 0
AreMadeSo (Sequence log) = Unit {0}
AreMadeSo (Tied logs) = AreTied logs
