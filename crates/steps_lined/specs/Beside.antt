-- A specification beside the lines of all logs, from which its steps can be asked.
use Rattle.std.specs.Prelude.{ℕ, length}
use Rattle.names_terms.specs.declared.spec.Spec.{Spec}
use Rattle.base_cuts.specs.Cuts.{total}
use Rattle.base_cuts.specs.Orders.{sizes}
use Rattle.logs_tied.specs.Lines.{AreTied, HaveOwnPlaces}
use Rattle.logs_tied.specs.declared.logs.Lined.{Lined}
use Rattle.logs_tied.specs.declared.logs.Lined.TheVariants.{Sequence, Tied}
use Rattle.steps_ready_defs.specs.Beside.{IsReady}
use Rattle.steps_tied.specs.Beside.{IsReadyBeside}

-- how many lines there are
abbrev pub lines_of : Lined → ℕ
lines_of (Sequence log) = length log.lines
lines_of (Tied logs) = total (sizes logs.order)

-- the first states of the specification can be asked for, and the steps of each line; logs of which each order is allowed are made as these ask
abbrev pub IsReadyOver : Spec → Lined → Type 0
IsReadyOver g (Sequence log) = IsReady g log
IsReadyOver g (Tied logs) = IsReadyBeside g logs × AreTied logs

-- where marks are to name an order of the lines, no two lines have one place
abbrev pub AreTellable : Lined → Type 0
AreTellable (Sequence log) = Unit {0}
AreTellable (Tied logs) = HaveOwnPlaces logs.files.items
