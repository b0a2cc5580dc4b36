-- Which order of the lines given states are judged by: the one that their marks name, as far as it is allowed.
use Rattle.std.specs.Prelude.{◌≡◌, ◌⊎◌, ◌≤◌, ℕ, List, [], ◌∷◌, take, Option, Some, slice_get}
use Rattle.base_core.specs.declared.place.LineAt.{LineAt}
use Rattle.states_core.specs.declared.state.Mark.{Mark}
use Rattle.states_core.specs.declared.state.Mark.TheVariants.{Init, Silent, Line as LineMark}
use Rattle.states_core.specs.declared.state.Shown.{Shown}
use Rattle.base_clock_order.specs.declared.order.LineRef.{LineRef}
use Rattle.logs_updates.specs.declared.line.Line.{Line}
use Rattle.logs_updates.specs.declared.line.Log.{Log}
use Rattle.base_cuts.specs.Cuts.{Cut, after}
use Rattle.base_cuts.specs.Orders.{IsReadyAt, Order, start}
use Rattle.logs_tied.specs.Lines.{IsLined, StandsIn}
use Rattle.logs_tied.specs.declared.logs.Logs.{Logs}

-- the mark's line, if it has one, before these
abbrev pub name_of : Mark → List LineAt → List LineAt
name_of Init ns = ns
name_of Silent ns = ns
name_of (LineMark at) ns = at ∷ ns

-- the places of the lines that the marks name, in their order
abbrev pub names : List Shown → List LineAt
names [] = []
names (x ∷ w) = name_of x.mark (names w)

-- the line of the logs has the place that is named, if one is
abbrev pub IsNamed : List (List Line) → Option LineAt → LineRef → Type 0
IsNamed files at l = (line : Line) × StandsIn files l line × (at ≡ Some line.at)

-- The line is ready, and it is the one that is named; or none that is ready is named, and it is that of the first log.
abbrev pub IsChosen : List (List Line) → Order → Cut → Option LineAt → LineRef → Type 0
IsChosen files o c at l = IsReadyAt o c l
    × (IsNamed files at l ⊎ (((m : LineRef) → IsReadyAt o c m → IsNamed files at m → ⊥) × ((m : LineRef) → IsReadyAt o c m → l.file ≤ m.file)))

-- The order is that of the lines that the marks name, as far as these are ready: each of its lines is so chosen by the
-- mark of its number, at the cut of those before it.
abbrev pub KeepsTo : List (List Line) → Order → List Shown → List LineRef → Type 0
KeepsTo files o w order = (n : ℕ) (l : LineRef) → slice_get order n ≡ Some l → IsChosen files o (after (start o) (take n order)) (slice_get (names w) n) l

-- the log of all lines in the order that the marks name
pub record IsNamedLog (logs : Logs) (w : List Shown) (log : Log) : Type 0 where
  pub init : log.init ≡ logs.init
  pub order : List LineRef
  pub lined : IsLined logs.files.items logs.order order log.lines
  pub keeps : KeepsTo logs.files.items logs.order w order
