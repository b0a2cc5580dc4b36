-- The clock of a line, and where it may not stand.
use Rattle.std.specs.Prelude.{◌≡◌, ◌<ℤ◌, ◌≤ℤ◌, ℕ, ℤ, List, map, Bool, true, Option, None, Some, unwrap_or}
use Rattle.serde_json.specs.Data.{Data}
use Rattle.logs_shapes.specs.Clocks.{ClockShape, count_of, of_nodes, one}
use Rattle.logs_updates.specs.declared.clock.Clock.{Clock}
use Rattle.logs_updates.specs.declared.clock.Clock.TheVariants.{Number, Vector}
use Rattle.base_clocks.specs.Falls.{IsFirstFall}
use Rattle.base_clocks.specs.Stamps.{IsAtMost, number}
use Rattle.base_clocks.specs.declared.stamp.Stamp.{Stamp}
use Rattle.logs_lines.specs.declared.clocks.ClockForm.{ClockForm}
use Rattle.logs_lines.specs.declared.clocks.ClockForm.TheVariants as form
use Rattle.logs_lines.specs.declared.kind.LogKind.{LogKind}
use Rattle.logs_lines.specs.declared.kind.LogKind.TheVariants as kind

abbrev pub stamps_of : List (List ℕ × ℕ) → List Stamp
stamps_of = map (λ n. record { node = n.0; number = n.1 })

abbrev pub clock_read : ClockShape → Clock
clock_read (one n) = Number n
clock_read (of_nodes ns) = Vector (stamps_of ns)

-- a line without a clock goes on with the clock before
abbrev pub clock_or : Clock → Option ClockShape → Clock
clock_or before None = before
clock_or before (Some c) = clock_read c

abbrev pub form_of : ClockShape → ClockForm
form_of (one n) = form.Number
form_of (of_nodes ns) = form.Vector

-- the form of the clocks so far, behind a line with this clock
abbrev pub form_after : ClockForm → Option ClockShape → ClockForm
form_after before None = before
form_after before (Some c) = form_of c

abbrev pub IsMissing : Bool → Option ClockShape → Type 0
IsMissing many None = many ≡ true
IsMissing many (Some c) = ⊥

-- a number behind vectors, or a vector behind numbers
abbrev pub IsOther : ClockShape → ClockForm → Type 0
IsOther (one n) form.Vector = Unit {0}
IsOther (of_nodes ns) form.Number = Unit {0}
IsOther _ _ = ⊥

abbrev pub IsOtherForm : ClockForm → Option ClockShape → Type 0
IsOtherForm before None = ⊥
IsOtherForm before (Some c) = IsOther c before

-- The second clock is lower than the first, and is refused for this: a vector for the first node whose number falls.
abbrev pub FallsBack : Clock → Clock → LogKind → Type 0
FallsBack (Number a) (Number b) why = (b <ℤ a) × (why ≡ kind.ClockBack a b)
FallsBack (Vector u) (Vector v) why = (node : List ℕ) × IsFirstFall u v node × (why ≡ kind.VectorBack node (number u node) (number v node))
FallsBack _ _ why = ⊥

-- it is not lower; clocks of two forms are not compared
abbrev pub IsNoLower : Clock → Clock → Type 0
IsNoLower (Number a) (Number b) = a ≤ℤ b
IsNoLower (Vector u) (Vector v) = IsAtMost u v
IsNoLower _ _ = Unit {0}

-- For the prover: what is said of one node.
abbrev pub stamp_of : List ℕ → Data → Stamp
stamp_of node d = record { node = node; number = unwrap_or (count_of d) 0 }
