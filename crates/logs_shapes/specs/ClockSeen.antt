-- For the prover: a clock that is borrowed from a line's JSON, seen as its shape.
use Rattle.std.specs.Prelude.{ℕ, List, [], ◌∷◌, unwrap_or}
use Rattle.serde_json.specs.Data.{Members, no_members, member}
use Rattle.serde_json.specs.View.{members_view}
use Rattle.logs_shapes.specs.Clocks.{ClockShape, count_of, of_nodes, one}
use Rattle.logs_shapes.specs.declared.clock.RawClock.{RawClock}
use Rattle.logs_shapes.specs.declared.clock.RawClock.TheVariants.{Number, Nodes}

-- what stands at each key as a number, and 0 where it is none
abbrev pub counts_in : Members → List (List ℕ × ℕ)
counts_in no_members = []
counts_in (member node d ms) = (node, unwrap_or (count_of d) 0) ∷ counts_in ms

abbrev pub clock_seen : RawClock → ClockShape
clock_seen (Number n) = one n
clock_seen (Nodes ms) = of_nodes (counts_in (members_view ms.now.entries))
