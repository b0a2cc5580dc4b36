use Rattle.std.proofs.Common.{◌≡◌, ◌≤◌, ℕ, length}
use Rattle.json.specs.Json.{members, value}
use Rattle.serde_json.specs.Data.{Members, no_members}
use Rattle.serde_json.specs.Read.{converted, of_members}
use Rattle.logs_shapes.specs.Objects.{AgreeAtKeys, members_in}
use Rattle.logs_shapes.proofs.object.read_contents.Given as goal

-- what was read so far are some members, with what was kept at the keys of a line, and the rest is read behind them
abbrev pub invariant-members : goal.invariant-members
invariant-members l =
    (n : ℕ) × (length l.reader ≤ n) × (before : Members)
    × (converted (λ ms. of_members ms no_members) (members (value 126) (length l.initial.reader) l.initial.reader) ≡ converted (λ ms. of_members ms before) (members (value 126) n l.reader))
    × AgreeAtKeys before (members_in l.found)

abbrev pub decreases-members : goal.decreases-members
decreases-members l = length l.reader
