-- What may stand at the key of a clock.
use Rattle.std.specs.Prelude.{ℕ, ℤ, pos, negsuc, nat_le, unsigned_abs, List, [], ◌∷◌, length, Option, None, Some, option_and_then, option_map, if◌then◌else◌}
use Rattle.serde_json.specs.Data.{Data, Members, no_members, member}
use Rattle.serde_json.specs.Find.{as_i64, as_number, as_object}

-- a whole number, or such a number of each of several nodes
pub data ClockShape : Type 0 where
  one : ℤ → ClockShape
  of_nodes : List (List ℕ × ℕ) → ClockShape

-- a whole number that is not below 0
abbrev pub natural : ℤ → Option ℤ
natural (pos n) = Some (pos n)
natural (negsuc n) = None

-- a whole number from 0 to 2^63 - 1, written as one: as_i64 gives no other
abbrev pub number_of : Data → Option ℤ
number_of d = option_and_then natural (option_and_then as_i64 (as_number d))

-- the same as a count
abbrev pub count_of : Data → Option ℕ
count_of d = option_map unsigned_abs (number_of d)

-- the number of each node, in the order of the members, where each is such a number
abbrev pub numbers_of : Members → Option (List (List ℕ × ℕ))
numbers_of no_members = Some []
numbers_of (member node d ms) = option_and_then (λ n. option_map (λ ns. (node, n) ∷ ns) (numbers_of ms)) (count_of d)

abbrev pub max_nodes : ℕ
max_nodes = 64

abbrev pub few_nodes : List (List ℕ × ℕ) → Option (List (List ℕ × ℕ))
few_nodes ns = if nat_le (length ns) max_nodes then Some ns else None

-- an object is a clock of at most 64 nodes, all else is a number
abbrev pub clock_in : Option Members → Data → Option ClockShape
clock_in (Some ms) d = option_map of_nodes (option_and_then few_nodes (numbers_of ms))
clock_in None d = option_map one (number_of d)

abbrev pub clock_of : Data → Option ClockShape
clock_of d = clock_in (as_object d) d
