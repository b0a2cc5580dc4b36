-- States of which some values may be unknown: a list of places, each empty or with a value.
use Rattle.std.specs.Prelude.{◌≡◌, ℕ, List, Option, Some, None, Contains}
use Rattle.values_core.specs.Data.{Val}

-- some place is empty
abbrev pub HasEmpty : List (Option Val) → Type 0
HasEmpty places = Contains places None
