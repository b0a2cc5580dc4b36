-- What vectors say of the order of lines: what happened before what.
use Rattle.std.specs.Prelude.{◌≡◌, ◌⊎◌, ◌↔◌, ◌<◌, ℕ, List, Some, slice_get}
use Rattle.base_clock_order.specs.Orders.{FollowsInLog}
use Rattle.base_clock_order.specs.declared.order.LineRef.{LineRef}
use Rattle.base_clocks.specs.Stamps.{IsAbove}
use Rattle.base_clocks.specs.declared.stamp.Stamp.{Stamp}
use Rattle.base_cuts.specs.Cuts.{Cut, IsLineOf}
use Rattle.base_cuts.specs.Orders.{FollowsBy, HasEachLine, IsAllowed, IsMade, by_vectors, sizes_of}

-- a stands before b in their log, or the vector of b is above that of a
abbrev pub HappensBefore : List (List (List Stamp)) → LineRef → LineRef → Type 0
HappensBefore vectors a b = FollowsInLog b a ⊎ FollowsBy IsAbove vectors b a

-- the first stands before the second in the list
abbrev pub StandsBefore : List LineRef → LineRef → LineRef → Type 0
StandsBefore xs a b = (i j : ℕ) × (i < j) × (slice_get xs i ≡ Some a) × (slice_get xs j ≡ Some b)

-- each line once, and what happened before stands before
pub record IsExtension (sizes : Cut) (Before : LineRef → LineRef → Type 0) (xs : List LineRef) : Type 0 where
  pub lines : HasEachLine sizes xs
  pub keeps : (a b : LineRef) → IsLineOf sizes a → IsLineOf sizes b → Before a b → StandsBefore xs a b

-- The orders that vectors allow are those that keep what happened before what.
abbrev pub AreExtensions : Type 0
AreExtensions = (vectors : List (List (List Stamp))) → IsMade (by_vectors vectors) → (xs : List LineRef)
    → IsAllowed (by_vectors vectors) xs ↔ IsExtension (sizes_of vectors) (HappensBefore vectors) xs
