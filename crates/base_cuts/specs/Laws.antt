-- Laws of cuts and orders.
use Rattle.std.specs.Prelude.{◌≡◌, ◌↔◌, ◌<◌, ℕ, ℤ, List, [], ◌∷◌, ◌++◌, slice_get, length, Some}
use Rattle.base_clock_order.specs.Orders.{FollowsByClock, IsMerged, IsOrder}
use Rattle.base_clock_order.specs.declared.order.LineRef.{LineRef}
use Rattle.base_clocks.specs.Stamps.{IsAbove}
use Rattle.base_clocks.specs.declared.stamp.Stamp.{Stamp}
use Rattle.base_cuts.specs.Cuts.{Cut, after, next, total}
use Rattle.base_cuts.specs.Orders.{AreReady, Begins, FollowsBy, IsAllowed, IsCut, IsGreater, IsMade, IsReadyAt, Order, by_clock, by_vectors, in_sequence, sizes, sizes_of, start}
use Rattle.base_cuts.specs.Heads.{IsLeast}

-- some order is allowed
abbrev pub SomeAllowed : Type 0
SomeAllowed = (o : Order) → IsMade o → Begins o []

-- an allowed order has as many lines as all logs together
abbrev pub AllowedAreWhole : Type 0
AllowedAreWhole = (o : Order) → IsMade o → (xs : List LineRef) → IsAllowed o xs → length xs ≡ total (sizes o)

-- what is ready at a cut is so whichever way the cut was come to
abbrev pub ReadyGoesOn : Type 0
ReadyGoesOn = (o : Order) → IsMade o → (xs : List LineRef) (l : LineRef) → Begins o xs → IsReadyAt o (after (start o) xs) l → Begins o (xs ++ l ∷ [])

-- Lines are taken one after the other, each ready at the cut of those before it, exactly where an allowed order begins
-- with them.
abbrev pub TakenBegins : Type 0
TakenBegins = (o : Order) → IsMade o → (xs : List LineRef) → AreReady o (start o) xs ↔ Begins o xs

-- what is ready is the next line of its log
abbrev pub ReadyIsNext : Type 0
ReadyIsNext = (o : Order) → IsMade o → (c : Cut) (l : LineRef) → IsReadyAt o c l → l ≡ next c l.file

-- where lines are left, one is ready
abbrev pub SomeIsReady : Type 0
SomeIsReady = (o : Order) → IsMade o → (c : Cut) → IsCut o c → total c < total (sizes o) → (l : LineRef) × IsReadyAt o c l

-- By clocks a line is ready exactly where it is the next of its log, and its clock is above that of no log's next line.
abbrev pub ReadyByClock : Type 0
ReadyByClock = (clocks : List (List ℤ)) → IsMade (by_clock clocks) → (c : Cut) → IsCut (by_clock clocks) c → (l : LineRef)
    → IsReadyAt (by_clock clocks) c l ↔ ((l ≡ next c l.file) × IsLeast (sizes_of clocks) (FollowsBy IsGreater clocks) c l.file)

-- the same by vectors
abbrev pub ReadyByVectors : Type 0
ReadyByVectors = (vectors : List (List (List Stamp))) → IsMade (by_vectors vectors) → (c : Cut) → IsCut (by_vectors vectors) c → (l : LineRef)
    → IsReadyAt (by_vectors vectors) c l ↔ ((l ≡ next c l.file) × IsLeast (sizes_of vectors) (FollowsBy IsAbove vectors) c l.file)

-- in a sequence the line is ready that stands at the number of lines taken
abbrev pub ReadyInSequence : Type 0
ReadyInSequence = (files : ℕ) (lines : List LineRef) → IsMade (in_sequence files lines) → (c : Cut) → IsCut (in_sequence files lines) c → (l : LineRef)
    → IsReadyAt (in_sequence files lines) c l ↔ (slice_get lines (total c) ≡ Some l)

-- in a sequence each number of lines has one cut
abbrev pub OneCut : Type 0
OneCut = (files : ℕ) (lines : List LineRef) → IsMade (in_sequence files lines) → (c d : Cut) → IsCut (in_sequence files lines) c → IsCut (in_sequence files lines) d
    → total c ≡ total d → c ≡ d

-- what clocks allow is what is told of orders by clock alone
abbrev pub AllowedByClock : Type 0
AllowedByClock = (clocks : List (List ℤ)) (xs : List LineRef) → IsAllowed (by_clock clocks) xs ↔ IsOrder clocks (FollowsByClock clocks) xs

-- the merged order of logs is a sequence of their lines
abbrev pub MergedIsMade : Type 0
MergedIsMade = (clocks : List (List ℤ)) (order : List LineRef) → IsMerged clocks order
    → IsMade (in_sequence (length clocks) order) × (sizes (in_sequence (length clocks) order) ≡ sizes_of clocks)
