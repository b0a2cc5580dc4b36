-- In which orders the lines of several logs may stand, and which line may be taken next at a cut.
use Rattle.std.specs.Prelude.{◌≡◌, ◌≢◌, ◌<◌, ◌++◌, ◌^◌, ℕ, zero, suc, ℤ, ◌<ℤ◌, ◌≤ℤ◌, List, [], ◌∷◌, length, map, Some, slice_get, AllPairs, Contains}
use Rattle.base_clock_order.specs.Orders.{FollowsInLog, NoneBefore, line}
use Rattle.base_clock_order.specs.declared.order.LineRef.{LineRef}
use Rattle.base_clocks.specs.Stamps.{IsAbove, IsAtMost}
use Rattle.base_clocks.specs.declared.stamp.Stamp.{Stamp}
use Rattle.base_cuts.specs.Cuts.{Cut, IsLineOf, after, nothing, taken}

-- each line of logs of these sizes once, and nothing else
pub record HasEachLine (sizes : Cut) (order : List LineRef) : Type 0 where
  pub lines : (l : LineRef) → Contains order l → IsLineOf sizes l
  pub all : (l : LineRef) → IsLineOf sizes l → Contains order l
  pub once : AllPairs (λ a b. a ≢ b) order

-- An order under a rule of which line must follow which: each line once, the lines of each log in their order, and
-- none before one that it must follow.
pub record IsOrderUnder (sizes : Cut) (MustFollow : LineRef → LineRef → Type 0) (order : List LineRef) : Type 0 where
  pub lines : HasEachLine sizes order
  pub in_log : NoneBefore FollowsInLog order
  pub rule : NoneBefore MustFollow order

-- the logs have this line, with this clock, of whichever kind
abbrev pub Carries : {K : Type 0} → List (List K) → LineRef → K → Type 0
Carries {K} clocks l c = (log : List K) × (slice_get clocks l.file ≡ Some log) × (slice_get log l.index ≡ Some c)

-- the clock of a is above that of b
abbrev pub FollowsBy : {K : Type 0} → (K → K → Type 0) → List (List K) → LineRef → LineRef → Type 0
FollowsBy {K} Above clocks a b = (c d : K) × Carries clocks a c × Carries clocks b d × Above c d

-- in no log does a clock fall
abbrev pub NoneFallsBy : {K : Type 0} → (K → K → Type 0) → List (List K) → Type 0
NoneFallsBy {K} AtMost clocks = (l : LineRef) (i : ℕ) (c d : K) → l.index < i → Carries clocks l c → Carries clocks (line l.file i) d → AtMost c d

-- the number is above the other
abbrev pub IsGreater : ℤ → ℤ → Type 0
IsGreater c d = d <ℤ c

-- What says in which orders the lines may stand: one sequence of the lines of so many logs, or the clock of each line, a number or a vector.
pub data Order : Type 0 where
  in_sequence : ℕ → List LineRef → Order
  by_clock : List (List ℤ) → Order
  by_vectors : List (List (List Stamp)) → Order

-- how many lines each log has, by their clocks
abbrev pub sizes_of : {K : Type 0} → List (List K) → Cut
sizes_of clocks = map length clocks

-- nothing is taken of so many logs
abbrev pub none_of : ℕ → Cut
none_of zero = []
none_of (suc files) = 0 ∷ none_of files

-- how many lines each log has
abbrev pub sizes : Order → Cut
sizes (in_sequence files lines) = after (none_of files) lines
sizes (by_clock clocks) = sizes_of clocks
sizes (by_vectors vectors) = sizes_of vectors

-- The lines may stand in this order: in that of the sequence and no other, or in each order of the logs in which no
-- line stands before one whose clock its own is above.
abbrev pub IsAllowed : Order → List LineRef → Type 0
IsAllowed (in_sequence files lines) order = order ≡ lines
IsAllowed (by_clock clocks) order = IsOrderUnder (sizes_of clocks) (FollowsBy IsGreater clocks) order
IsAllowed (by_vectors vectors) order = IsOrderUnder (sizes_of vectors) (FollowsBy IsAbove vectors) order

-- what such an order is made of: a sequence that has each line once, those of one log in their order; clocks that fall in no log
abbrev pub IsMade : Order → Type 0
IsMade (in_sequence files lines) = IsOrderUnder (sizes (in_sequence files lines)) (λ a b. ⊥) lines
IsMade (by_clock clocks) = NoneFallsBy (λ c d. c ≤ℤ d) clocks
IsMade (by_vectors vectors) = NoneFallsBy IsAtMost vectors

-- no log has more lines than 32 bits count
abbrev pub AreCountable : Order → Type 0
AreCountable o = (f : ℕ) → taken (sizes o) f < 2 ^ 32

-- the cut at which nothing is taken
abbrev pub start : Order → Cut
start o = nothing (sizes o)

-- some allowed order begins with these lines
abbrev pub Begins : Order → List LineRef → Type 0
Begins o xs = (ys : List LineRef) × IsAllowed o (xs ++ ys)

-- the cut is that of the first lines of an allowed order
abbrev pub IsCut : Order → Cut → Type 0
IsCut o c = (xs : List LineRef) × (after (start o) xs ≡ c) × Begins o xs

-- The line is ready at the cut: some allowed order begins with the lines that the cut takes, one after the other in some
-- way, and goes on with this line.
abbrev pub IsReadyAt : Order → Cut → LineRef → Type 0
IsReadyAt o c l = (xs : List LineRef) × (after (start o) xs ≡ c) × Begins o (xs ++ l ∷ [])

-- each of the lines is ready at the cut of those before it
abbrev pub AreReady : Order → Cut → List LineRef → Type 0
AreReady o c [] = Unit {0}
AreReady o c (l ∷ ls) = IsReadyAt o c l × AreReady o (after c (l ∷ [])) ls
