-- In which orders the lines of several logs may stand.
use Rattle.std.specs.Prelude.{◌≡◌, ◌≢◌, ◌+◌, ◌⊎◌, ◌<◌, ◌≤◌, ℕ, ℤ, ◌<ℤ◌, ◌≤ℤ◌, List, [], ◌∷◌, length, map, slice_get, Some, AllPairs, Contains, Vec}
use Rattle.std.specs.List.{AllByRecursion}
use Rattle.std.specs.declared.alloc.Global.{Global}
use Rattle.base_clock_order.specs.declared.order.LineRef.{LineRef}

-- the clocks of each log, line by line
abbrev pub Clocks : Type 0
Clocks = List (List ℤ)

abbrev pub clocks_of : List (Vec ℤ Global) → Clocks
clocks_of = map (λ log. log.items)

-- a line by its log and its place there, both from 0
abbrev pub line : ℕ → ℕ → LineRef
line f i = record { file = f; index = i }

-- the logs have this line, with this clock
abbrev pub HasClock : Clocks → LineRef → ℤ → Type 0
HasClock clocks l c = (log : List ℤ) × (slice_get clocks l.file ≡ Some log) × (slice_get log l.index ≡ Some c)

-- in no log does a clock fall
abbrev pub NoneFalls : Clocks → Type 0
NoneFalls clocks = (l : LineRef) (i : ℕ) (c d : ℤ) → l.index < i → HasClock clocks l c → HasClock clocks (line l.file i) d → c ≤ℤ d

-- no log has more lines than 32 bits number
abbrev pub AreFew : Clocks → Type 0
AreFew clocks = AllByRecursion (λ log. length log ≤ 4294967296) clocks

-- the line is one of the logs
abbrev pub IsLine : Clocks → LineRef → Type 0
IsLine clocks l = (c : ℤ) × HasClock clocks l c

-- each line of each log once, and nothing else
pub record HasEachOnce (clocks : Clocks) (order : List LineRef) : Type 0 where
  pub lines : (l : LineRef) → Contains order l → IsLine clocks l
  pub all : (l : LineRef) → IsLine clocks l → Contains order l
  pub once : AllPairs (λ a b. a ≢ b) order

-- no line stands before one that it must follow
abbrev pub NoneBefore : (LineRef → LineRef → Type 0) → List LineRef → Type 0
NoneBefore MustFollow order = AllPairs (λ a b. ¬ MustFollow a b) order

-- a is a later line of the log of b
abbrev pub FollowsInLog : LineRef → LineRef → Type 0
FollowsInLog a b = (a.file ≡ b.file) × (b.index < a.index)

-- the clock of a is above that of b
abbrev pub FollowsByClock : Clocks → LineRef → LineRef → Type 0
FollowsByClock clocks a b = (c d : ℤ) × HasClock clocks a c × HasClock clocks b d × (d <ℤ c)

-- the clock of a is above that of b, or they are equal and a is of a later log
abbrev pub FollowsByFile : Clocks → LineRef → LineRef → Type 0
FollowsByFile clocks a b = (c d : ℤ) × HasClock clocks a c × HasClock clocks b d × ((d <ℤ c) ⊎ ((d ≡ c) × (b.file < a.file)))

-- An order that is allowed under a rule of which line must follow which: each line once, the lines of each log in
-- their order, and the rule kept.
pub record IsOrder (clocks : Clocks) (MustFollow : LineRef → LineRef → Type 0) (order : List LineRef) : Type 0 where
  pub lines : HasEachOnce clocks order
  pub in_log : NoneBefore FollowsInLog order
  pub rule : NoneBefore MustFollow order

-- the order by clock, then log, then place
abbrev pub IsMerged : Clocks → List LineRef → Type 0
IsMerged clocks order = IsOrder clocks (FollowsByFile clocks) order

-- it is the only one
abbrev pub IsOnlyOrder : Type 0
IsOnlyOrder = (clocks : Clocks) (a b : List LineRef) → IsMerged clocks a → IsMerged clocks b → a ≡ b

-- it is allowed where the clocks alone say what must follow
abbrev pub IsAllowedByClock : Type 0
IsAllowedByClock = (clocks : Clocks) (order : List LineRef) → IsMerged clocks order → IsOrder clocks (FollowsByClock clocks) order

-- how many lines the logs have together
abbrev pub lines_in : Clocks → ℕ
lines_in [] = 0
lines_in (log ∷ logs) = length log + lines_in logs

-- it is as long as all logs together
abbrev pub IsAsLong : Type 0
IsAsLong = (clocks : Clocks) (order : List LineRef) → IsMerged clocks order → length order ≡ lines_in clocks
