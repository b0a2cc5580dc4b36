-- The lines of several logs, and the orders in which they may stand.
use Rattle.std.specs.Prelude.{◌≡◌, List, Some, slice_get}
use Rattle.std.specs.List.{AllZip}
use Rattle.base_clock_order.specs.declared.order.LineRef.{LineRef}
use Rattle.logs_updates.specs.declared.line.Line.{Line}
use Rattle.base_cuts.specs.Orders.{IsAllowed, IsMade, Order, sizes, sizes_of}
use Rattle.logs_tied.specs.declared.logs.Logs.{Logs}

-- the logs have this line there
abbrev pub StandsIn : List (List Line) → LineRef → Line → Type 0
StandsIn files place line = (log : List Line) × (slice_get files place.file ≡ Some log) × (slice_get log place.index ≡ Some line)

-- what the logs are made of: an order that is made as its kind asks, of logs with as many lines
pub record AreTied (logs : Logs) : Type 0 where
  pub made : IsMade logs.order
  pub sizes : sizes logs.order ≡ sizes_of logs.files.items

-- the lines of the logs in an order that is allowed
pub record IsLined (files : List (List Line)) (o : Order) (order : List LineRef) (lines : List Line) : Type 0 where
  pub allowed : IsAllowed o order
  pub stand : AllZip (StandsIn files) order lines

-- no two lines of the logs have one place in the files
abbrev pub HaveOwnPlaces : List (List Line) → Type 0
HaveOwnPlaces files = (l m : LineRef) (a b : Line) → StandsIn files l a → StandsIn files m b → a.at ≡ b.at → l ≡ m
