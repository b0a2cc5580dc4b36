-- For the prover: what the types of the code are seen as.
use Rattle.std.specs.Prelude.{List, map, Vec}
use Rattle.std.specs.declared.alloc.Global.{Global}
use Rattle.base_cuts.specs.Orders.{Order, by_clock, by_vectors, in_sequence}
use Rattle.base_cuts.specs.declared.order.Rule.{Rule}
use Rattle.base_cuts.specs.declared.order.Rule.TheVariants.{ByClock, ByVectors, InSequence}

-- the items of each log, as the clocks of its lines
abbrev pub logs_of : {K : Type 0} → List (Vec K Global) → List (List K)
logs_of = map (λ log. log.items)

abbrev pub order_of : Rule → Order
order_of (InSequence files lines) = in_sequence files lines.items
order_of (ByClock clocks) = by_clock (logs_of clocks.items)
order_of (ByVectors vectors) = by_vectors (logs_of vectors.items)
