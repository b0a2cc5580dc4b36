use Rattle.std.proofs.Common.{◌≡◌}
use Rattle.base_cuts.specs.Orders.{none_of}
use Rattle.base_cuts.proofs.cut.Cut.none.Given as goal

abbrev pub invariant-loop : goal.invariant-loop
invariant-loop l = l.counts.items ≡ none_of l.counter
