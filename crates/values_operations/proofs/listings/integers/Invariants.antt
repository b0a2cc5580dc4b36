use Rattle.std.proofs.Common.{◌≡◌}
use Rattle.values_operations.specs.Listed.{ints_from}
use Rattle.values_operations.proofs.listings.integers.Given as goal

abbrev pub invariant-loop-k : goal.invariant-loop-k
invariant-loop-k l = l.members.items ≡ ints_from l.first l.k
