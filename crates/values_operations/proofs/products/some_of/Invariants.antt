use Rattle.std.proofs.Common.{◌≡◌, ◌++◌, drop}
use Rattle.values_operations.specs.Subsets.{subset}
use Rattle.values_operations.proofs.products.some_of.Given as goal

abbrev pub invariant-loop-i : goal.invariant-loop-i
invariant-loop-i l = l.some.items ++ subset (drop l.i l.members) l.rest ≡ subset l.members l.number
