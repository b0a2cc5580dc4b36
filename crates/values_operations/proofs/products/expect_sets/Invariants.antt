use Rattle.std.proofs.Common.{◌≡◌, drop}
use Rattle.values_operations.specs.NoSet.{no_set_from}
use Rattle.values_operations.proofs.products.expect_sets.Given as goal

abbrev pub invariant-loop-i : goal.invariant-loop-i
invariant-loop-i l = no_set_from 0 l.parts ≡ no_set_from l.i (drop l.i l.parts)
