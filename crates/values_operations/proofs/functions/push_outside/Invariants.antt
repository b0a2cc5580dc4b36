use Rattle.std.proofs.Common.{◌≡◌, ◌++◌}
use Rattle.values_core.specs.Functions.{keys_in}
use Rattle.values_operations.specs.Changes.{outside}
use Rattle.values_operations.proofs.functions.push_outside.Given as goal

abbrev pub invariant-loop-pair : goal.invariant-loop-pair
invariant-loop-pair l = l.pairs.items ≡ l.initial.pairs.items ++ outside (keys_in l.f) l.yielded
