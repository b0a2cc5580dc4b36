use Rattle.std.proofs.Common.{◌≡◌}
use Rattle.values_core.specs.Functions.{fields_as_pairs}
use Rattle.values_core.proofs.value.making.pairs_from.Given as goal

abbrev pub invariant-loop-name : goal.invariant-loop-name
invariant-loop-name l = l.pairs.items ≡ fields_as_pairs l.yielded
