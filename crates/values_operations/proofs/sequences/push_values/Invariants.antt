use Rattle.std.proofs.Common.{◌≡◌, ◌++◌, take, drop}
use Rattle.values_core.specs.Functions.{values_in}
use Rattle.values_operations.proofs.sequences.push_values.Given as goal

abbrev pub invariant-loop-i : goal.invariant-loop-i
invariant-loop-i l = l.values.items ≡ l.initial.values.items ++ drop l.from (take l.i (values_in l.s))
