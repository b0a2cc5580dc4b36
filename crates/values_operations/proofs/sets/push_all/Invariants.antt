use Rattle.std.proofs.Common.{◌≡◌, ◌++◌, take}
use Rattle.values_operations.proofs.sets.push_all.Given as goal

abbrev pub invariant-loop-v : goal.invariant-loop-v
invariant-loop-v l = l.out.items ≡ l.initial.out.items ++ take l.v-index l.values
