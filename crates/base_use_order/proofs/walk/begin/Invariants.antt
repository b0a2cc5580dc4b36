use Rattle.std.proofs.Common.{◌≡◌, ◌-◌, length, map, reverse}
use Rattle.std.specs.List.{range_with_len}
use Rattle.base_use_order.specs.declared.walk.Task.TheVariants.{Enter}
use Rattle.base_use_order.proofs.walk.begin.Given as goal

abbrev pub invariant-loop-definition : goal.invariant-loop-definition
invariant-loop-definition l = reverse l.tasks.items ≡ map Enter (range_with_len l.definition (length l.uses - l.definition))
