use Rattle.std.proofs.Common.{◌≡◌, ◌++◌, map, take}
use Rattle.base_use_order.specs.declared.walk.Task.TheVariants.{Enter}
use Rattle.base_use_order.proofs.walk.enter.Given as goal

abbrev pub invariant-loop-next : goal.invariant-loop-next
invariant-loop-next l = (l.walk.marks.items ≡ l.initial.walk.marks.items) × (l.walk.order.items ≡ l.initial.walk.order.items)
    × (l.walk.tasks.items ≡ l.initial.walk.tasks.items ++ map Enter (take l.next-index l.used))
