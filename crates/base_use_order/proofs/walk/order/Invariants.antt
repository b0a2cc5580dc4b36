use Rattle.std.proofs.Common.{length, reverse}
use Rattle.base_use_order.specs.Uses.{AreInOrder, table_of}
use Rattle.base_use_order.specs.Walks.{InTurn, Stands, left_to_take}
use Rattle.base_use_order.proofs.walk.order.Given as goal

abbrev pub invariant-loop-task : goal.invariant-loop-task
invariant-loop-task l = record {
  stands : Stands (table_of l.uses) l.walk.marks.items l.walk.order.items (reverse l.walk.tasks.items);
  in_turn : AreInOrder (table_of l.uses) → InTurn (length l.uses) l.walk.order.items (reverse l.walk.tasks.items);
}

abbrev pub decreases-loop-task : goal.decreases-loop-task
decreases-loop-task l = left_to_take (table_of l.uses) l.walk.marks.items l.walk.tasks.items
