use Rattle.base_use_order.specs.Uses.{table_of}
use Rattle.base_use_order.specs.Reaching.{Reaches, left_to_reach}
use Rattle.base_use_order.proofs.reach.uses_itself.Given as goal

abbrev pub invariant-loop-next : goal.invariant-loop-next
invariant-loop-next l = Reaches (table_of l.uses) l.definition l.reached.items l.waiting.items

abbrev pub decreases-loop-next : goal.decreases-loop-next
decreases-loop-next l = left_to_reach (table_of l.uses) l.reached.items l.waiting.items
