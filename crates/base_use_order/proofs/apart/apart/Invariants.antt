use Rattle.std.proofs.Common.{◌≤◌, length}
use Rattle.base_use_order.specs.Uses.{table_of}
use Rattle.base_use_order.proofs.LeftOut.{ApartSoFar}
use Rattle.base_use_order.proofs.apart.apart.Given as goal

abbrev pub invariant-loop-index : goal.invariant-loop-index
invariant-loop-index l = ApartSoFar l.marks (table_of l.uses) (table_of l.others.items) l.index × (l.index ≤ length (table_of l.uses))
