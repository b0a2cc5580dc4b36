use Rattle.std.proofs.Common.{◌-◌, ◌≤◌, ℕ, length}
use Rattle.base_use_order.specs.Uses.{Uses, table_of}
use Rattle.base_use_order.proofs.users.no_users.Given as goal

abbrev pub invariant-loop-alloc : goal.invariant-loop-alloc
invariant-loop-alloc l = record {
  few : length l.users.items ≤ l.count;
  none : (a b : ℕ) → Uses (table_of l.users.items) a b → ⊥;
}

abbrev pub decreases-loop-alloc : goal.decreases-loop-alloc
decreases-loop-alloc l = l.count - length l.users.items
