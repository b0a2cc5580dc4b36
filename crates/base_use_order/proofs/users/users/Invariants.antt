use Rattle.std.proofs.Common.{◌≡◌, ◌↔◌, ◌<◌, ℕ, length}
use Rattle.base_use_order.specs.Uses.{Uses, table_of}
use Rattle.base_use_order.proofs.users.users.Given as goal

abbrev pub invariant-loop-user : goal.invariant-loop-user
invariant-loop-user l = record {
  sizes : length l.users.items ≡ length l.uses;
  exact : (a b : ℕ) → Uses (table_of l.users.items) a b ↔ ((b < l.user) × Uses (table_of l.uses) b a);
}
