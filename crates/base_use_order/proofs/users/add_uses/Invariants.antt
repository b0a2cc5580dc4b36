use Rattle.std.proofs.Common.{◌≡◌, ◌↔◌, ◌⊎◌, ℕ, length, take}
use Rattle.std.specs.List.{Contains}
use Rattle.base_use_order.specs.Uses.{Uses, table_of}
use Rattle.base_use_order.proofs.users.add_uses.Given as goal

abbrev pub invariant-loop-definition : goal.invariant-loop-definition
invariant-loop-definition l = record {
  sizes : length l.users.items ≡ length l.fn.users.items;
  exact : (a b : ℕ) → Uses (table_of l.users.items) a b ↔ (Uses (table_of l.fn.users.items) a b ⊎ (Contains (take l.definition-index l.used) a × (b ≡ l.user)));
}
