use Rattle.std.proofs.Common.{◌≡◌, ℕ, ◌<◌, length}
use Rattle.std.specs.Prelude.{◌↔◌, IsTrue, false}
use Rattle.std.specs.List.{slice_index_or}
use Rattle.base_use_order.specs.Uses.{UsesItself, table_of}
use Rattle.names_tables.proofs.recursion.recursive.Given as goal

abbrev pub invariant-loop-index : goal.invariant-loop-index
invariant-loop-index l = record {
  count : length l.marks.items ≡ l.index;
  exact : (i : ℕ) → i < l.index → IsTrue (slice_index_or l.marks.items i false) ↔ UsesItself (table_of l.uses) i;
}
