use Rattle.std.proofs.Common.{◌≡◌, ℕ, ◌<◌, length}
use Rattle.std.specs.Prelude.{false}
use Rattle.std.specs.List.{slice_index_or}
use Rattle.names_tables.specs.UnitComplaints.{is_wrong}
use Rattle.names_tables.proofs.recursion.wrong_marks.Given as goal

abbrev pub invariant-loop-index : goal.invariant-loop-index
invariant-loop-index l = record {
  count : length l.marks.items ≡ l.index;
  exact : (i : ℕ) → i < l.index → slice_index_or l.marks.items i false ≡ is_wrong (slice_index_or l.strictly i false) (slice_index_or l.itself i false) (slice_index_or l.above i false);
}
