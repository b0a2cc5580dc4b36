use Rattle.std.proofs.Common.{◌++◌, ◌≤◌, drop, List}
use Rattle.std.specs.Prelude.{Bool}
use Rattle.names_pruning.specs.Parts.{AreGone, IsOver}
use Rattle.names_pruning.proofs.over.are_over.Given as goal

abbrev pub invariant-loop-unit : goal.invariant-loop-unit
invariant-loop-unit l = record {
  small : l.index ≤ l.unit-index;
  flags : (rest : List Bool) → AreGone (IsOver l.names l.unread l.bad) l.index (drop l.unit-index l.unit-items) rest
      → AreGone (IsOver l.names l.unread l.bad) 0 l.unit-items (l.over.items ++ rest);
}
