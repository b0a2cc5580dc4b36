use Rattle.std.proofs.Common.{◌≤◌, length, map, take}
use Rattle.serde_json.specs.View.{view, items_of}
use Rattle.values_json.specs.Reads.{ReadsEach}
use Rattle.logs_lines.proofs.values.read_values.Given as goal

abbrev pub invariant-loop-item : goal.invariant-loop-item
invariant-loop-item l = ReadsEach (items_of (map view (take l.item-index l.items))) l.values × (length l.values ≤ l.item-index)
