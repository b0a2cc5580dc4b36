use Rattle.std.proofs.Common.{map, take}
use Rattle.serde_json.specs.View.{view, items_of}
use Rattle.logs_shapes.specs.Parts.{update_of}
use Rattle.logs_lines.specs.Values.{EachItem, UpdateReads}
use Rattle.logs_lines.proofs.parts.read_updates.Given as goal

abbrev pub invariant-loop-item : goal.invariant-loop-item
invariant-loop-item g l = EachItem update_of (UpdateReads (g.N.SpecNames.setting l.names)) (items_of (map view (take l.item-index l.items))) l.updates
