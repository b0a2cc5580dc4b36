use Rattle.std.proofs.Common.{map, take}
use Rattle.serde_json.specs.View.{view, items_of}
use Rattle.logs_shapes.specs.Parts.{see_of}
use Rattle.logs_lines.specs.Values.{EachItem, SeeReads}
use Rattle.logs_lines.proofs.parts.read_sees.Given as goal

abbrev pub invariant-loop-item : goal.invariant-loop-item
invariant-loop-item g l = EachItem see_of (SeeReads (g.N.SpecNames.setting l.names)) (items_of (map view (take l.item-index l.items))) l.sees
