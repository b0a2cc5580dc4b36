use Rattle.std.proofs.Common.{◌≡◌, List, ◌++◌, take, map}
use Rattle.serde_json.specs.View.{view, members_view, items_of}
use Rattle.serde_json.proofs.Views.{Entry}
use Rattle.values_json.specs.Reads.{ReadsEach, ReadsFields, ReadsForm, ReadsPairs}
use Rattle.values_core.specs.Data.{Val}
use Rattle.values_json.proofs.reading.+read.Given as goal

abbrev pub invariant-read_items-loop-item : goal.invariant-read_items-loop-item
invariant-read_items-loop-item l = ReadsEach (items_of (map view (take l.item-index l.item-items))) l.values.items

abbrev pub invariant-read_pairs-loop-item : goal.invariant-read_pairs-loop-item
invariant-read_pairs-loop-item l = ReadsPairs (items_of (map view (take l.item-index l.item-items))) l.pairs.items

abbrev pub invariant-read_fields-loop-key : goal.invariant-read_fields-loop-key
invariant-read_fields-loop-key l =
    (done : List Entry) × (l.members.entries ≡ done ++ l.key-iterator) × ReadsFields (members_view done) l.fields.items

abbrev pub invariant-read_sole-loop-mark : goal.invariant-read_sole-loop-mark
invariant-read_sole-loop-mark l =
    (done : List Entry) × (l.members.entries ≡ done ++ l.mark-iterator) × ((v : Val) → ReadsForm (members_view done) v → ⊥)
