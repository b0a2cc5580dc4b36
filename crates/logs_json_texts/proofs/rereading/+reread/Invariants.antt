use Rattle.std.proofs.Common.{◌≡◌, ℕ, ◌+◌, ◌*◌, ◌≤◌, length, take}
use Rattle.json.specs.Json.{items, value, parse_map}
use Rattle.serde_json.specs.Read.{of_items, converted}
use Rattle.logs_json_texts.proofs.Turns.{items_before}
use Rattle.logs_json_texts.proofs.rereading.+reread.Given as goal

abbrev pub decreases-reread_value : goal.decreases-reread_value
decreases-reread_value l = 4 * l.depth

abbrev pub decreases-reread_array : goal.decreases-reread_array
decreases-reread_array l = 4 * l.depth + 3

abbrev pub decreases-reread_items : goal.decreases-reread_items
decreases-reread_items l = 4 * l.depth + 2

abbrev pub decreases-reread_item : goal.decreases-reread_item
decreases-reread_item l = 4 * l.depth + 1

abbrev pub invariant-reread_items-items : goal.invariant-reread_items-items
invariant-reread_items-items l =
    (n : ℕ) × (length l.reader ≤ n)
    × (converted of_items (items (value l.depth) (length l.initial.reader) l.initial.reader) ≡ parse_map (items_before (take l.count l.kept.items)) (converted of_items (items (value l.depth) n l.reader)))
    × (length l.reader ≤ length l.initial.reader)
    × (l.count ≤ length l.kept.items)

abbrev pub decreases-reread_items-items : goal.decreases-reread_items-items
decreases-reread_items-items l = length l.reader
