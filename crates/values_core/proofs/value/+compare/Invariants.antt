use Rattle.std.proofs.Common.{◌≡◌, ◌+◌, ◌*◌, drop, map}
use Rattle.std.specs.Cmp.Lexicographic.{slice_cmp}
use Rattle.values_core.specs.Data.{vals_of, depth, vals_depth, pairs_depth}
use Rattle.values_core.specs.Order.{val_cmp}
use Rattle.values_core.specs.View.{entries_view, entry_cmp, field_cmp, fields_view}
use Rattle.values_core.proofs.Forms.{as_entry, placed}
use Rattle.values_core.proofs.value.+compare.Given as goal

abbrev pub decreases-compare : goal.decreases-compare
decreases-compare l = 2 * (depth l.a.now + depth l.b.now)

abbrev pub decreases-compare_items : goal.decreases-compare_items
decreases-compare_items l = 2 * (vals_depth (vals_of l.a.now.items) + vals_depth (vals_of l.b.now.items)) + 1

abbrev pub decreases-compare_entries : goal.decreases-compare_entries
decreases-compare_entries l = 2 * (pairs_depth (entries_view l.a.now.items) + pairs_depth (entries_view l.b.now.items)) + 1

abbrev pub decreases-compare_fields : goal.decreases-compare_fields
decreases-compare_fields l = 2 * (pairs_depth (fields_view l.a.now.items) + pairs_depth (fields_view l.b.now.items)) + 1

abbrev pub decreases-compare_places : goal.decreases-compare_places
decreases-compare_places l = 2 * (vals_depth (vals_of l.a.now.items) + pairs_depth (entries_view l.b.now.items)) + 1

abbrev pub decreases-compare_names : goal.decreases-compare_names
decreases-compare_names l = 2 * (pairs_depth (fields_view l.a.now.items) + pairs_depth (entries_view l.b.now.items)) + 1

abbrev pub invariant-compare_items-loop-i : goal.invariant-compare_items-loop-i
invariant-compare_items-loop-i l = slice_cmp val_cmp l.a.items l.b.items ≡ slice_cmp val_cmp (drop l.i l.a.items) (drop l.i l.b.items)

abbrev pub invariant-compare_entries-loop-i : goal.invariant-compare_entries-loop-i
invariant-compare_entries-loop-i l = slice_cmp entry_cmp l.a.items l.b.items ≡ slice_cmp entry_cmp (drop l.i l.a.items) (drop l.i l.b.items)

abbrev pub invariant-compare_fields-loop-i : goal.invariant-compare_fields-loop-i
invariant-compare_fields-loop-i l = slice_cmp field_cmp l.a.items l.b.items ≡ slice_cmp field_cmp (drop l.i l.a.items) (drop l.i l.b.items)

abbrev pub invariant-compare_places-loop-i : goal.invariant-compare_places-loop-i
invariant-compare_places-loop-i l = slice_cmp entry_cmp (placed 1 l.a.items) l.b.items ≡ slice_cmp entry_cmp (drop l.i (placed 1 l.a.items)) (drop l.i l.b.items)

abbrev pub invariant-compare_names-loop-i : goal.invariant-compare_names-loop-i
invariant-compare_names-loop-i l = slice_cmp entry_cmp (map as_entry l.a.items) l.b.items ≡ slice_cmp entry_cmp (drop l.i (map as_entry l.a.items)) (drop l.i l.b.items)
