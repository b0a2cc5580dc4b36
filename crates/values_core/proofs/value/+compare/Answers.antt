use Rattle.std.proofs.Common.{◌≡◌, ◌+◌, refl, suc, ◌<◌, length, map, get_or, pos, arith, ap, sym, ◌∙◌}
use Rattle.std.specs.Ordering.{ordering_then}
use Rattle.values_core.specs.Order.{val_cmp}
use Rattle.values_core.specs.View.{entries_view, entry_cmp, field_cmp, fields_view}
use Rattle.values_core.specs.Data.{vals_of, pairs_of, depth, vals_depth, pairs_depth, integer, string, function}
use Rattle.values_core.specs.Functions.{numbered_from, sequence_of}
use Rattle.values_core.specs.declared.value.Entry.{Entry}
use Rattle.base_core.proofs.Lexicographic.{decided, undecided, went_through}
use Rattle.values_core.proofs.Comparing.{items_cmp, entries_cmp, fields_cmp, sequences_cmp, sequence_first, record_last, places_cmp, names_cmp, turned, unlike_model, unlike_truth, unlike_integer, unlike_string, unlike_set, unlike_function}
use Rattle.values_core.proofs.Depths.{depth_item, depth_entry, depth_field}
use Rattle.values_core.proofs.Forms.{as_at, as_entry, length-as, length-placed, placed, placed_at}
use Rattle.values_core.proofs.SequenceLemmas.{depth-numbered}
use Rattle.values_core.proofs.value.+compare.Goals as goal
use Rattle.values_core.proofs.value.+compare.Goals.{compare-in_default-via-in-Model+in_default, compare-in_default-via-in-Bool+in_default, compare-in_default-via-in-Int+in_default, compare-in_default-via-in-String+in_default, compare-in_default-via-in-Set+in_default, compare-in_default-via-in-Sequence+in_default, compare-in_default-via-in-Record+in_default, compare-in_default-via-in-Function+in_default}

pub compare-returns-in_default : goal.compare-returns-in_default
compare-returns-in_default t c =
    c.cmp-in_default.ensures ∙ elim c.in_default.branch [
      | compare-in_default-via-in-Model+in_default w ↦ rw (c.rank.ensures, c.rank-in_default.ensures, ← c.a.view_is, ← c.b.view_is, w.in_default.is-0) (unlike_model c.b.inside.node w.in_default.field-0-0 w.in_default.not-Model-1)
      | compare-in_default-via-in-Bool+in_default w ↦ rw (c.rank.ensures, c.rank-in_default.ensures, ← c.a.view_is, ← c.b.view_is, w.in_default.is-0) (unlike_truth c.b.inside.node w.in_default.field-0-0 w.in_default.not-Bool-1)
      | compare-in_default-via-in-Int+in_default w ↦ rw (c.rank.ensures, c.rank-in_default.ensures, ← c.a.view_is, ← c.b.view_is, w.in_default.is-0) (unlike_integer c.b.inside.node w.in_default.field-0-0 w.in_default.not-Int-1)
      | compare-in_default-via-in-String+in_default w ↦ rw (c.rank.ensures, c.rank-in_default.ensures, ← c.a.view_is, ← c.b.view_is, w.in_default.is-0) (unlike_string c.b.inside.node w.in_default.field-0-0 w.in_default.not-String-1)
      | compare-in_default-via-in-Set+in_default w ↦ rw (c.rank.ensures, c.rank-in_default.ensures, ← c.a.view_is, ← c.b.view_is, w.in_default.is-0) (unlike_set c.b.inside.node (vals_of w.in_default.field-0-0.value.items.items) w.in_default.not-Set-1)
      | compare-in_default-via-in-Sequence+in_default w ↦ rw (c.rank.ensures, c.rank-in_default.ensures, ← c.a.view_is, ← c.b.view_is, w.in_default.is-0) (unlike_function c.b.inside.node (pairs_of (numbered_from 1 w.in_default.field-0-0.value.items.items)) w.in_default.not-Sequence-1 w.in_default.not-Record-1 w.in_default.not-Function-1)
      | compare-in_default-via-in-Record+in_default w ↦ rw (c.rank.ensures, c.rank-in_default.ensures, ← c.a.view_is, ← c.b.view_is, w.in_default.is-0) (unlike_function c.b.inside.node (fields_view w.in_default.field-0-0.value.fields.items) w.in_default.not-Sequence-1 w.in_default.not-Record-1 w.in_default.not-Function-1)
      | compare-in_default-via-in-Function+in_default w ↦ rw (c.rank.ensures, c.rank-in_default.ensures, ← c.a.view_is, ← c.b.view_is, w.in_default.is-0) (unlike_function c.b.inside.node (entries_view w.in_default.field-0-0.value.entries.items) w.in_default.not-Sequence-1 w.in_default.not-Record-1 w.in_default.not-Function-1)
    ]

pub compare-returns-in-Set-Set : goal.compare-returns-in-Set-Set
compare-returns-in-Set-Set t c =
    rw (← c.a.view_is, ← c.b.view_is, c.in-Set-Set.is-0, c.in-Set-Set.is-1, ← c.deref.ensures, ← c.deref-in-Set-Set.ensures) (c.compare_items.ensures ∙ sym (items_cmp c.deref.result.now.items.items c.deref-in-Set-Set.result.now.items.items))

pub compare-returns-in-Sequence-Sequence : goal.compare-returns-in-Sequence-Sequence
compare-returns-in-Sequence-Sequence t c =
    rw (← c.a.view_is, ← c.b.view_is, c.in-Sequence-Sequence.is-0, c.in-Sequence-Sequence.is-1, ← c.deref-in-Sequence-Sequence.ensures, ← c.deref-in-Sequence-Sequence-2.ensures) (c.compare_items-in-Sequence-Sequence.ensures ∙ sym (sequences_cmp 1 c.deref-in-Sequence-Sequence.result.now.items.items c.deref-in-Sequence-Sequence-2.result.now.items.items))

pub compare-returns-in-Record-Record : goal.compare-returns-in-Record-Record
compare-returns-in-Record-Record t c =
    rw (← c.a.view_is, ← c.b.view_is, c.in-Record-Record.is-0, c.in-Record-Record.is-1, ← c.deref-in-Record-Record.ensures, ← c.deref-in-Record-Record-2.ensures) (c.compare_fields.ensures ∙ sym (fields_cmp c.deref-in-Record-Record.result.now.fields.items c.deref-in-Record-Record-2.result.now.fields.items))

pub compare-returns-in-Function-Function : goal.compare-returns-in-Function-Function
compare-returns-in-Function-Function t c =
    rw (← c.a.view_is, ← c.b.view_is, c.in-Function-Function.is-0, c.in-Function-Function.is-1, ← c.deref-in-Function-Function.ensures, ← c.deref-in-Function-Function-2.ensures) (c.compare_entries.ensures ∙ sym (entries_cmp c.deref-in-Function-Function.result.now.entries.items c.deref-in-Function-Function-2.result.now.entries.items))

pub compare-returns-in-Sequence-Record : goal.compare-returns-in-Sequence-Record
compare-returns-in-Sequence-Record t c =
    rw (← c.a.view_is, ← c.b.view_is, c.in-Sequence-Record.is-0, c.in-Sequence-Record.is-1) (sequence_first c.in-Sequence-Record.field-0-0.value.items.items c.in-Sequence-Record.field-0-1.value.fields.items (rw c.in-Sequence-Record.is-1 at c.b.invariant.one_form))

pub compare-returns-in-Record-Sequence : goal.compare-returns-in-Record-Sequence
compare-returns-in-Record-Sequence t c =
    rw (← c.a.view_is, ← c.b.view_is, c.in-Record-Sequence.is-0, c.in-Record-Sequence.is-1) (record_last c.in-Record-Sequence.field-0-1.value.items.items c.in-Record-Sequence.field-0-0.value.fields.items (rw c.in-Record-Sequence.is-0 at c.a.invariant.one_form))

pub compare-returns-in-Function-Sequence : goal.compare-returns-in-Function-Sequence
compare-returns-in-Function-Sequence t c =
    rw (← c.a.view_is, ← c.b.view_is, c.in-Function-Sequence.is-0, c.in-Function-Sequence.is-1, ← c.deref-in-Function-Sequence-2.ensures, ← c.deref-in-Function-Sequence.ensures) (turned (function (entries_view c.deref-in-Function-Sequence-2.result.now.entries.items)) (sequence_of c.deref-in-Function-Sequence.result.now.items.items) _ _ c.reverse.ensures c.compare_places-in-Function-Sequence.ensures)

pub compare-returns-in-Function-Record : goal.compare-returns-in-Function-Record
compare-returns-in-Function-Record t c =
    rw (← c.a.view_is, ← c.b.view_is, c.in-Function-Record.is-0, c.in-Function-Record.is-1, ← c.deref-in-Function-Record-2.ensures, ← c.deref-in-Function-Record.ensures) (turned (function (entries_view c.deref-in-Function-Record-2.result.now.entries.items)) (function (fields_view c.deref-in-Function-Record.result.now.fields.items)) _ _ c.reverse-in-Function-Record.ensures c.compare_names-in-Function-Record.ensures)

pub compare-compare_items-requires-in-Sequence-Sequence : goal.compare-compare_items-requires-in-Sequence-Sequence
compare-compare_items-requires-in-Sequence-Sequence t c =
    let xs = c.deref-in-Sequence-Sequence.result.now.items.items in
    let ys = c.deref-in-Sequence-Sequence-2.result.now.items.items in
    let a : depth c.args.a.now ≡ suc (vals_depth (vals_of xs)) = rw (← c.a.view_is, c.in-Sequence-Sequence.is-0, ← c.deref-in-Sequence-Sequence.ensures) (omega (arith, depth-numbered 1 xs)) in
    let b : depth c.args.b.now ≡ suc (vals_depth (vals_of ys)) = rw (← c.b.view_is, c.in-Sequence-Sequence.is-1, ← c.deref-in-Sequence-Sequence-2.ensures) (omega (arith, depth-numbered 1 ys)) in
    (omega (arith, c.decreases), tt)

pub compare-compare_places-requires : goal.compare-compare_places-requires
compare-compare_places-requires t c =
    let xs = c.deref-in-Sequence-Function.result.now.items.items in
    let es = c.deref-in-Sequence-Function-2.result.now.entries.items in
    let a : depth c.args.a.now ≡ suc (vals_depth (vals_of xs)) = rw (← c.a.view_is, c.in-Sequence-Function.is-0, ← c.deref-in-Sequence-Function.ensures) (omega (arith, depth-numbered 1 xs)) in
    let b : depth c.args.b.now ≡ suc (pairs_depth (entries_view es)) = rw (← c.b.view_is, c.in-Sequence-Function.is-1, ← c.deref-in-Sequence-Function-2.ensures) (omega arith) in
    (omega (arith, c.decreases), tt)

pub compare-compare_places-requires-in-Function-Sequence : goal.compare-compare_places-requires-in-Function-Sequence
compare-compare_places-requires-in-Function-Sequence t c =
    let xs = c.deref-in-Function-Sequence.result.now.items.items in
    let es = c.deref-in-Function-Sequence-2.result.now.entries.items in
    let a : depth c.args.a.now ≡ suc (pairs_depth (entries_view es)) = rw (← c.a.view_is, c.in-Function-Sequence.is-0, ← c.deref-in-Function-Sequence-2.ensures) (omega arith) in
    let b : depth c.args.b.now ≡ suc (vals_depth (vals_of xs)) = rw (← c.b.view_is, c.in-Function-Sequence.is-1, ← c.deref-in-Function-Sequence.ensures) (omega (arith, depth-numbered 1 xs)) in
    (omega (arith, c.decreases), tt)

pub compare_items-compare-order-requires : goal.compare_items-compare-order-requires
compare_items-compare-order-requires t c =
    let p : c.loop-i.i < length c.args.a.now.items = omega arith in
    let q : c.loop-i.i < length c.args.b.now.items = omega arith in
    (omega (arith, depth_item c.args.a.now.items c.args.a.now.items c.loop-i.i c.index.result.now refl p c.index.ensures, depth_item c.args.b.now.items c.args.b.now.items c.loop-i.i c.index-in-loop-i.result.now refl q c.index-in-loop-i.ensures), tt)

pub compare_items-returns : goal.compare_items-returns
compare_items-returns t c =
    went_through val_cmp c.args.a.now.items c.args.b.now.items c.loop-i.i c.len-3.result c.len-4.result c.cmp.result
    (omega arith) (omega arith) (omega arith) (omega arith) (omega arith)
    c.cmp.ensures
    c.loop-i.invariant

pub compare_entries-compare-requires : goal.compare_entries-compare-requires
compare_entries-compare-requires t c =
    let p : c.loop-i.i < length c.args.a.now.items = omega arith in
    let q : c.loop-i.i < length c.args.b.now.items = omega arith in
    (omega (arith, depth_entry c.args.a.now.items c.args.a.now.items c.loop-i.i c.index-x.result.now refl p c.index-x.ensures, depth_entry c.args.b.now.items c.args.b.now.items c.loop-i.i c.index-y.result.now refl q c.index-y.ensures), tt)

pub compare_entries-compare-requires-in-loop-i : goal.compare_entries-compare-requires-in-loop-i
compare_entries-compare-requires-in-loop-i t c =
    let p : c.loop-i.i < length c.args.a.now.items = omega arith in
    let q : c.loop-i.i < length c.args.b.now.items = omega arith in
    (omega (arith, depth_entry c.args.a.now.items c.args.a.now.items c.loop-i.i c.index-x.result.now refl p c.index-x.ensures, depth_entry c.args.b.now.items c.args.b.now.items c.loop-i.i c.index-y.result.now refl q c.index-y.ensures), tt)

pub compare_entries-returns : goal.compare_entries-returns
compare_entries-returns t c =
    went_through entry_cmp c.args.a.now.items c.args.b.now.items c.loop-i.i c.len-3.result c.len-4.result c.cmp.result
    (omega arith) (omega arith) (omega arith) (omega arith) (omega arith)
    c.cmp.ensures
    c.loop-i.invariant

pub compare_fields-compare-requires : goal.compare_fields-compare-requires
compare_fields-compare-requires t c =
    let p : c.loop-i.i < length c.args.a.now.items = omega arith in
    let q : c.loop-i.i < length c.args.b.now.items = omega arith in
    (omega (arith, depth_field c.args.a.now.items c.args.a.now.items c.loop-i.i c.index-x.result.now refl p c.index-x.ensures, depth_field c.args.b.now.items c.args.b.now.items c.loop-i.i c.index-y.result.now refl q c.index-y.ensures), tt)

pub compare_fields-returns : goal.compare_fields-returns
compare_fields-returns t c =
    went_through field_cmp c.args.a.now.items c.args.b.now.items c.loop-i.i c.len-3.result c.len-4.result c.cmp-2.result
    (omega arith) (omega arith) (omega arith) (omega arith) (omega arith)
    c.cmp-2.ensures
    c.loop-i.invariant

pub compare_names-compare-requires : goal.compare_names-compare-requires
compare_names-compare-requires t c =
    let p : c.loop-i.i < length c.args.a.now.items = omega arith in
    let q : c.loop-i.i < length c.args.b.now.items = omega arith in
    (omega (arith, depth_field c.args.a.now.items c.args.a.now.items c.loop-i.i c.index-x.result.now refl p c.index-x.ensures, depth_entry c.args.b.now.items c.args.b.now.items c.loop-i.i c.index-y.result.now refl q c.index-y.ensures), tt)

pub compare_names-returns-then-is_ne : goal.compare_names-returns-then-is_ne
compare_names-returns-then-is_ne t c =
    let e : Entry = as_entry c.index-x.result.now in
    let below : c.loop-i.i < length c.args.a.now.items = omega arith in
    let at : e ≡ get_or (map as_entry c.args.a.now.items) c.loop-i.i e = as_at c.args.a.now.items c.loop-i.i c.index-x.result.now below c.index-x.ensures in
    decided entry_cmp (map as_entry c.args.a.now.items) c.args.b.now.items c.loop-i.i e c.index-y.result.now c.then-order.result (omega (arith, length-as c.args.a.now.items)) (omega arith) at c.index-y.ensures
    (c.then-order.ensures ∙ ap (λ o. ordering_then o c.compare.result) c.compare_name.ensures ∙ ap (ordering_then (val_cmp (string c.index-x.result.now.name) c.index-y.result.now.key)) c.compare.ensures) (sym c.is_ne.ensures ∙ c.if-is_ne.true) c.loop-i.invariant ∙ sym (names_cmp c.args.a.now.items c.args.b.now.items)

pub compare_names-loop-i-preserved : goal.compare_names-loop-i-preserved
compare_names-loop-i-preserved t c =
    let e : Entry = as_entry c.index-x.result.now in
    let below : c.loop-i.i < length c.args.a.now.items = omega arith in
    let at : e ≡ get_or (map as_entry c.args.a.now.items) c.loop-i.i e = as_at c.args.a.now.items c.loop-i.i c.index-x.result.now below c.index-x.ensures in
    undecided entry_cmp (map as_entry c.args.a.now.items) c.args.b.now.items c.loop-i.i e c.index-y.result.now c.then-order.result (omega (arith, length-as c.args.a.now.items)) (omega arith) at c.index-y.ensures
    (c.then-order.ensures ∙ ap (λ o. ordering_then o c.compare.result) c.compare_name.ensures ∙ ap (ordering_then (val_cmp (string c.index-x.result.now.name) c.index-y.result.now.key)) c.compare.ensures) (sym c.is_ne.ensures ∙ c.if-is_ne.false) c.loop-i.invariant

pub compare_names-returns : goal.compare_names-returns
compare_names-returns t c =
    went_through entry_cmp (map as_entry c.args.a.now.items) c.args.b.now.items c.loop-i.i c.len-3.result c.len-4.result c.cmp.result
    (omega (arith, length-as c.args.a.now.items)) (omega arith) (omega arith) (omega arith) (omega arith)
    c.cmp.ensures
    c.loop-i.invariant
    ∙ sym (names_cmp c.args.a.now.items c.args.b.now.items)

pub compare_places-compare-requires : goal.compare_places-compare-requires
compare_places-compare-requires t c =
    let p : c.loop-i.i < length c.args.a.now.items = omega arith in
    let q : c.loop-i.i < length c.args.b.now.items = omega arith in
    (omega (arith, depth_item c.args.a.now.items c.args.a.now.items c.loop-i.i c.index-x.result.now refl p c.index-x.ensures, depth_entry c.args.b.now.items c.args.b.now.items c.loop-i.i c.index-y.result.now refl q c.index-y.ensures), tt)

pub compare_places-returns-then-is_ne : goal.compare_places-returns-then-is_ne
compare_places-returns-then-is_ne t c =
    let e : Entry = record { key = integer (pos (c.loop-i.i + 1)); value = c.index-x.result.now } in
    let below : c.loop-i.i < length c.args.a.now.items = omega arith in
    let at : e ≡ get_or (placed 1 c.args.a.now.items) c.loop-i.i e = placed_at 1 c.args.a.now.items c.loop-i.i (c.loop-i.i + 1) c.index-x.result.now e (omega arith) below c.index-x.ensures refl refl in
    decided entry_cmp (placed 1 c.args.a.now.items) c.args.b.now.items c.loop-i.i e c.index-y.result.now c.then-order.result (omega (arith, length-placed 1 c.args.a.now.items)) (omega arith) at c.index-y.ensures
    (c.then-order.ensures ∙ ap (λ o. ordering_then o c.compare.result) c.compare_place.ensures ∙ ap (ordering_then (val_cmp (integer (pos (c.loop-i.i + 1))) c.index-y.result.now.key)) c.compare.ensures) (sym c.is_ne.ensures ∙ c.if-is_ne.true) c.loop-i.invariant ∙ sym (places_cmp c.args.a.now.items c.args.b.now.items)

pub compare_places-loop-i-preserved : goal.compare_places-loop-i-preserved
compare_places-loop-i-preserved t c =
    let e : Entry = record { key = integer (pos (c.loop-i.i + 1)); value = c.index-x.result.now } in
    let below : c.loop-i.i < length c.args.a.now.items = omega arith in
    let at : e ≡ get_or (placed 1 c.args.a.now.items) c.loop-i.i e = placed_at 1 c.args.a.now.items c.loop-i.i (c.loop-i.i + 1) c.index-x.result.now e (omega arith) below c.index-x.ensures refl refl in
    undecided entry_cmp (placed 1 c.args.a.now.items) c.args.b.now.items c.loop-i.i e c.index-y.result.now c.then-order.result (omega (arith, length-placed 1 c.args.a.now.items)) (omega arith) at c.index-y.ensures
    (c.then-order.ensures ∙ ap (λ o. ordering_then o c.compare.result) c.compare_place.ensures ∙ ap (ordering_then (val_cmp (integer (pos (c.loop-i.i + 1))) c.index-y.result.now.key)) c.compare.ensures) (sym c.is_ne.ensures ∙ c.if-is_ne.false) c.loop-i.invariant

pub compare_places-returns : goal.compare_places-returns
compare_places-returns t c =
    went_through entry_cmp (placed 1 c.args.a.now.items) c.args.b.now.items c.loop-i.i c.len-3.result c.len-4.result c.cmp.result
    (omega (arith, length-placed 1 c.args.a.now.items)) (omega arith) (omega arith) (omega arith) (omega arith)
    c.cmp.ensures
    c.loop-i.invariant
    ∙ sym (places_cmp c.args.a.now.items c.args.b.now.items)
