use Rattle.std.proofs.Common.{◌≡◌, ◌+◌, ◌<◌, ◌≤◌, List, length, drop, true, ap, sym, ◌∙◌, subst, arith}
use Rattle.std.specs.Prelude.{Contains}
use Rattle.values_core.specs.Data.{Val}
use Rattle.values_core.specs.Products.{InProduct, InRecordSet}
use Rattle.values_core.specs.SetOperations.{GivesSet}
use Rattle.values_core.specs.Sets.{IsSet}
use Rattle.values_sets.specs.DescribedSets.{Fields, Parts}
use Rattle.values_sets.specs.DescribedSizes.{described_size, fields_size, parts_size}
use Rattle.values_sets.specs.DescribedViews.{fields_of, parts_of}
use Rattle.values_sets.specs.ListedParts.{sets_of, texts_of}
use Rattle.values_sets.specs.Listings.{fields_are_finite, parts_are_finite}
use Rattle.values_sets.specs.Soundness.{FieldsAreSound, PartsAreSound}
use Rattle.values_sets.proofs.Collecting.{subsets_listed, functions_listed, union_listed, inter_listed, minus_listed}
use Rattle.values_sets.proofs.Items.{fields_back, parts_back, field_smaller, part_smaller, field_sound, part_sound}
use Rattle.values_sets.proofs.Loops.{item_at}
use Rattle.values_sets.proofs.Rests.{ListsRest, part_stop, part_step, part_end, field_stop, field_step, field_end, part_finite, field_finite}
use Rattle.values_sets.proofs.Several.{product_listed, product_refused, records_listed, records_refused, listings_are_sets, length-listings}
use Rattle.values_sets.proofs.lists.+listing.Goals as goal

pub subsets-returns-in-Ok : goal.subsets-returns-in-Ok
subsets-returns-in-Ok t c = subsets_listed c.args.part.now c.in-Ok.members c.powerset.result c.in-Ok.ensures c.powerset.ensures

pub functions_into-returns-in-Ok : goal.functions_into-returns-in-Ok
functions_into-returns-in-Ok t c = functions_listed c.args.domain.now c.args.part.now c.in-Ok.range c.function_set.result c.requires.set c.in-Ok.ensures c.function_set.ensures

pub either-returns-in-Ok-listing : goal.either-returns-in-Ok-listing
either-returns-in-Ok-listing t c = union_listed c.args.left.now c.args.right.now c.in-Ok.first c.in-Ok-listing.second c.union.result c.in-Ok.ensures c.in-Ok-listing.ensures c.union.ensures

pub both-returns-in-Ok : goal.both-returns-in-Ok
both-returns-in-Ok t c = inter_listed c.args.left.now c.args.right.now c.in-Ok.all c.chosen.result c.in-Ok.ensures c.chosen.ensures

pub left_alone-returns-in-Ok : goal.left_alone-returns-in-Ok
left_alone-returns-in-Ok t c = minus_listed c.args.left.now c.args.right.now c.in-Ok.all c.chosen.result c.in-Ok.ensures c.chosen.ensures

pub tuples_of-all_tuples-requires : goal.tuples_of-all_tuples-requires
tuples_of-all_tuples-requires t c =
    subst (λ (xs : List Val). (s : Val) → Contains xs s → IsSet s) (sym c.deref.ensures.value) (listings_are_sets c.args.parts.now c.in-Ok.sets.items c.in-Ok.ensures)

pub tuples_of-returns-in-Ok : goal.tuples_of-returns-in-Ok
tuples_of-returns-in-Ok t c =
    product_listed c.args.parts.now c.in-Ok.sets.items c.all_tuples.result c.in-Ok.ensures (subst (λ (xs : List Val). GivesSet (InProduct xs) c.all_tuples.result) c.deref.ensures.value c.all_tuples.ensures)

pub tuples_of-returns-in-Err : goal.tuples_of-returns-in-Err
tuples_of-returns-in-Err t c = product_refused c.args.parts.now c.in-Err.fault c.in-Err.ensures

pub records_of-all_records-requires-clause-as_many : goal.records_of-all_records-requires-clause-as_many
records_of-all_records-requires-clause-as_many t c =
    ap (λ (xs : List Val). length xs) c.deref.ensures.value ∙ length-listings c.args.fields.now c.in-Ok.sets.items c.in-Ok.ensures

pub records_of-all_records-requires-clause-sets : goal.records_of-all_records-requires-clause-sets
records_of-all_records-requires-clause-sets t c =
    subst (λ (xs : List Val). (s : Val) → Contains xs s → IsSet s) (sym c.deref.ensures.value) (listings_are_sets (sets_of c.args.fields.now) c.in-Ok.sets.items c.in-Ok.ensures)

pub records_of-returns-in-Ok : goal.records_of-returns-in-Ok
records_of-returns-in-Ok t c =
    let fs = c.args.fields.now in
    records_listed fs c.in-Ok.sets.items c.all_records.result c.requires.sound.1 c.in-Ok.ensures (subst (λ (xs : List Val). GivesSet (InRecordSet (texts_of fs) xs) c.all_records.result) c.deref.ensures.value c.all_records.ensures)

pub records_of-returns-in-Err : goal.records_of-returns-in-Err
records_of-returns-in-Err t c = records_refused c.args.fields.now c.in-Err.fault c.in-Err.ensures

pub list_parts-listing-requires : goal.list_parts-listing-requires
list_parts-listing-requires t c =
    let xs = c.items-items.result.now in
    let ps = c.args.parts.now in
    let x = c.part-item.result in
    let i = c.loop-part.part-index in
    let below : c.loop-part.part-index < length c.items-items.result.now = omega arith in
    let at = item_at xs i x below c.part-item.is in
    let back : parts_of c.items-items.result.now ≡ c.args.parts.now = parts_back ps xs c.items-items.ensures in
    let less : described_size c.part-item.result < parts_size c.args.parts.now = subst (λ (qs : Parts). described_size c.part-item.result < parts_size qs) back (part_smaller xs i x at) in (
      omega (arith, less),
      (
        part_sound xs i x at (subst (λ (qs : Parts). PartsAreSound qs) (sym back) c.requires.sound),
        part_finite xs i x at (subst (λ (qs : Parts). parts_are_finite qs ≡ true) (sym back) c.requires.finite),
      ),
    )

pub list_parts-returns-in-Err : goal.list_parts-returns-in-Err
list_parts-returns-in-Err t c =
    let xs = c.items-items.result.now in
    let ps = c.args.parts.now in
    let below : c.loop-part.part-index < length c.items-items.result.now = omega arith in
    part_stop xs ps c.loop-part.part-index c.part-item.result c.loop-part.sets.items c.in-Err.fault (parts_back ps xs c.items-items.ensures) below c.part-item.is c.in-Err.ensures c.loop-part.invariant

pub list_parts-loop-part-preserved : goal.list_parts-loop-part-preserved
list_parts-loop-part-preserved t c =
    let xs = c.items-items.result.now in
    let i = c.loop-part.part-index in
    let below : c.loop-part.part-index < length c.items-items.result.now = omega arith in
    subst (λ (zs : List Val). ListsRest (parts_of xs) (parts_of (drop (i + 1) xs)) zs) (sym c.in_ok-push_value-in-Ok.ensures)
    (part_step xs i c.part-item.result c.loop-part.sets.items c.in-Ok.set below c.part-item.is c.in-Ok.ensures c.loop-part.invariant)

pub list_parts-returns : goal.list_parts-returns
list_parts-returns t c =
    let xs = c.items-items.result.now in
    let ps = c.args.parts.now in
    let passed : length c.items-items.result.now ≤ c.loop-part.part-index = omega arith in
    part_end xs ps c.loop-part.part-index c.loop-part.sets.items (parts_back ps xs c.items-items.ensures) passed c.loop-part.invariant

pub list_fields-listing-requires : goal.list_fields-listing-requires
list_fields-listing-requires t c =
    let xs = c.items-items.result.now in
    let fs = c.args.fields.now in
    let x = c.field-item.result in
    let i = c.loop-field.field-index in
    let below : c.loop-field.field-index < length c.items-items.result.now = omega arith in
    let at = item_at xs i x below c.field-item.is in
    let back : fields_of c.items-items.result.now ≡ c.args.fields.now = fields_back fs xs c.items-items.ensures in
    let less : described_size c.field-item.result.part < fields_size c.args.fields.now = subst (λ (gs : Fields). described_size c.field-item.result.part < fields_size gs) back (field_smaller xs i x at) in (
      omega (arith, less),
      (
        field_sound xs i x at (subst (λ (gs : Fields). FieldsAreSound gs) (sym back) c.requires.sound),
        field_finite xs i x at (subst (λ (gs : Fields). fields_are_finite gs ≡ true) (sym back) c.requires.finite),
      ),
    )

pub list_fields-returns-in-Err : goal.list_fields-returns-in-Err
list_fields-returns-in-Err t c =
    let xs = c.items-items.result.now in
    let fs = c.args.fields.now in
    let below : c.loop-field.field-index < length c.items-items.result.now = omega arith in
    field_stop xs fs c.loop-field.field-index c.field-item.result c.loop-field.sets.items c.in-Err.fault (fields_back fs xs c.items-items.ensures) below c.field-item.is c.in-Err.ensures c.loop-field.invariant

pub list_fields-loop-field-preserved : goal.list_fields-loop-field-preserved
list_fields-loop-field-preserved t c =
    let xs = c.items-items.result.now in
    let i = c.loop-field.field-index in
    let below : c.loop-field.field-index < length c.items-items.result.now = omega arith in
    subst (λ (zs : List Val). ListsRest (sets_of (fields_of xs)) (sets_of (fields_of (drop (i + 1) xs))) zs) (sym c.in_ok-push_value-in-Ok.ensures)
    (field_step xs i c.field-item.result c.loop-field.sets.items c.in-Ok.set below c.field-item.is c.in-Ok.ensures c.loop-field.invariant)

pub list_fields-returns : goal.list_fields-returns
list_fields-returns t c =
    let xs = c.items-items.result.now in
    let fs = c.args.fields.now in
    let passed : length c.items-items.result.now ≤ c.loop-field.field-index = omega arith in
    field_end xs fs c.loop-field.field-index c.loop-field.sets.items (fields_back fs xs c.items-items.ensures) passed c.loop-field.invariant
