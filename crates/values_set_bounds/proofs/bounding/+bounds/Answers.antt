use Rattle.std.proofs.Common.{◌≡◌, ◌<◌, ◌≤◌, length, suc, ap, sym, ◌∙◌, subst, arith}
use Rattle.values_core.specs.IsValue.{IsValue}
use Rattle.values_sets.specs.DescribedSets.{Described, Fields, Parts, Product, Records}
use Rattle.values_sets.specs.DescribedSizes.{described_size, fields_size, parts_size}
use Rattle.values_sets.specs.DescribedViews.{fields_of, node_view, parts_of}
use Rattle.values_sets.specs.ListedParts.{sets_of}
use Rattle.values_sets.specs.Soundness.{FieldsAreSound, PartsAreSound}
use Rattle.values_sets.specs.declared.described.Field.{Field}
use Rattle.values_sets.proofs.Items.{field_smaller, field_sound, fields_back, part_smaller, part_sound, parts_back}
use Rattle.values_sets.proofs.Loops.{all_of, item_at, none_below, one_more}
use Rattle.values_set_bounds.specs.Bounds.{IsListedWithin}
use Rattle.values_set_bounds.proofs.Decided.{inter_within, minus_within}
use Rattle.values_set_bounds.proofs.Listed.{booleans_within, widened}
use Rattle.values_set_bounds.proofs.Several.{ahead_first, field_end, field_step, part_end, part_step, records_within, tuples_within}
use Rattle.values_set_bounds.proofs.bounding.+bounds.Goals as goal

pub bounds_of-returns-in-Booleans : goal.bounds_of-returns-in-Booleans
bounds_of-returns-in-Booleans t c = subst (λ (d : Described). IsListedWithin d 2 1) (ap node_view (sym c.in-Booleans.is) ∙ c.set.view_is) booleans_within

pub bounds_of_both-returns-in-Some : goal.bounds_of_both-returns-in-Some
bounds_of_both-returns-in-Some t c = inter_within c.args.left.now c.args.right.now c.in-Some.all.members c.in-Some.all.levels c.in-Some.ensures

pub bounds_of_left_alone-returns-in-Some : goal.bounds_of_left_alone-returns-in-Some
bounds_of_left_alone-returns-in-Some t c = minus_within c.args.left.now c.args.right.now c.in-Some.all.members c.in-Some.all.levels c.in-Some.ensures

pub bounds_of_tuples-returns-in-Some : goal.bounds_of_tuples-returns-in-Some
bounds_of_tuples-returns-in-Some t c =
    let ps = c.args.parts.now in
    let n = c.in-Some.inside.members in
    let l = c.in-Some.inside.levels in
    widened (Product ps) n c.around.result.members (suc l) c.around.result.levels (omega (arith, c.around.ensures.members)) (omega (arith, c.around.ensures.levels)) (tuples_within ps n l c.in-Some.ensures)

pub bounds_of_records-returns-in-Some : goal.bounds_of_records-returns-in-Some
bounds_of_records-returns-in-Some t c =
    let fs = c.args.fields.now in
    let n = c.in-Some.inside.members in
    let l = c.in-Some.inside.levels in
    widened (Records fs) n c.around.result.members (suc l) c.around.result.levels (omega (arith, c.around.ensures.members)) (omega (arith, c.around.ensures.levels))
    (records_within fs n l c.requires.0 c.requires.1 c.in-Some.ensures)

pub bounds_of_parts-loop-part-init : goal.bounds_of_parts-loop-part-init
bounds_of_parts-loop-part-init t c = ahead_first (parts_of c.items-items.result.now)

pub bounds_of_parts-bounds_of-requires : goal.bounds_of_parts-bounds_of-requires
bounds_of_parts-bounds_of-requires t c =
    let xs = c.items-items.result.now in
    let below : c.loop-part.part-index < length c.items-items.result.now = omega arith in
    let at = item_at xs c.loop-part.part-index c.part-item.result below c.part-item.is in
    let back : parts_of c.items-items.result.now ≡ c.args.parts.now = parts_back c.args.parts.now xs c.items-items.ensures in
    let less : described_size c.part-item.result < parts_size c.args.parts.now = subst (λ (qs : Parts). described_size c.part-item.result < parts_size qs) back (part_smaller xs c.loop-part.part-index c.part-item.result at) in
    (omega (arith, less), part_sound xs c.loop-part.part-index c.part-item.result at (subst (λ (qs : Parts). PartsAreSound qs) (sym back) c.requires))

pub bounds_of_parts-loop-part-preserved : goal.bounds_of_parts-loop-part-preserved
bounds_of_parts-loop-part-preserved t c =
    let xs = c.items-items.result.now in
    let below : c.loop-part.part-index < length c.items-items.result.now = omega arith in
    let e = c.in-Some-beside.ensures in
    part_step xs c.loop-part.part-index c.part-item.result c.loop-part.inside.members c.loop-part.inside.levels c.in-Some.other.members c.in-Some.other.levels c.in-Some-beside.more.members c.in-Some-beside.more.levels
    below c.part-item.is e.0 e.1 e.2 e.3 c.in-Some.ensures c.loop-part.invariant

pub bounds_of_parts-returns : goal.bounds_of_parts-returns
bounds_of_parts-returns t c =
    let xs = c.items-items.result.now in
    let passed : length c.items-items.result.now ≤ c.loop-part.part-index = omega arith in
    let short : length c.items-items.result.now ≤ 100000 = omega arith in
    part_end xs c.args.parts.now c.loop-part.part-index c.loop-part.inside.members c.loop-part.inside.levels (parts_back c.args.parts.now xs c.items-items.ensures) short passed c.loop-part.invariant

pub bounds_of_fields-loop-field-init : goal.bounds_of_fields-loop-field-init
bounds_of_fields-loop-field-init t c = (ahead_first (sets_of (fields_of c.items-items.result.now)), none_below (λ (x : Field). IsValue x.name) c.items-items.result.now)

pub bounds_of_fields-bounds_of-requires : goal.bounds_of_fields-bounds_of-requires
bounds_of_fields-bounds_of-requires t c =
    let xs = c.items-items.result.now in
    let below : c.loop-field.field-index < length c.items-items.result.now = omega arith in
    let at = item_at xs c.loop-field.field-index c.field-item.result below c.field-item.is in
    let back : fields_of c.items-items.result.now ≡ c.args.fields.now = fields_back c.args.fields.now xs c.items-items.ensures in
    let less : described_size c.field-item.result.part < fields_size c.args.fields.now = subst (λ (gs : Fields). described_size c.field-item.result.part < fields_size gs) back (field_smaller xs c.loop-field.field-index c.field-item.result at) in
    (omega (arith, less), field_sound xs c.loop-field.field-index c.field-item.result at (subst (λ (gs : Fields). FieldsAreSound gs) (sym back) c.requires))

pub bounds_of_fields-loop-field-preserved : goal.bounds_of_fields-loop-field-preserved
bounds_of_fields-loop-field-preserved t c =
    let xs = c.items-items.result.now in
    let below : c.loop-field.field-index < length c.items-items.result.now = omega arith in
    let at = item_at xs c.loop-field.field-index c.field-item.result below c.field-item.is in
    let e = c.in-Some-beside.ensures in (
      field_step xs c.loop-field.field-index c.field-item.result c.loop-field.inside.members c.loop-field.inside.levels c.in-Some.other.members c.in-Some.other.levels c.in-Some-beside.more.members c.in-Some-beside.more.levels
          below c.field-item.is e.0 e.1 e.2 e.3 c.in-Some.ensures c.loop-field.invariant.0,
      one_more (λ (x : Field). IsValue x.name) xs c.loop-field.field-index c.field-item.result at c.is_value.ensures c.loop-field.invariant.1,
    )

pub bounds_of_fields-returns : goal.bounds_of_fields-returns
bounds_of_fields-returns t c =
    let xs = c.items-items.result.now in
    let passed : length c.items-items.result.now ≤ c.loop-field.field-index = omega arith in
    let short : length c.items-items.result.now ≤ 100000 = omega arith in
    field_end xs c.args.fields.now c.loop-field.field-index c.loop-field.inside.members c.loop-field.inside.levels (fields_back c.args.fields.now xs c.items-items.ensures) short passed
    (all_of (λ (x : Field). IsValue x.name) xs c.loop-field.field-index passed c.loop-field.invariant.1) c.loop-field.invariant.0
