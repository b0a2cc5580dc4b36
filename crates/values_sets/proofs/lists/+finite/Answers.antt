use Rattle.std.proofs.Common.{◌≡◌, ◌<◌, ◌≤◌, length, ap, sym, ◌∙◌, subst, arith}
use Rattle.values_sets.specs.DescribedSets.{Fields, Parts}
use Rattle.values_sets.specs.DescribedSizes.{described_size, fields_size, parts_size}
use Rattle.values_sets.specs.DescribedViews.{fields_of, parts_of}
use Rattle.values_sets.specs.Listings.{fields_are_finite, parts_are_finite}
use Rattle.values_sets.proofs.Items.{fields_back, parts_back, field_smaller, part_smaller}
use Rattle.values_sets.proofs.Loops.{item_at}
use Rattle.values_sets.proofs.Rests.{parts_stop, parts_end, fields_stop, fields_end}
use Rattle.values_sets.proofs.lists.+finite.Goals as goal

pub fields_have_end-has_end-requires : goal.fields_have_end-has_end-requires
fields_have_end-has_end-requires t c =
    let xs = c.items-items.result.now in
    let below : c.loop-field.field-index < length c.items-items.result.now = omega arith in
    let at = item_at xs c.loop-field.field-index c.field-item.result below c.field-item.is in
    let back : fields_of c.items-items.result.now ≡ c.args.fields.now = fields_back c.args.fields.now xs c.items-items.ensures in
    let less : described_size c.field-item.result.part < fields_size c.args.fields.now = subst (λ (gs : Fields). described_size c.field-item.result.part < fields_size gs) back (field_smaller xs c.loop-field.field-index c.field-item.result at) in
    (omega (arith, less), tt)

pub fields_have_end-returns-then-not-has_end : goal.fields_have_end-returns-then-not-has_end
fields_have_end-returns-then-not-has_end t c =
    let xs = c.items-items.result.now in
    let below : c.loop-field.field-index < length c.items-items.result.now = omega arith in
    let back : fields_of c.items-items.result.now ≡ c.args.fields.now = fields_back c.args.fields.now xs c.items-items.ensures in
    sym (ap fields_are_finite (sym back) ∙ c.loop-field.invariant ∙ fields_stop xs c.loop-field.field-index c.field-item.result below c.field-item.is (sym c.has_end.ensures ∙ c.if-not-has_end.true))

pub fields_have_end-returns : goal.fields_have_end-returns
fields_have_end-returns t c =
    let xs = c.items-items.result.now in
    let passed : length c.items-items.result.now ≤ c.loop-field.field-index = omega arith in
    let back : fields_of c.items-items.result.now ≡ c.args.fields.now = fields_back c.args.fields.now xs c.items-items.ensures in
    sym (ap fields_are_finite (sym back) ∙ c.loop-field.invariant ∙ fields_end xs c.loop-field.field-index passed)

pub parts_have_end-has_end-requires : goal.parts_have_end-has_end-requires
parts_have_end-has_end-requires t c =
    let xs = c.items-items.result.now in
    let below : c.loop-part.part-index < length c.items-items.result.now = omega arith in
    let at = item_at xs c.loop-part.part-index c.part-item.result below c.part-item.is in
    let back : parts_of c.items-items.result.now ≡ c.args.parts.now = parts_back c.args.parts.now xs c.items-items.ensures in
    let less : described_size c.part-item.result < parts_size c.args.parts.now = subst (λ (qs : Parts). described_size c.part-item.result < parts_size qs) back (part_smaller xs c.loop-part.part-index c.part-item.result at) in
    (omega (arith, less), tt)

pub parts_have_end-returns-then-not-has_end : goal.parts_have_end-returns-then-not-has_end
parts_have_end-returns-then-not-has_end t c =
    let xs = c.items-items.result.now in
    let below : c.loop-part.part-index < length c.items-items.result.now = omega arith in
    let back : parts_of c.items-items.result.now ≡ c.args.parts.now = parts_back c.args.parts.now xs c.items-items.ensures in
    sym (ap parts_are_finite (sym back) ∙ c.loop-part.invariant ∙ parts_stop xs c.loop-part.part-index c.part-item.result below c.part-item.is (sym c.has_end.ensures ∙ c.if-not-has_end.true))

pub parts_have_end-returns : goal.parts_have_end-returns
parts_have_end-returns t c =
    let xs = c.items-items.result.now in
    let passed : length c.items-items.result.now ≤ c.loop-part.part-index = omega arith in
    let back : parts_of c.items-items.result.now ≡ c.args.parts.now = parts_back c.args.parts.now xs c.items-items.ensures in
    sym (ap parts_are_finite (sym back) ∙ c.loop-part.invariant ∙ parts_end xs c.loop-part.part-index passed)
