use Rattle.std.proofs.Common.{◌≡◌, ◌<◌, ◌≤◌, List, length, ap, sym, subst, arith}
use Rattle.std.specs.Prelude.{Contains}
use Rattle.values_core.specs.Data.{Val}
use Rattle.values_core.specs.Functions.{values_in}
use Rattle.values_core.specs.Sets.{items_of, count_of}
use Rattle.values_sets.specs.DescribedSets.{Functions, Records, Product, Fields, Parts}
use Rattle.values_sets.specs.DescribedSizes.{described_size, fields_size, parts_size}
use Rattle.values_sets.specs.DescribedViews.{fields_of, parts_of}
use Rattle.values_sets.specs.Membership.{Belongs}
use Rattle.values_sets.specs.Soundness.{FieldsAreSound, PartsAreSound}
use Rattle.values_sets.proofs.Domains.{MapsInto, HasField, into_all, as_many_keys, key_is_missing, value_is_outside, record_yes, record_count, record_missing, record_outside}
use Rattle.values_sets.proofs.Items.{fields_back, parts_back, field_smaller, part_smaller, field_sound, part_sound}
use Rattle.values_sets.proofs.Loops.{denied, granted, refuted, confirmed, item_at, one_more, all_of, is_in}
use Rattle.values_sets.proofs.Tuples.{is_a_sequence, one_more_pair, tuple_yes, tuple_count, tuple_outside, no_value_missing}
use Rattle.values_sets.proofs.members.+member.Goals as goal

pub member-returns-in-Functions : goal.member-returns-in-Functions
member-returns-in-Functions t c =
    let e = c.deref-in-Functions.ensures in
    rw (← c.set.view_is, c.in-Functions.is, ← e) c.is_function_into.ensures

pub is_function_into-returns-then-len-keys : goal.is_function_into-returns-then-len-keys
is_function_into-returns-then-len-keys t c =
    let a = c.args.domain.now in
    let d = c.args.part.now in
    let f = c.args.v.now in
    denied (Belongs (Functions a d) f) (λ b.
    let count = as_many_keys a d f c.is_value.ensures c.requires.set c.is_value-2.ensures b in
    let long : length c.members-keys.result.now ≡ length (items_of a) = ap (λ (xs : List Val). length xs) c.members-keys.ensures in
    omega (arith, count, long))

pub is_function_into-returns-then-not-member : goal.is_function_into-returns-then-not-member
is_function_into-returns-then-not-member t c =
    denied (Belongs (Functions c.args.domain.now c.args.part.now) c.args.v.now)
    (value_is_outside c.args.domain.now c.args.part.now c.args.v.now c.key-item.result c.in-Some.item.now c.in-Some.ensures
    (refuted (Belongs c.args.part.now c.in-Some.item.now) c.member.result c.member.ensures c.if-not-member.true))

pub is_function_into-returns-in-None : goal.is_function_into-returns-in-None
is_function_into-returns-in-None t c =
    let keys = c.members-keys.result.now in
    let key = c.key-item.result in
    let below : c.loop-key.key-index < length c.members-keys.result.now = omega arith in
    let at = item_at keys c.loop-key.key-index key below c.key-item.is in
    denied (Belongs (Functions c.args.domain.now c.args.part.now) c.args.v.now)
    (key_is_missing c.args.domain.now c.args.part.now c.args.v.now key (subst (λ (xs : List Val). Contains xs key) c.members-keys.ensures (is_in keys c.loop-key.key-index key at)) c.in-None.ensures)

pub is_function_into-loop-key-preserved : goal.is_function_into-loop-key-preserved
is_function_into-loop-key-preserved t c =
    let keys = c.members-keys.result.now in
    let key = c.key-item.result in
    let below : c.loop-key.key-index < length c.members-keys.result.now = omega arith in
    let at = item_at keys c.loop-key.key-index key below c.key-item.is in
    one_more (MapsInto c.args.part.now c.args.v.now) keys c.loop-key.key-index key at
    (c.in-Some.item.now, c.in-Some.ensures, confirmed (Belongs c.args.part.now c.in-Some.item.now) c.member.result c.member.ensures c.if-not-member.false) c.loop-key.invariant

pub is_function_into-returns : goal.is_function_into-returns
is_function_into-returns t c =
    let a = c.args.domain.now in
    let d = c.args.part.now in
    let f = c.args.v.now in
    let keys = c.members-keys.result.now in
    let long : length c.members-keys.result.now ≡ length (items_of c.args.domain.now) = ap (λ (xs : List Val). length xs) c.members-keys.ensures in
    let count : count_of c.args.v.now ≡ length (items_of c.args.domain.now) = omega (arith, long) in
    let passed : length c.members-keys.result.now ≤ c.loop-key.key-index = omega arith in
    let is = c.is_function.ensures in
    granted (Belongs (Functions a d) f)
    (into_all a d f c.is_value.ensures c.requires.set c.is_value-2.ensures (is.0 c.if-not-is_function.false) count
    (λ key g. all_of (MapsInto d f) keys c.loop-key.key-index passed c.loop-key.invariant key (subst (λ (xs : List Val). Contains xs key) (sym c.members-keys.ensures) g)))

pub is_record-returns-then-len-items : goal.is_record-returns-then-len-items
is_record-returns-then-len-items t c =
    let xs = c.items-items.result.now in
    let fs = c.args.fields.now in
    denied (Belongs (Records fs) c.args.v.now) (λ b.
    let count = record_count xs fs c.args.v.now (fields_back fs xs c.items-items.ensures) c.requires.0 c.is_value.ensures b in
    omega (arith, count))

pub is_record-member-requires : goal.is_record-member-requires
is_record-member-requires t c =
    let xs = c.items-items.result.now in
    let fs = c.args.fields.now in
    let below : c.loop-field.field-index < length c.items-items.result.now = omega arith in
    let at = item_at xs c.loop-field.field-index c.field-item.result below c.field-item.is in
    let back : fields_of c.items-items.result.now ≡ c.args.fields.now = fields_back fs xs c.items-items.ensures in
    let less : described_size c.field-item.result.part < fields_size c.args.fields.now = subst (λ (gs : Fields). described_size c.field-item.result.part < fields_size gs) back (field_smaller xs c.loop-field.field-index c.field-item.result at) in
    (omega (arith, less), field_sound xs c.loop-field.field-index c.field-item.result at (subst (λ (gs : Fields). FieldsAreSound gs) (sym back) c.requires.1))

pub is_record-returns-then-not-member : goal.is_record-returns-then-not-member
is_record-returns-then-not-member t c =
    let xs = c.items-items.result.now in
    let fs = c.args.fields.now in
    let x = c.field-item.result in
    let below : c.loop-field.field-index < length c.items-items.result.now = omega arith in
    let at = item_at xs c.loop-field.field-index c.field-item.result below c.field-item.is in
    denied (Belongs (Records fs) c.args.v.now)
    (record_outside xs fs c.args.v.now x c.in-Some.item.now (fields_back fs xs c.items-items.ensures) c.is_value.ensures (is_in xs c.loop-field.field-index x at) c.in-Some.ensures
    (refuted (Belongs x.part c.in-Some.item.now) c.member.result c.member.ensures c.if-not-member.true))

pub is_record-returns-in-None : goal.is_record-returns-in-None
is_record-returns-in-None t c =
    let xs = c.items-items.result.now in
    let fs = c.args.fields.now in
    let x = c.field-item.result in
    let below : c.loop-field.field-index < length c.items-items.result.now = omega arith in
    let at = item_at xs c.loop-field.field-index c.field-item.result below c.field-item.is in
    denied (Belongs (Records fs) c.args.v.now)
    (record_missing xs fs c.args.v.now x (fields_back fs xs c.items-items.ensures) (is_in xs c.loop-field.field-index x at) c.in-None.ensures)

pub is_record-loop-field-preserved : goal.is_record-loop-field-preserved
is_record-loop-field-preserved t c =
    let xs = c.items-items.result.now in
    let x = c.field-item.result in
    let below : c.loop-field.field-index < length c.items-items.result.now = omega arith in
    let at = item_at xs c.loop-field.field-index c.field-item.result below c.field-item.is in
    one_more (HasField c.args.v.now) xs c.loop-field.field-index x at
    (c.in-Some.item.now, c.in-Some.ensures, confirmed (Belongs x.part c.in-Some.item.now) c.member.result c.member.ensures c.if-not-member.false) c.loop-field.invariant

pub is_record-returns : goal.is_record-returns
is_record-returns t c =
    let xs = c.items-items.result.now in
    let fs = c.args.fields.now in
    let f = c.args.v.now in
    let count : count_of c.args.v.now ≡ length c.items-items.result.now = omega arith in
    let passed : length c.items-items.result.now ≤ c.loop-field.field-index = omega arith in
    let is = c.is_function.ensures in
    granted (Belongs (Records fs) f)
    (record_yes xs fs f (fields_back fs xs c.items-items.ensures) c.requires.0 (is.0 c.if-not-is_function.false) count
    (all_of (HasField f) xs c.loop-field.field-index passed c.loop-field.invariant))

pub is_tuple-returns-then-not-is_sequence : goal.is_tuple-returns-then-not-is_sequence
is_tuple-returns-then-not-is_sequence t c =
    let is = c.is_sequence.ensures in
    denied (Belongs (Product c.args.parts.now) c.args.v.now) (λ b.
    let yes = is.1 (is_a_sequence c.args.parts.now c.args.v.now b) in
    let no = c.if-not-is_sequence.true in
    cc (yes, no))

pub is_tuple-returns-then-len-items : goal.is_tuple-returns-then-len-items
is_tuple-returns-then-len-items t c =
    let xs = c.items-items.result.now in
    let ps = c.args.parts.now in
    denied (Belongs (Product ps) c.args.v.now) (λ b.
    let count = tuple_count xs ps c.args.v.now (parts_back ps xs c.items-items.ensures) b in
    omega (arith, count))

pub is_tuple-member-requires : goal.is_tuple-member-requires
is_tuple-member-requires t c =
    let xs = c.items-items.result.now in
    let ps = c.args.parts.now in
    let x = c.index-items-i.result in
    let below : c.loop-i.i < length c.items-items.result.now = omega arith in
    let at = item_at xs c.loop-i.i c.index-items-i.result below c.index-items-i.is in
    let back : parts_of c.items-items.result.now ≡ c.args.parts.now = parts_back ps xs c.items-items.ensures in
    let less : described_size c.index-items-i.result < parts_size c.args.parts.now = subst (λ (qs : Parts). described_size c.index-items-i.result < parts_size qs) back (part_smaller xs c.loop-i.i x at) in
    (omega (arith, less), part_sound xs c.loop-i.i x at (subst (λ (qs : Parts). PartsAreSound qs) (sym back) c.requires))

pub is_tuple-returns-then-not-member : goal.is_tuple-returns-then-not-member
is_tuple-returns-then-not-member t c =
    let xs = c.items-items.result.now in
    let ps = c.args.parts.now in
    let x = c.index-items-i.result in
    let below : c.loop-i.i < length c.items-items.result.now = omega arith in
    let at = item_at xs c.loop-i.i c.index-items-i.result below c.index-items-i.is in
    denied (Belongs (Product ps) c.args.v.now)
    (tuple_outside xs ps c.args.v.now c.loop-i.i x c.in-Some.item.now (parts_back ps xs c.items-items.ensures) at (sym c.in-Some.ensures)
    (refuted (Belongs x c.in-Some.item.now) c.member.result c.member.ensures c.if-not-member.true))

pub is_tuple-returns-in-None : goal.is_tuple-returns-in-None
is_tuple-returns-in-None t c =
    let count : count_of c.args.v.now ≡ length c.items-items.result.now = omega arith in
    let below : c.loop-i.i < length c.items-items.result.now = omega arith in
    let is = c.is_sequence.ensures in
    absurd (no_value_missing c.args.v.now (length c.items-items.result.now) c.loop-i.i (is.0 c.if-not-is_sequence.false) count below (sym c.in-None.ensures))

pub is_tuple-loop-i-preserved : goal.is_tuple-loop-i-preserved
is_tuple-loop-i-preserved t c =
    let xs = c.items-items.result.now in
    let x = c.index-items-i.result in
    let below : c.loop-i.i < length c.items-items.result.now = omega arith in
    let at = item_at xs c.loop-i.i c.index-items-i.result below c.index-items-i.is in
    one_more_pair xs (values_in c.args.v.now) c.loop-i.i x c.in-Some.item.now at (sym c.in-Some.ensures)
    (confirmed (Belongs x c.in-Some.item.now) c.member.result c.member.ensures c.if-not-member.false) c.loop-i.invariant

pub is_tuple-returns : goal.is_tuple-returns
is_tuple-returns t c =
    let xs = c.items-items.result.now in
    let ps = c.args.parts.now in
    let count : count_of c.args.v.now ≡ length c.items-items.result.now = omega arith in
    let passed : length c.items-items.result.now ≤ c.loop-i.i = omega arith in
    let is = c.is_sequence.ensures in
    granted (Belongs (Product ps) c.args.v.now)
    (tuple_yes xs ps c.args.v.now c.loop-i.i (parts_back ps xs c.items-items.ensures) (is.0 c.if-not-is_sequence.false) count passed c.loop-i.invariant)
