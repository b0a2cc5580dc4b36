use Rattle.std.proofs.Common.{◌≡◌, ◌+◌, ◌*◌, max, drop}
use Rattle.values_sets.specs.DescribedSizes.{described_size, fields_size, parts_size}
use Rattle.values_sets.specs.DescribedViews.{fields_of, parts_of}
use Rattle.values_sets.specs.Listings.{fields_are_finite, parts_are_finite}
use Rattle.values_sets.proofs.lists.+finite.Given as goal

abbrev pub decreases-has_end : goal.decreases-has_end
decreases-has_end l = 2 * described_size l.set.now

abbrev pub decreases-both_have_end : goal.decreases-both_have_end
decreases-both_have_end l = 2 * max (described_size l.left.now) (described_size l.right.now) + 1

abbrev pub decreases-fields_have_end : goal.decreases-fields_have_end
decreases-fields_have_end l = 2 * fields_size l.fields.now + 1

abbrev pub decreases-parts_have_end : goal.decreases-parts_have_end
decreases-parts_have_end l = 2 * parts_size l.parts.now + 1

abbrev pub invariant-fields_have_end-loop-field : goal.invariant-fields_have_end-loop-field
invariant-fields_have_end-loop-field l = fields_are_finite (fields_of l.items) ≡ fields_are_finite (fields_of (drop l.field-index l.items))

abbrev pub invariant-parts_have_end-loop-part : goal.invariant-parts_have_end-loop-part
invariant-parts_have_end-loop-part l = parts_are_finite (parts_of l.items) ≡ parts_are_finite (parts_of (drop l.part-index l.items))
