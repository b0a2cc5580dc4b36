use Rattle.std.proofs.Common.{◌+◌, ◌*◌, max, drop}
use Rattle.values_sets.specs.DescribedSizes.{described_size, fields_size, parts_size}
use Rattle.values_sets.specs.DescribedViews.{fields_of, parts_of}
use Rattle.values_sets.specs.ListedParts.{sets_of}
use Rattle.values_sets.proofs.Rests.{ListsRest}
use Rattle.values_sets.proofs.lists.+listing.Given as goal

abbrev pub decreases-listing : goal.decreases-listing
decreases-listing l = 3 * described_size l.set.now

abbrev pub decreases-subsets : goal.decreases-subsets
decreases-subsets l = 3 * described_size l.part.now + 1

abbrev pub decreases-functions_into : goal.decreases-functions_into
decreases-functions_into l = 3 * described_size l.part.now + 1

abbrev pub decreases-either : goal.decreases-either
decreases-either l = 3 * max (described_size l.left.now) (described_size l.right.now) + 1

abbrev pub decreases-both : goal.decreases-both
decreases-both l = 3 * max (described_size l.left.now) (described_size l.right.now) + 1

abbrev pub decreases-left_alone : goal.decreases-left_alone
decreases-left_alone l = 3 * max (described_size l.left.now) (described_size l.right.now) + 1

abbrev pub decreases-tuples_of : goal.decreases-tuples_of
decreases-tuples_of l = 3 * parts_size l.parts.now + 2

abbrev pub decreases-records_of : goal.decreases-records_of
decreases-records_of l = 3 * fields_size l.fields.now + 2

abbrev pub decreases-list_parts : goal.decreases-list_parts
decreases-list_parts l = 3 * parts_size l.parts.now + 1

abbrev pub decreases-list_fields : goal.decreases-list_fields
decreases-list_fields l = 3 * fields_size l.fields.now + 1

abbrev pub invariant-list_parts-loop-part : goal.invariant-list_parts-loop-part
invariant-list_parts-loop-part l = ListsRest (parts_of l.items) (parts_of (drop l.part-index l.items)) l.sets.items

abbrev pub invariant-list_fields-loop-field : goal.invariant-list_fields-loop-field
invariant-list_fields-loop-field l = ListsRest (sets_of (fields_of l.items)) (sets_of (fields_of (drop l.field-index l.items))) l.sets.items
