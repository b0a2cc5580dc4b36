use Rattle.std.proofs.Common.{◌+◌, ◌*◌, max, drop}
use Rattle.values_core.specs.IsValue.{IsValue}
use Rattle.values_sets.specs.DescribedSizes.{described_size, fields_size, parts_size}
use Rattle.values_sets.specs.DescribedViews.{fields_of, parts_of}
use Rattle.values_sets.specs.ListedParts.{sets_of}
use Rattle.values_sets.proofs.Loops.{EachBelow}
use Rattle.values_set_bounds.proofs.Several.{Ahead}
use Rattle.values_set_bounds.proofs.bounding.+bounds.Given as goal

abbrev pub decreases-bounds_of : goal.decreases-bounds_of
decreases-bounds_of l = 2 * described_size l.set.now

abbrev pub decreases-bounds_of_subsets : goal.decreases-bounds_of_subsets
decreases-bounds_of_subsets l = 2 * described_size l.part.now + 1

abbrev pub decreases-bounds_of_functions : goal.decreases-bounds_of_functions
decreases-bounds_of_functions l = 2 * described_size l.part.now + 1

abbrev pub decreases-bounds_of_union : goal.decreases-bounds_of_union
decreases-bounds_of_union l = 2 * max (described_size l.left.now) (described_size l.right.now) + 1

abbrev pub decreases-bounds_of_both : goal.decreases-bounds_of_both
decreases-bounds_of_both l = 2 * max (described_size l.left.now) (described_size l.right.now) + 1

abbrev pub decreases-bounds_of_left_alone : goal.decreases-bounds_of_left_alone
decreases-bounds_of_left_alone l = 2 * max (described_size l.left.now) (described_size l.right.now) + 1

abbrev pub decreases-bounds_of_tuples : goal.decreases-bounds_of_tuples
decreases-bounds_of_tuples l = 2 * parts_size l.parts.now + 1

abbrev pub decreases-bounds_of_records : goal.decreases-bounds_of_records
decreases-bounds_of_records l = 2 * fields_size l.fields.now + 1

abbrev pub decreases-bounds_of_parts : goal.decreases-bounds_of_parts
decreases-bounds_of_parts l = 2 * parts_size l.parts.now

abbrev pub decreases-bounds_of_fields : goal.decreases-bounds_of_fields
decreases-bounds_of_fields l = 2 * fields_size l.fields.now

abbrev pub invariant-bounds_of_parts-loop-part : goal.invariant-bounds_of_parts-loop-part
invariant-bounds_of_parts-loop-part l = Ahead (parts_of l.items) (parts_of (drop l.part-index l.items)) l.inside.members l.inside.levels

abbrev pub invariant-bounds_of_fields-loop-field : goal.invariant-bounds_of_fields-loop-field
invariant-bounds_of_fields-loop-field l = Ahead (sets_of (fields_of l.items)) (sets_of (fields_of (drop l.field-index l.items))) l.inside.members l.inside.levels × EachBelow (λ x. IsValue x.name) l.items l.field-index
