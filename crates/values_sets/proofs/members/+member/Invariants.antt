use Rattle.std.proofs.Common.{◌+◌, ◌*◌, max}
use Rattle.values_core.specs.Functions.{values_in}
use Rattle.values_sets.specs.DescribedSizes.{described_size, fields_size, parts_size}
use Rattle.values_sets.specs.Membership.{Belongs}
use Rattle.values_sets.proofs.Domains.{MapsInto, HasField}
use Rattle.values_sets.proofs.Loops.{EachBelow}
use Rattle.values_sets.proofs.Tuples.{PairsBelow}
use Rattle.values_sets.proofs.members.+member.Given as goal

abbrev pub decreases-member : goal.decreases-member
decreases-member l = 3 * described_size l.set.now

abbrev pub decreases-is_sequence_of : goal.decreases-is_sequence_of
decreases-is_sequence_of l = 3 * described_size l.part.now + 1

abbrev pub decreases-is_set_of : goal.decreases-is_set_of
decreases-is_set_of l = 3 * described_size l.part.now + 1

abbrev pub decreases-is_function_into : goal.decreases-is_function_into
decreases-is_function_into l = 3 * described_size l.part.now + 1

abbrev pub decreases-is_record : goal.decreases-is_record
decreases-is_record l = 3 * fields_size l.fields.now + 1

abbrev pub decreases-is_tuple : goal.decreases-is_tuple
decreases-is_tuple l = 3 * parts_size l.parts.now + 1

abbrev pub decreases-is_in_either : goal.decreases-is_in_either
decreases-is_in_either l = 3 * max (described_size l.left.now) (described_size l.right.now) + 1

abbrev pub decreases-is_in_both : goal.decreases-is_in_both
decreases-is_in_both l = 3 * max (described_size l.left.now) (described_size l.right.now) + 1

abbrev pub decreases-is_in_left_alone : goal.decreases-is_in_left_alone
decreases-is_in_left_alone l = 3 * max (described_size l.left.now) (described_size l.right.now) + 1

abbrev pub invariant-is_sequence_of-loop-i : goal.invariant-is_sequence_of-loop-i
invariant-is_sequence_of-loop-i l = EachBelow (Belongs l.part) (values_in l.v) l.i

abbrev pub invariant-is_set_of-loop-item : goal.invariant-is_set_of-loop-item
invariant-is_set_of-loop-item l = EachBelow (Belongs l.part) l.items l.item-index

abbrev pub invariant-is_function_into-loop-key : goal.invariant-is_function_into-loop-key
invariant-is_function_into-loop-key l = EachBelow (MapsInto l.part l.v) l.keys l.key-index

abbrev pub invariant-is_record-loop-field : goal.invariant-is_record-loop-field
invariant-is_record-loop-field l = EachBelow (HasField l.v) l.items l.field-index

abbrev pub invariant-is_tuple-loop-i : goal.invariant-is_tuple-loop-i
invariant-is_tuple-loop-i l = PairsBelow l.items (values_in l.v) l.i
