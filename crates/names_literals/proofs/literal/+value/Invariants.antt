use Rattle.std.proofs.Common.{take, map, ◌+◌, ◌*◌}
use Rattle.reading_trees.specs.Lits.{lits_of, depth, depth_of}
use Rattle.reading_trees.specs.Literals.{lit_of}
use Rattle.names_literals.specs.Spells.{AreValuesOf}
use Rattle.names_literals.proofs.literal.+value.Given as goal

abbrev pub decreases-literal_value : goal.decreases-literal_value
decreases-literal_value l = 2 * depth (lit_of l.literal.now)

abbrev pub decreases-member_values : goal.decreases-member_values
decreases-member_values l = 2 * depth_of (lits_of l.members.now) + 1

abbrev pub invariant-member_values-loop-member : goal.invariant-member_values-loop-member
invariant-member_values-loop-member l = AreValuesOf (lits_of (map lit_of (take l.member-index l.member-items))) l.values.items
