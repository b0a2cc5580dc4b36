use Rattle.std.proofs.Common.{◌≡◌, ◌++◌, ◌+◌, ◌*◌, drop, map}
use Rattle.reading_trees.specs.Lits.{lits_of, depth, depth_of}
use Rattle.reading_trees.specs.Literals.{lit_of}
use Rattle.names_specification.proofs.copies.+literal.Given as goal

abbrev pub decreases-copy_literal : goal.decreases-copy_literal
decreases-copy_literal l = 2 * depth (lit_of l.literal.now)

abbrev pub decreases-copy_members : goal.decreases-copy_members
decreases-copy_members l = 2 * depth_of (lits_of l.members.now) + 1

abbrev pub invariant-copy_members-loop-member : goal.invariant-copy_members-loop-member
invariant-copy_members-loop-member l = l.copy ++ map lit_of (drop l.member-index l.member-items) ≡ map lit_of l.member-items
