use Rattle.std.proofs.Common.{◌≡◌, ◌≤◌, map, sym, ap, arith}
use Rattle.reading_trees.specs.Lits.{depth, depth_of, lits_of}
use Rattle.reading_trees.specs.Literals.{lit_of}
use Rattle.reading_trees.specs.Shallower.{member_deep}
use Rattle.names_specification.proofs.copies.+literal.Goals as goal

pub copy_members-copy_literal-requires : goal.copy_members-copy_literal-requires
copy_members-copy_literal-requires t c =
    let members = c.items-member-items.result.now in
    let inside : depth (lit_of c.member-item.result) ≤ depth_of (lits_of (map lit_of members)) =
    member_deep members c.loop-member.member-index c.member-item.result c.member-item.result c.loop-member-test.true c.member-item.is in
    let whole : depth_of (lits_of c.args.members.now) ≡ depth_of (lits_of (map lit_of members)) = ap (λ ls. depth_of (lits_of ls)) (sym c.items-member-items.ensures) in
    omega (arith, inside, whole, c.decreases)
