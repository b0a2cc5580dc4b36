use Rattle.std.proofs.Common.{◌≡◌, ◌≤◌, List, map, sym, ap, subst, arith}
use Rattle.values_core.specs.Data.{Val}
use Rattle.reading_trees.specs.Lits.{depth, depth_of, lits_of}
use Rattle.reading_trees.specs.Literals.{lit_of}
use Rattle.reading_trees.specs.Shallower.{member_deep}
use Rattle.names_literals.specs.Spells.{AreValuesOf}
use Rattle.names_literals.proofs.Members.{members_more, members_stop, set_gives}
use Rattle.names_literals.proofs.literal.+value.Goals as goal

pub member_values-literal_value-requires : goal.member_values-literal_value-requires
member_values-literal_value-requires t c =
    let members = c.items-member-items.result.now in
    let inside : depth (lit_of c.member-item.result) ≤ depth_of (lits_of (map lit_of members)) =
    member_deep members c.loop-member.member-index c.member-item.result c.member-item.result c.loop-member-test.true c.member-item.is in
    let whole : depth_of (lits_of c.args.members.now) ≡ depth_of (lits_of (map lit_of members)) = ap (λ ls. depth_of (lits_of ls)) (sym c.items-member-items.ensures) in
    (omega (arith, inside, whole, c.decreases), tt)

pub literal_value-returns-in-Some : goal.literal_value-returns-in-Some
literal_value-returns-in-Some t c =
    let each = rw c.in-Some.is at c.in_ok-values-in-Set.ensures in
    rw c.in-Set.is (set_gives (lits_of c.in-Set.members) c.in-Some.values.items c.set_of.result each c.set_of.ensures)

pub member_values-returns-in-None : goal.member_values-returns-in-None
member_values-returns-in-None t c =
    let none = rw c.in-None.is at c.in_ok-value.ensures in
    subst (λ ls. (v : List Val) → AreValuesOf (lits_of ls) v → ⊥) c.items-member-items.ensures (members_stop c.items-member-items.result.now c.loop-member.member-index c.member-item.result c.loop-member-test.true c.member-item.is none)

pub member_values-loop-member-preserved : goal.member_values-loop-member-preserved
member_values-loop-member-preserved t c =
    let value = rw c.in-Some.is at c.in_ok-value.ensures in
    rw c.in_ok-push-in-Some.ensures.items (members_more c.items-member-items.result.now c.loop-member.member-index c.member-item.result c.loop-member.values.items c.in-Some.value c.loop-member-test.true c.member-item.is c.loop-member.invariant value)
