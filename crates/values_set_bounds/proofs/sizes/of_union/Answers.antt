use Rattle.std.proofs.Common.{◌≡◌, ◌+◌, ◌≤◌, max, arith}
use Rattle.values_sets.specs.DescribedSets.{Union}
use Rattle.values_set_bounds.proofs.Listed.{union_within, widened}
use Rattle.values_set_bounds.proofs.sizes.of_union.Goals as goal

pub returns-in-Some : goal.returns-in-Some
returns-in-Some c d e v w =
    let n = c.args.left.members in
    let m = c.args.right.members in
    let l = c.args.left.levels in
    let k = c.args.right.levels in
    let sum : c.in-Some.members ≡ c.args.left.members + c.args.right.members = c.in-Some.ensures.1 in
    let fit : c.args.left.members + c.args.right.members ≤ 100000 = omega (arith, sum) in
    widened (Union d e) (n + m) c.in-Some.members (max l k) c.max.result (omega (arith, sum)) (omega (arith, c.max.ensures)) (union_within d e n m l k fit v w)
