use Rattle.std.proofs.Common.{suc, ◌+◌, ◌≤◌, arith}
use Rattle.values_sets.specs.DescribedSets.{PowerOf}
use Rattle.values_set_bounds.proofs.Listed.{subsets_within, widened}
use Rattle.values_set_bounds.proofs.sizes.of_subsets.Goals as goal

pub returns-in-Some : goal.returns-in-Some
returns-in-Some c d w =
    let n = c.args.inside.members in
    let l = c.args.inside.levels in
    let k = c.in-Some.members in
    let fits : c.args.inside.levels ≤ 31 = omega arith in
    widened (PowerOf d) k k (suc l) (l + 1) (omega arith) (omega arith) (subsets_within d n l k c.in-Some.ensures.0 c.in-Some.ensures.1 fits w)
