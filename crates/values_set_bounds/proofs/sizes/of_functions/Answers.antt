use Rattle.std.proofs.Common.{◌≡◌, suc, ◌+◌, ◌^◌, ◌≤◌, List, length, ap, ◌∙◌, arith}
use Rattle.values_core.specs.Data.{Val, depth}
use Rattle.values_core.specs.Sets.{items_of}
use Rattle.values_sets.specs.DescribedSets.{Functions}
use Rattle.values_set_bounds.proofs.Listed.{functions_within, widened}
use Rattle.values_set_bounds.proofs.sizes.of_functions.Goals as goal

pub returns-in-Some : goal.returns-in-Some
returns-in-Some c d w =
    let a = c.args.domain.now in
    let n = c.args.inside.members in
    let m = c.args.inside.levels in
    let l = c.max-levels.result in
    let k = c.in-Some.members in
    let fits : c.max-levels.result ≤ 31 = omega arith in
    let keys : c.in-Some.members ≡ c.args.inside.members ^ length (items_of c.args.domain.now) = c.in-Some.ensures.0 ∙ ap (λ (vs : List Val). c.args.inside.members ^ length vs) c.members.ensures in
    let low : depth c.args.domain.now ≤ c.max-levels.result = omega (arith, c.levels.ensures, c.max-levels.ensures) in
    let flat : c.args.inside.levels ≤ c.max-levels.result = omega (arith, c.max-levels.ensures) in
    widened (Functions a d) k k (suc l) (l + 1) (omega arith) (omega arith)
    (functions_within a d n m l k c.is_value.ensures c.requires w keys c.in-Some.ensures.1 low flat fits)
