use Rattle.std.proofs.Common.{◌++◌, ◌+◌, ◌/◌, ◌<◌, List, length, drop, ap, ◌∙◌, arith}
use Rattle.values_core.specs.Data.{Val}
use Rattle.values_operations.specs.Subsets.{subset}
use Rattle.values_operations.proofs.Subsets.{subset_step}
use Rattle.values_operations.proofs.products.some_of.Goals as goal

pub loop-i-preserved : goal.loop-i-preserved
loop-i-preserved c =
    let xs = c.args.members.now in
    let below : c.loop-i.i < length xs = omega arith in
    ap (λ (ys : List Val). ys ++ subset (drop (c.loop-i.i + 1) xs) (c.loop-i.rest / 2)) c.in_ok-push_if.ensures
    ∙ subset_step c.loop-i.some.items xs c.loop-i.i c.loop-i.rest c.index-members-i.result below c.index-members-i.is
    ∙ c.loop-i.invariant
