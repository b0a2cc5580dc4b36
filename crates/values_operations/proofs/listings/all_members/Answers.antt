use Rattle.std.proofs.Common.{◌<◌, length, ◌∙◌, arith}
use Rattle.values_operations.proofs.Intervals.{all_more}
use Rattle.values_operations.proofs.listings.all_members.Goals as goal

pub loop-set-preserved : goal.loop-set-preserved
loop-set-preserved c =
    let below : c.loop-set.set-index < length c.args.sets.now = omega arith in
    c.in_ok-push_all.ensures
    ∙ rw (c.loop-set.invariant, c.members.ensures) (all_more c.args.sets.now c.loop-set.set-index c.set-item.result below c.set-item.is)
