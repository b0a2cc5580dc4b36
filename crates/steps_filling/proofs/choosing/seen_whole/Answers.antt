use Rattle.std.proofs.Common.{◌<◌, length, arith}
use Rattle.steps_filling.proofs.AtHand.{whole_seen}
use Rattle.steps_filling.proofs.choosing.seen_whole.Goals as goal

pub returns-then-is_whole : goal.returns-then-is_whole
returns-then-is_whole c =
    let below : c.loop-see.see-index < length c.args.sees.now = omega arith in
    whole_seen c.args.sees.now c.loop-see.see-index c.see-item.result c.args.number.0 below c.see-item.is (c.is_whole.ensures c.if-is_whole.true)
