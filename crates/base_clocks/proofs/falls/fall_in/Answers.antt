use Rattle.std.proofs.Common.{◌≤◌, length, arith}
use Rattle.base_clocks.proofs.Numbers.{found_fall, none_at_all, none_further}
use Rattle.base_clocks.proofs.falls.fall_in.Goals as goal

pub returns-then-falls : goal.returns-then-falls
returns-then-falls c =
    found_fall c.args.stamps.now c.args.other.now c.loop-stamp.stamp-index c.stamp-item.result c.loop-stamp-test.true c.stamp-item.is c.loop-stamp.invariant (c.falls.ensures.0 c.if-falls.true)

pub loop-stamp-preserved : goal.loop-stamp-preserved
loop-stamp-preserved c =
    none_further c.args.stamps.now c.args.other.now c.loop-stamp.stamp-index c.stamp-item.result c.falls.result c.loop-stamp-test.true c.stamp-item.is c.loop-stamp.invariant c.falls.ensures c.if-falls.false

pub returns : goal.returns
returns c =
    let end : length c.args.stamps.now ≤ c.loop-stamp.stamp-index = grind arith in
    none_at_all c.args.stamps.now c.args.other.now c.loop-stamp.stamp-index end c.loop-stamp.invariant
