use Rattle.actions_forms.proofs.Saying.{some-on, some-end}
use Rattle.std.proofs.Common.{arith}
use Rattle.actions_forms.proofs.arms.fixed_by_some.Goals as goal

pub loop-arm-preserved : goal.loop-arm-preserved
loop-arm-preserved c = some-on c.args.arms.now c.loop-arm.arm-index c.arm-item.result c.loop-arm.all c.united-all.result c.loop-arm-test.true c.arm-item.is c.united-all.ensures c.loop-arm.invariant

pub returns : goal.returns
returns c = some-end c.args.arms.now c.loop-arm.arm-index c.loop-arm.all (omega (arith, c.loop-arm-test.false)) c.loop-arm.invariant
