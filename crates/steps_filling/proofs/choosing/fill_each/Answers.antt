use Rattle.std.proofs.Common.{◌<◌, ◌≤◌, length, arith}
use Rattle.steps_filling.proofs.FillingLemmas.{filled_all, filled_more}
use Rattle.steps_filling.proofs.choosing.fill_each.Goals as goal

pub loop-value-preserved : goal.loop-value-preserved
loop-value-preserved c =
    let below : c.loop-value.value-index < length c.args.values.now = omega arith in
    filled_more c.args.sees.now c.args.number.0 c.args.places.now c.args.values.now c.loop-value.value-index c.value-item.result c.loop-value.found.items c.add_filled.new.found.items below c.value-item.is c.in_ok-add_filled.ensures c.loop-value.invariant

pub returns : goal.returns
returns c =
    let passed : length c.args.values.now ≤ c.loop-value.value-index = omega arith in
    filled_all c.args.sees.now c.args.number.0 c.args.values.now c.loop-value.value-index c.args.places.now c.loop-value.found.items passed c.loop-value.invariant
