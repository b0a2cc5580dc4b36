use Rattle.std.proofs.Common.{arith, length-append}
use Rattle.values_json.proofs.ReadLemmas.{items_more, items_stop}
use Rattle.logs_lines.proofs.values.read_values.Goals as goal

pub returns-in-None-clause-each : goal.returns-in-None-clause-each
returns-in-None-clause-each c =
    let none = rw c.in-None.is at c.in_ok-value.ensures in
    items_stop c.args.items.now c.loop-item.item-index c.item-item.result c.loop-item-test.true c.item-item.is none

pub loop-item-preserved : goal.loop-item-preserved
loop-item-preserved c =
    let read = rw c.in-Some.is at c.in_ok-value.ensures in
    rw c.in_ok-push-in-Some.ensures.pushed (
      items_more c.args.items.now c.loop-item.item-index c.item-item.result c.loop-item.values c.in-Some.value c.loop-item-test.true c.item-item.is c.loop-item.invariant.0 read,
      omega (arith, c.loop-item.invariant.1, length-append c.loop-item.values),
    )
