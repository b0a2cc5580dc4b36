use Rattle.logs_shapes.specs.Parts.{update_of}
use Rattle.logs_lines.specs.Values.{UpdateReads}
use Rattle.logs_lines.proofs.ItemLemmas.{each_more, each_stop}
use Rattle.logs_lines.proofs.parts.read_updates.Goals as goal

pub returns-in-None : goal.returns-in-None
returns-in-None g c =
    let none = rw c.in-None.is at c.in_ok-update.ensures in
    each_stop update_of (UpdateReads (g.N.SpecNames.setting c.args.names.now)) c.args.items.now c.loop-item.item-index c.item-item.result c.loop-item-test.true c.item-item.is none

pub loop-item-preserved : goal.loop-item-preserved
loop-item-preserved g c =
    let read = rw c.in-Some.is at c.in_ok-update.ensures in
    rw c.in_ok-push-in-Some.ensures.pushed
    (each_more update_of (UpdateReads (g.N.SpecNames.setting c.args.names.now)) c.args.items.now c.loop-item.item-index c.item-item.result c.loop-item.updates c.in-Some.update c.loop-item-test.true c.item-item.is c.loop-item.invariant read)
