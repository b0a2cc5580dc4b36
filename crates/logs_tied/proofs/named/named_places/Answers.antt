use Rattle.logs_tied.proofs.Choosing.{places_more}
use Rattle.logs_tied.proofs.named.named_places.Goals as goal

pub loop-shown-preserved : goal.loop-shown-preserved
loop-shown-preserved c =
    places_more c.args.states.now c.loop-shown.shown-index c.shown-item.result c.loop-shown.places.items c.in_ok-more.more.items c.loop-shown-test.true c.shown-item.is
    c.in_ok-more.ensures c.loop-shown.invariant
