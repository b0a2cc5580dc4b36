use Rattle.logs_files.proofs.PlaceLemmas.{placed_at}
use Rattle.logs_files.proofs.placing.placed_lines.Goals as goal

pub loop-place-preserved : goal.loop-place-preserved
loop-place-preserved c =
    placed_at c.args.files.now c.args.order.now c.loop-place.place-index _ c.loop-place.lines c.push_step.new.lines c.loop-place-test.true c.loop-place.invariant
    c.in_ok-push_step.ensures
