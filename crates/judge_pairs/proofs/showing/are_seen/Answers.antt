use Rattle.std.proofs.Common.{arith, true, false, ◌≡◌}
use Rattle.judge_pairs.proofs.Seen.{one_more, one_unseen}
use Rattle.judge_pairs.proofs.showing.are_seen.Goals as goal

pub returns-then-not-is_seen : goal.returns-then-not-is_seen
returns-then-not-is_seen c =
    let off : c.is_seen.result ≡ false = grind arith in
    one_unseen c.args.sees.now c.args.state.now c.loop-see.see-index c.see-item.result (omega arith) c.see-item.is c.is_seen.result off c.is_seen.ensures

pub loop-see-preserved : goal.loop-see-preserved
loop-see-preserved c =
    let yes : c.is_seen.result ≡ true = grind arith in
    one_more c.args.sees.now c.args.state.now c.loop-see.see-index c.see-item.result (omega arith) c.see-item.is c.loop-see.invariant (c.is_seen.ensures.0 yes)
