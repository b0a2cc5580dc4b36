use Rattle.std.proofs.Common.{◌<◌, List, length, map, arith}
use Rattle.values_core.specs.Data.{Val}
use Rattle.eval_parts.proofs.Loops.{cut_at, cut_mapped}
use Rattle.eval_parts.proofs.Walking.{started}
use Rattle.eval_parts.proofs.bound_values.start.Goals as goal
use denote.Ref.{Bor}

abbrev members : Bor (List Val) → List Val
members x = x.now

pub loop-preserved : goal.loop-preserved
loop-preserved c =
    let lists = c.args.lists.now in
    let below : c.loop.index < length c.args.lists.now = omega (arith, c.loop-test.true) in
    let cut = cut_mapped members lists c.loop.index c.loop-item.result (cut_at lists c.loop.index c.loop-item.result below c.loop-item.is) in
    started (map members lists) c.loop.index c.loop-item.result.now c.loop.places.items c.push.new.self.items cut c.in_ok-push.ensures.items c.loop.invariant
