use Rattle.std.proofs.Common.{◌<◌, length, arith}
use Rattle.values_core.proofs.Depths.{pairs_more, pairs_canonical_more}
use Rattle.values_core.proofs.value.making.deepest_pair.Goals as goal

pub loop-pair-preserved : goal.loop-pair-preserved
loop-pair-preserved c =
    let below : c.loop-pair.pair-index < length c.deref-pair-items.result.now = omega arith in
    record {
      most = omega (arith, pairs_more c.deref-pair-items.result.now c.loop-pair.pair-index c.pair-item.result below c.pair-item.is);
      canonical = pairs_canonical_more c.deref-pair-items.result.now c.loop-pair.pair-index c.pair-item.result below c.pair-item.is c.loop-pair.invariant.canonical c.depth_of.ensures.canonical c.depth_of-in-loop-pair.ensures.canonical;
    }
