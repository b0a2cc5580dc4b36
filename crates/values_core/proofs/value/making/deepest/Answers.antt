use Rattle.std.proofs.Common.{◌<◌, length, arith}
use Rattle.values_core.proofs.Depths.{depth_more, canonical_more}
use Rattle.values_core.proofs.value.making.deepest.Goals as goal

pub loop-item-preserved : goal.loop-item-preserved
loop-item-preserved c =
    let below : c.loop-item.item-index < length c.deref-item-items.result.now = omega arith in
    record {
      most = omega (arith, depth_more c.deref-item-items.result.now c.loop-item.item-index c.item-item.result below c.item-item.is);
      canonical = canonical_more c.deref-item-items.result.now c.loop-item.item-index c.item-item.result below c.item-item.is c.loop-item.invariant.canonical c.depth_of.ensures.canonical;
    }
