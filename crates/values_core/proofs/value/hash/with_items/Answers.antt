use Rattle.std.proofs.Common.{arith}
use Rattle.values_core.proofs.Hashing.{members_more}
use Rattle.values_core.proofs.value.hash.with_items.Goals as goal

pub loop-item-preserved : goal.loop-item-preserved
loop-item-preserved c =
    members_more c.deref-item-items.result.now c.loop-item.item-index c.item-item.result _ _ _ _ c.item-item.is c.hash_of.ensures c.mix-hash.ensures c.loop-item.invariant (omega arith)
