use Rattle.std.proofs.Common.{arith}
use Rattle.values_core.proofs.Hashing.{entries_more}
use Rattle.values_core.proofs.value.hash.hash_of_pairs.Goals as goal

pub loop-entry-preserved : goal.loop-entry-preserved
loop-entry-preserved c =
    entries_more c.deref-entry-items.result.now c.loop-entry.entry-index c.entry-item.result _ _ _ _ c.entry-item.is c.hash_of.ensures c.mix-hash.ensures c.loop-entry.invariant (omega arith)
