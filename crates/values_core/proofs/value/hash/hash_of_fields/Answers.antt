use Rattle.std.proofs.Common.{arith}
use Rattle.values_core.proofs.Hashing.{fields_more}
use Rattle.values_core.proofs.value.hash.hash_of_fields.Goals as goal

pub loop-field-preserved : goal.loop-field-preserved
loop-field-preserved c =
    fields_more c.deref-field-items.result.now c.loop-field.field-index c.field-item.result _ _ _ _ c.field-item.is c.hash_of.ensures c.mix-hash.ensures c.loop-field.invariant (omega arith)
