use Rattle.std.proofs.Common.{◌<◌, length, sym, ◌∙◌, arith}
use Rattle.values_core.proofs.Forms.{fields_more}
use Rattle.values_core.proofs.value.forms.copy_fields.Goals as goal

pub loop-field-preserved : goal.loop-field-preserved
loop-field-preserved c =
    let below : c.loop-field.field-index < length c.deref-field-items.result.now = omega arith in
    c.in_ok-push.ensures.items
    ∙ rw (c.string.ensures, c.in_ok-name.ensures, c.in_ok-value.ensures, c.loop-field.invariant) (sym (fields_more c.deref-field-items.result.now c.loop-field.field-index c.field-item.result below c.field-item.is))
