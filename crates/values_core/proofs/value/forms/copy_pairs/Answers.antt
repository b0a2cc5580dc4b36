use Rattle.std.proofs.Common.{◌<◌, length, sym, ◌∙◌, arith}
use Rattle.values_core.proofs.Entries.{entries_more}
use Rattle.values_core.proofs.value.forms.copy_pairs.Goals as goal

pub loop-entry-preserved : goal.loop-entry-preserved
loop-entry-preserved c =
    let below : c.loop-entry.entry-index < length c.deref-entry-items.result.now = omega arith in
    c.in_ok-push.ensures.items
    ∙ rw (c.in_ok-key.ensures, c.in_ok-value.ensures, c.loop-entry.invariant) (sym (entries_more c.deref-entry-items.result.now c.loop-entry.entry-index c.entry-item.result below c.entry-item.is))
