use Rattle.values_core.proofs.Entries.{one_more}
use Rattle.values_core.proofs.value.making.entries_from.Goals as goal

pub loop-key-preserved : goal.loop-key-preserved
loop-key-preserved c =
    one_more c.loop-key.entries.items _ c.loop-key.yielded (record { key = c.in-Some.key; value = c.in-Some.value }) c.in_ok-push.ensures.items c.loop-key.invariant
