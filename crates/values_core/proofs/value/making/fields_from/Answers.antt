use Rattle.values_core.proofs.Entries.{one_more_field}
use Rattle.values_core.proofs.Forms.{named_first}
use Rattle.values_core.proofs.value.making.fields_from.Goals as goal

pub into_name-name-requires : goal.into_name-name-requires
into_name-name-requires c = (named_first _ _ c.in-Some.key c.in-Some.value c.in-Some.ensures.steps.0 c.loop-key.invariant.ahead).0

pub loop-key-preserved : goal.loop-key-preserved
loop-key-preserved c = record {
  fields = one_more_field c.loop-key.fields.items _ c.loop-key.yielded (record { name = c.into_name-name.result; value = c.in-Some.value }) c.in-Some.key c.in_ok-push.ensures.items c.into_name-name.ensures c.loop-key.invariant.fields;
  ahead = (named_first _ _ c.in-Some.key c.in-Some.value c.in-Some.ensures.steps.0 c.loop-key.invariant.ahead).1;
}
