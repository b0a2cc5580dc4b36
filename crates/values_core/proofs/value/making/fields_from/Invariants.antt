use Rattle.std.proofs.Common.{◌≡◌}
use Rattle.std.specs.Vec.Iter.{into_iter_items}
use Rattle.values_core.specs.Data.{pairs_of}
use Rattle.values_core.specs.View.{AreNamed, fields_view}
use Rattle.values_core.proofs.value.making.fields_from.Given as goal

abbrev pub invariant-loop-key : goal.invariant-loop-key
invariant-loop-key l = record {
  fields : fields_view l.fields.items ≡ pairs_of l.yielded;
  ahead : AreNamed (pairs_of (into_iter_items l.key-iterator));
}
