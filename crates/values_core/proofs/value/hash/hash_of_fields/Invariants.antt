use Rattle.std.proofs.Common.{◌≡◌, drop}
use Rattle.values_core.specs.HashOf.{with_values}
use Rattle.values_core.specs.View.{fields_view}
use Rattle.values_core.proofs.value.hash.hash_of_fields.Given as goal

abbrev pub invariant-loop-field : goal.invariant-loop-field
invariant-loop-field l = with_values l.hash (fields_view (drop l.field-index l.field-items)) ≡ with_values l.initial.hash (fields_view l.field-items)
