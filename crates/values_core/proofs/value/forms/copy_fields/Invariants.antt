use Rattle.std.proofs.Common.{◌≡◌, take}
use Rattle.values_core.specs.Data.{entries}
use Rattle.values_core.specs.View.{fields_view}
use Rattle.values_core.proofs.value.forms.copy_fields.Given as goal

abbrev pub invariant-loop-field : goal.invariant-loop-field
invariant-loop-field l = l.pairs.items ≡ entries (fields_view (take l.field-index l.field-items))
