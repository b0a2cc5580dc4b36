use Rattle.std.proofs.Common.{◌≡◌, take}
use Rattle.values_core.specs.Data.{entries}
use Rattle.values_core.specs.View.{entries_view}
use Rattle.values_core.proofs.value.forms.copy_pairs.Given as goal

abbrev pub invariant-loop-entry : goal.invariant-loop-entry
invariant-loop-entry l = l.pairs.items ≡ entries (entries_view (take l.entry-index l.entry-items))
