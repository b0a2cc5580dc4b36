use Rattle.std.proofs.Common.{◌≡◌, drop}
use Rattle.values_core.specs.HashOf.{with_values}
use Rattle.values_core.specs.View.{entries_view}
use Rattle.values_core.proofs.value.hash.hash_of_pairs.Given as goal

abbrev pub invariant-loop-entry : goal.invariant-loop-entry
invariant-loop-entry l = with_values l.hash (entries_view (drop l.entry-index l.entry-items)) ≡ with_values l.initial.hash (entries_view l.entry-items)
