use Rattle.std.proofs.Common.{◌≡◌}
use Rattle.values_core.specs.Data.{pairs_of}
use Rattle.values_core.specs.View.{entries_view}
use Rattle.values_core.proofs.value.making.entries_from.Given as goal

abbrev pub invariant-loop-key : goal.invariant-loop-key
invariant-loop-key l = entries_view l.entries.items ≡ pairs_of l.yielded
