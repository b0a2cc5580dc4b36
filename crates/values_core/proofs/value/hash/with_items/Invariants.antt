use Rattle.std.proofs.Common.{◌≡◌, drop}
use Rattle.values_core.specs.HashOf.{with_members}
use Rattle.values_core.specs.Data.{vals_of}
use Rattle.values_core.proofs.value.hash.with_items.Given as goal

abbrev pub invariant-loop-item : goal.invariant-loop-item
invariant-loop-item l = with_members l.hash (vals_of (drop l.item-index l.item-items)) ≡ with_members l.initial.hash (vals_of l.item-items)
