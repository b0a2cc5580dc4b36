use Rattle.std.proofs.Common.{◌≡◌, ◌^◌, ◌≤◌}
use Rattle.values_core.specs.IsValue.{max_members}
use Rattle.values_set_bounds.proofs.sizes.power.Given as goal

abbrev pub invariant-loop-i : goal.invariant-loop-i
invariant-loop-i l = (l.members ≡ l.base ^ l.i) × (l.members ≤ max_members)
