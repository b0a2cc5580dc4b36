use Rattle.std.proofs.Common.{◌≡◌, ◌++◌, ◌+◌, ◌-◌, ◌≤◌, length, drop}
use Rattle.values_operations.specs.Walk.{merged}
use Rattle.values_operations.proofs.sets.walk.Given as goal

abbrev pub invariant-loop-i : goal.invariant-loop-i
invariant-loop-i l = record {
  left : l.i ≤ length l.xs;
  right : l.j ≤ length l.ys;
  kept : l.out.items ++ merged l.keep (drop l.i l.xs) (drop l.j l.ys) ≡ merged l.keep l.xs l.ys;
}

abbrev pub decreases-loop-i : goal.decreases-loop-i
decreases-loop-i l = (length l.xs - l.i) + (length l.ys - l.j)
