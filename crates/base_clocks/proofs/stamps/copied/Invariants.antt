use Rattle.std.proofs.Common.{◌≡◌, take}
use Rattle.base_clocks.proofs.stamps.copied.Given as goal

abbrev pub invariant-loop-stamp : goal.invariant-loop-stamp
invariant-loop-stamp l = l.copy ≡ take l.stamp-index l.stamps
