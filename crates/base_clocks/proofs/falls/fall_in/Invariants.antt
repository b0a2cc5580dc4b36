use Rattle.std.proofs.Common.{take}
use Rattle.base_clocks.proofs.Numbers.{NoneFalls}
use Rattle.base_clocks.proofs.falls.fall_in.Given as goal

abbrev pub invariant-loop-stamp : goal.invariant-loop-stamp
invariant-loop-stamp l = NoneFalls l.other (take l.stamp-index l.stamps)
