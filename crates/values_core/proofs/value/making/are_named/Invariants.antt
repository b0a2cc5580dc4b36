use Rattle.std.proofs.Common.{take}
use Rattle.values_core.specs.Data.{pairs_of}
use Rattle.values_core.specs.View.{AreNamed}
use Rattle.values_core.proofs.value.making.are_named.Given as goal

abbrev pub invariant-loop-pair : goal.invariant-loop-pair
invariant-loop-pair l = AreNamed (pairs_of (take l.pair-index l.pair-items))
