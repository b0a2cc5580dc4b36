use Rattle.std.proofs.Common.{◌≡◌, ◌++◌, length, reverse}
use Rattle.names_tlc_calls.proofs.program.reversed.Given as goal

abbrev pub invariant-loop-unit : goal.invariant-loop-unit
invariant-loop-unit l = l.reversed ++ reverse l.units ≡ reverse l.initial.units

abbrev pub decreases-loop-unit : goal.decreases-loop-unit
decreases-loop-unit l = length l.units
