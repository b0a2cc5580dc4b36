use Rattle.std.proofs.Common.{◌≡◌, ◌++◌, length, reverse}
use Rattle.names_pruning.specs.Parts.{gone_of, left_of}
use Rattle.names_pruning.proofs.parting.parted_from_end.Given as goal

abbrev pub invariant-loop-unit : goal.invariant-loop-unit
invariant-loop-unit l = record {
  left : left_of l.flags l.units ++ reverse l.parts.left ≡ left_of l.flags l.initial.units;
  gone : gone_of l.flags l.units ++ reverse l.parts.gone ≡ gone_of l.flags l.initial.units;
}

abbrev pub decreases-loop-unit : goal.decreases-loop-unit
decreases-loop-unit l = length l.units
