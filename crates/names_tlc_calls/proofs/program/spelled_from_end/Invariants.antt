use Rattle.std.proofs.Common.{◌≡◌, ◌++◌, length, map, reverse}
use Rattle.names_tlc_calls.specs.Programs.{spelled_unit}
use Rattle.names_tlc_calls.proofs.program.spelled_from_end.Given as goal

abbrev pub invariant-loop-unit : goal.invariant-loop-unit
invariant-loop-unit l =
    (map (spelled_unit l.initial.own) l.units ++ reverse l.spelled ≡ map (spelled_unit l.initial.own) l.initial.units) × (l.own ≡ l.initial.own)

abbrev pub decreases-loop-unit : goal.decreases-loop-unit
decreases-loop-unit l = length l.units
