use Rattle.std.proofs.Common.{◌≡◌, ◌++◌, drop}
use Rattle.names_tlc_calls.specs.Programs.{units_names}
use Rattle.names_tlc_calls.proofs.own_names.push_units.Given as goal

abbrev pub invariant-loop-unit : goal.invariant-loop-unit
invariant-loop-unit l = l.names ++ units_names (drop l.unit-index l.units) ≡ l.initial.names ++ units_names l.units
