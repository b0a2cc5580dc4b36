use Rattle.std.proofs.Common.{◌≡◌, ◌++◌, ◌≤◌, drop}
use Rattle.names_whole_programs.specs.Wide.{wide_units}
use Rattle.names_whole_programs.proofs.expanding.expanded_units.Given as goal

abbrev pub invariant-loop-unit : goal.invariant-loop-unit
invariant-loop-unit l = record {
  left : l.units ++ wide_units l.program (drop l.unit-index l.unit-items) (drop l.next l.instances) ≡ wide_units l.program l.unit-items l.instances;
  few : l.next ≤ l.unit-index;
}
