use Rattle.std.proofs.Common.{◌≡◌, ◌≤◌, drop}
use Rattle.names_whole_programs.specs.InstanceFaults.{units_fault}
use Rattle.names_whole_programs.proofs.faults.first_instance_fault.Given as goal

abbrev pub invariant-loop-unit : goal.invariant-loop-unit
invariant-loop-unit l = record {
  left : units_fault l.whole.program (drop l.unit-index l.unit-items) (drop l.next l.instances) ≡ units_fault l.whole.program l.unit-items l.instances;
  few : l.next ≤ l.unit-index;
}
