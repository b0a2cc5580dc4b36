use Rattle.std.proofs.Common.{◌≡◌, drop}
use Rattle.names_whole_programs.specs.Expanded.{has_instances}
use Rattle.names_whole_programs.proofs.expanding.has_instances.Given as goal

abbrev pub invariant-loop-unit : goal.invariant-loop-unit
invariant-loop-unit l =
    has_instances (drop l.unit-index l.unit-items) ≡ has_instances l.unit-items
