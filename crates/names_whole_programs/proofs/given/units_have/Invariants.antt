use Rattle.std.proofs.Common.{◌≡◌, drop}
use Rattle.names_whole_programs.specs.Given.{units_have}
use Rattle.names_whole_programs.proofs.given.units_have.Given as goal

abbrev pub invariant-loop-unit : goal.invariant-loop-unit
invariant-loop-unit l =
    units_have (drop l.unit-index l.unit-items) l.name ≡ units_have l.unit-items l.name
