-- proofs/instances/first_made/Invariants.antt
use Rattle.std.proofs.Common.{◌≡◌, drop}
use Rattle.reading_modules.specs.Instances.{first_made}
use Rattle.reading_modules.proofs.instances.first_made.Given as goal

abbrev pub invariant-loop-unit : goal.invariant-loop-unit
invariant-loop-unit l = first_made (drop l.unit-index l.units) ≡ first_made l.units
