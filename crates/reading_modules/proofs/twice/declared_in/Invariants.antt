-- proofs/twice/declared_in/Invariants.antt
use Rattle.std.proofs.Common.{◌≡◌, ◌++◌, drop}
use Rattle.reading_modules.specs.Twice.{declared_in}
use Rattle.reading_modules.proofs.twice.declared_in.Given as goal

abbrev pub invariant-loop-unit : goal.invariant-loop-unit
invariant-loop-unit l = l.names ++ declared_in (drop l.unit-index l.unit-items) ≡ declared_in l.units
