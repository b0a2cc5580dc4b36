use Rattle.std.proofs.Common.{◌≡◌, drop}
use Rattle.names_instances.specs.Instances.{names_own}
use Rattle.names_instances.proofs.renaming.names_own.Given as goal

abbrev pub invariant-loop-unit : goal.invariant-loop-unit
invariant-loop-unit l = names_own (drop l.unit-index l.unit-items) l.name ≡ names_own l.unit-items l.name
