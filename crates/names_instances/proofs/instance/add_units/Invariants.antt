use Rattle.std.proofs.Common.{◌≡◌, ◌++◌, drop}
use Rattle.names_instances.specs.Instances.{units_made}
use Rattle.names_instances.specs.Renamed.{renamed}
use Rattle.names_instances.proofs.instance.add_units.Given as goal

abbrev pub invariant-loop-unit : goal.invariant-loop-unit
invariant-loop-unit l =
    l.units ++ units_made l.instance (renamed l.renaming) (drop l.unit-index l.unit-items) ≡ l.initial.units ++ units_made l.instance (renamed l.renaming) l.unit-items
