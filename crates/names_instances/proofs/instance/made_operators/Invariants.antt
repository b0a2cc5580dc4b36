use Rattle.std.proofs.Common.{◌≡◌, ◌++◌, drop}
use Rattle.names_instances.specs.Instances.{operators_made}
use Rattle.names_instances.proofs.instance.made_operators.Given as goal

abbrev pub invariant-loop-operator : goal.invariant-loop-operator
invariant-loop-operator l = l.made ++ operators_made l.instance (drop l.operator-index l.operator-items) ≡ operators_made l.instance l.operator-items
