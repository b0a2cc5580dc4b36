use Rattle.std.proofs.Common.{◌≡◌, drop}
use Rattle.names_instances.specs.Instances.{declares_operator}
use Rattle.names_instances.proofs.renaming.declares_operator.Given as goal

abbrev pub invariant-loop-operator : goal.invariant-loop-operator
invariant-loop-operator l = declares_operator (drop l.operator-index l.operator-items) l.name ≡ declares_operator l.operator-items l.name
