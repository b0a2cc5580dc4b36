use Rattle.std.proofs.Common.{◌≡◌, drop}
use Rattle.names_instances.specs.Instances.{substitute_for}
use Rattle.names_instances.proofs.substitutes.Substitutes.get.Given as goal

abbrev pub invariant-loop-item : goal.invariant-loop-item
invariant-loop-item l = substitute_for (drop l.item-index l.item-items) l.name ≡ substitute_for l.self l.name
