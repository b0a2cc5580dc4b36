use Rattle.std.proofs.Common.{◌≡◌, ◌++◌, drop, map}
use Rattle.std.specs.Borrow.{Bor}
use Rattle.reading_trees.specs.declared.module.Declared.{Declared}
use Rattle.names_instances.specs.Instances.{constants_made}
use Rattle.names_instances.proofs.instance.add_constants.Given as goal

abbrev pub invariant-loop-constant : goal.invariant-loop-constant
invariant-loop-constant l =
    l.units ++ constants_made l.instance l.with (map (λ (d : Bor Declared). d.now) (drop l.constant-index l.constants)) ≡ l.initial.units ++ constants_made l.instance l.with (map (λ (d : Bor Declared). d.now) l.constants)
