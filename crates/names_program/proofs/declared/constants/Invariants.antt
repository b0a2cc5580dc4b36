use Rattle.std.proofs.Common.{◌≡◌, ◌++◌, drop, map}
use Rattle.std.specs.Borrow.{Bor}
use Rattle.reading_trees.specs.declared.module.Declared.{Declared}
use Rattle.names_program.specs.InUnits.{constants_in}
use Rattle.names_program.proofs.declared.constants.Given as goal

abbrev pub invariant-loop-unit : goal.invariant-loop-unit
invariant-loop-unit l =
    map (λ (d : Bor Declared). d.now) l.found.items ++ constants_in (drop l.unit-index l.unit-items) ≡ constants_in l.unit-items
