use Rattle.std.proofs.Common.{◌≡◌, ◌++◌, drop, map}
use Rattle.std.specs.Borrow.{Bor}
use Rattle.reading_trees.specs.Trees.{Tree}
use Rattle.names_program.specs.InUnits.{assumptions_in}
use Rattle.names_program.proofs.declared.assumptions.Given as goal

abbrev pub invariant-loop-unit : goal.invariant-loop-unit
invariant-loop-unit l =
    map (λ (d : Bor Tree). d.now) l.found.items ++ assumptions_in (drop l.unit-index l.unit-items) ≡ assumptions_in l.unit-items
