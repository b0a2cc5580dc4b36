use Rattle.std.proofs.Common.{◌≡◌, ◌++◌, drop, map}
use Rattle.std.specs.Borrow.{Bor}
use Rattle.reading_trees.specs.declared.module.Declared.{Declared}
use Rattle.names_whole_programs.specs.Given.{declared_in}
use Rattle.names_whole_programs.proofs.given.declared_in.Given as goal

abbrev pub invariant-loop-unit : goal.invariant-loop-unit
invariant-loop-unit l =
    map (λ (d : Bor Declared). d.now) l.found.items ++ declared_in (drop l.unit-index l.unit-items) ≡ declared_in l.unit-items
