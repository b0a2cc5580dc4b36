use Rattle.std.proofs.Common.{◌≡◌, ◌++◌, drop, map}
use Rattle.std.specs.Borrow.{Bor}
use Rattle.reading_trees.specs.declared.module.Declared.{Declared}
use Rattle.names_whole_programs.specs.Given.{substitutes_for}
use Rattle.names_whole_programs.proofs.given.substitutes_for.Given as goal

abbrev pub invariant-loop-one : goal.invariant-loop-one
invariant-loop-one l =
    l.found ++ substitutes_for l.units l.standard l.made (map (λ (d : Bor Declared). d.now) (drop l.one-index l.declared)) ≡ substitutes_for l.units l.standard l.made (map (λ (d : Bor Declared). d.now) l.declared)
