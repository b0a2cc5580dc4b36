use Rattle.std.proofs.Common.{◌≡◌, ◌++◌, drop, map}
use Rattle.std.specs.Borrow.{Bor}
use Rattle.reading_trees.specs.declared.module.Declared.{Declared}
use Rattle.names_program.specs.Names.{names_declared}
use Rattle.names_resolving.proofs.resolving.names_of.Given as goal

abbrev pub invariant-loop-one : goal.invariant-loop-one
invariant-loop-one l =
    l.names ++ names_declared (map (λ (d : Bor Declared). d.now) (drop l.one-index l.declared)) ≡ names_declared (map (λ (d : Bor Declared). d.now) l.declared)
