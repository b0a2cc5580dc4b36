use Rattle.std.proofs.Common.{◌≡◌, ◌++◌, drop, map}
use Rattle.std.specs.Borrow.{Bor}
use Rattle.reading_trees.specs.declared.module.Declared.{Declared}
use Rattle.names_whole_programs.proofs.given.add_names.Given as goal

abbrev pub invariant-loop-name : goal.invariant-loop-name
invariant-loop-name l =
    map (λ (d : Bor Declared). d.now) l.found.items ++ drop l.name-index l.name-items ≡ map (λ (d : Bor Declared). d.now) l.initial.found.items ++ l.name-items
