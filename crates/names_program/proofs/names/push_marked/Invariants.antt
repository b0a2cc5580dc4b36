use Rattle.std.proofs.Common.{◌≡◌, ◌++◌, drop, map}
use Rattle.std.specs.Borrow.{Bor}
use Rattle.reading_trees.specs.declared.module.Declared.{Declared}
use Rattle.names_program.specs.Entries.{marked_entries}
use Rattle.names_program.proofs.names.push_marked.Given as goal

abbrev pub invariant-loop-index : goal.invariant-loop-index
invariant-loop-index l =
    l.names ++ marked_entries l.index (map (λ (d : Bor Declared). d.now) (drop l.index l.variables)) ≡ l.initial.names ++ marked_entries 0 (map (λ (d : Bor Declared). d.now) l.variables)
