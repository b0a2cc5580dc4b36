use Rattle.std.proofs.Common.{◌≡◌, ◌++◌, drop, map}
use Rattle.std.specs.Borrow.{Bor}
use Rattle.reading_trees.specs.declared.module.Declared.{Declared}
use Rattle.names_program.specs.Entries.{plain_entries}
use Rattle.names_program.proofs.names.push_plain.Given as goal

abbrev pub invariant-loop-index : goal.invariant-loop-index
invariant-loop-index l =
    l.names ++ plain_entries l.index (map (λ (d : Bor Declared). d.now) (drop l.index l.variables)) ≡ l.initial.names ++ plain_entries 0 (map (λ (d : Bor Declared). d.now) l.variables)
