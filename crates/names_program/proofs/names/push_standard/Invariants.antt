use Rattle.std.proofs.Common.{◌≡◌, ◌++◌, map}
use Rattle.std.specs.Borrow.{Bor}
use Rattle.reading_trees.specs.declared.expr.Definition.{Definition}
use Rattle.names_program.specs.Entries.{standard_entries}
use Rattle.names_program.proofs.names.push_standard.Given as goal

abbrev pub invariant-loop-entry : goal.invariant-loop-entry
invariant-loop-entry l =
    l.names ≡ l.initial.names ++ standard_entries l.givens (map (λ (d : Bor Definition). d.now) l.definitions) l.yielded
