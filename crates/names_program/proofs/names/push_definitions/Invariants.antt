use Rattle.std.proofs.Common.{◌≡◌, ◌++◌, drop, map}
use Rattle.std.specs.Borrow.{Bor}
use Rattle.reading_trees.specs.declared.expr.Definition.{Definition}
use Rattle.names_program.specs.Entries.{definition_entries}
use Rattle.names_program.proofs.names.push_definitions.Given as goal

abbrev pub invariant-loop-index : goal.invariant-loop-index
invariant-loop-index l =
    l.names ++ definition_entries l.givens (map (λ (d : Bor Definition). d.now) l.definitions) l.index (map (λ (d : Bor Definition). d.now) (drop l.index l.definitions)) ≡ l.initial.names ++ definition_entries l.givens (map (λ (d : Bor Definition). d.now) l.definitions) 0 (map (λ (d : Bor Definition). d.now) l.definitions)
