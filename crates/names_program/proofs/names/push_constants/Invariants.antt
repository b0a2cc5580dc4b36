use Rattle.std.proofs.Common.{◌≡◌, ◌++◌, drop, map}
use Rattle.std.specs.Borrow.{Bor}
use Rattle.reading_trees.specs.declared.expr.Definition.{Definition}
use Rattle.reading_trees.specs.declared.module.Declared.{Declared}
use Rattle.names_program.specs.Entries.{constant_entries}
use Rattle.names_program.proofs.names.push_constants.Given as goal

abbrev pub invariant-loop-index : goal.invariant-loop-index
invariant-loop-index l =
    l.names ++ constant_entries l.givens (map (λ (d : Bor Definition). d.now) l.definitions) l.values l.index (map (λ (d : Bor Declared). d.now) (drop l.index l.constants)) ≡ l.initial.names ++ constant_entries l.givens (map (λ (d : Bor Definition). d.now) l.definitions) l.values 0 (map (λ (d : Bor Declared). d.now) l.constants)
