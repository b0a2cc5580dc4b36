use Rattle.std.proofs.Common.{◌≡◌, drop, map}
use Rattle.std.specs.Borrow.{Bor}
use Rattle.reading_trees.specs.declared.expr.Definition.{Definition}
use Rattle.names_program.specs.Entries.{index_from}
use Rattle.names_program.specs.Names.{index_among, names_defined}
use Rattle.names_program.proofs.replacing.definition_index.Given as goal

abbrev pub invariant-loop-index : goal.invariant-loop-index
invariant-loop-index l =
    index_from l.index (names_defined (map (λ (d : Bor Definition). d.now) (drop l.index l.definitions))) l.name
    ≡ index_among (names_defined (map (λ (d : Bor Definition). d.now) l.definitions)) l.name
