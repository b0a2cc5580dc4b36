use Rattle.std.proofs.Common.{◌≡◌, drop, map}
use Rattle.std.specs.Borrow.{Bor}
use Rattle.reading_trees.specs.declared.module.Declared.{Declared}
use Rattle.names_program.specs.Entries.{index_from}
use Rattle.names_program.specs.Names.{index_among, names_declared}
use Rattle.names_resolving.proofs.finding.declared_index.Given as goal

abbrev pub invariant-loop-index : goal.invariant-loop-index
invariant-loop-index l =
    index_from l.index (names_declared (map (λ (d : Bor Declared). d.now) (drop l.index l.declared))) l.name
    ≡ index_among (names_declared (map (λ (d : Bor Declared). d.now) l.declared)) l.name
