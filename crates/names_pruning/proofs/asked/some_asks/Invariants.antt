use Rattle.std.proofs.Common.{map}
use Rattle.std.specs.Borrow.{Bor}
use Rattle.reading_trees.specs.declared.expr.Definition.{Definition}
use Rattle.names_pruning.proofs.Asking.{NoneAsks}
use Rattle.names_pruning.proofs.asked.some_asks.Given as goal

abbrev pub invariant-loop-index : goal.invariant-loop-index
invariant-loop-index l = NoneAsks (map (λ (d : Bor Definition). d.now) l.definitions) l.needed l.name l.index
