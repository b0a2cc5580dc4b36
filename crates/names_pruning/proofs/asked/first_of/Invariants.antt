use Rattle.std.proofs.Common.{map}
use Rattle.std.specs.Borrow.{Bor}
use Rattle.reading_trees.specs.declared.expr.Definition.{Definition}
use Rattle.names_pruning.proofs.Asking.{NoneBefore}
use Rattle.names_pruning.proofs.asked.first_of.Given as goal

abbrev pub invariant-loop-index : goal.invariant-loop-index
invariant-loop-index l = NoneBefore (map (λ (d : Bor Definition). d.now) l.definitions) l.needed l.roots l.unread l.index
