use Rattle.std.proofs.Common.{map}
use Rattle.std.specs.Borrow.{Bor}
use Rattle.reading_trees.specs.declared.expr.Definition.{Definition}
use Rattle.names_pruning.proofs.Loops.{LackingSoFar}
use Rattle.names_pruning.proofs.lost.lacking.Given as goal

abbrev pub invariant-loop-index : goal.invariant-loop-index
invariant-loop-index l = LackingSoFar l.names l.unread (map (λ (d : Bor Definition). d.now) l.definitions) l.index l.found.items
