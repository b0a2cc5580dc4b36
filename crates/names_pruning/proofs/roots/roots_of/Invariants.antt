use Rattle.std.proofs.Common.{map}
use Rattle.std.specs.Borrow.{Bor}
use Rattle.reading_trees.specs.declared.expr.Definition.{Definition}
use Rattle.names_pruning.proofs.Loops.{RootsSoFar}
use Rattle.names_pruning.proofs.roots.roots_of.Given as goal

abbrev pub invariant-loop-root : goal.invariant-loop-root
invariant-loop-root l = RootsSoFar (map (λ (d : Bor Definition). d.now) l.definitions) l.roots l.root-index l.found.items
