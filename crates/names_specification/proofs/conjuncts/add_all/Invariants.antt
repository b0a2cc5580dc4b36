use Rattle.std.proofs.Common.{◌≡◌, ◌++◌, drop, map}
use Rattle.std.specs.Borrow.{Bor}
use Rattle.reading_trees.specs.Trees.{Tree}
use Rattle.names_specification.proofs.conjuncts.add_all.Given as goal

abbrev pub invariant-loop-tree : goal.invariant-loop-tree
invariant-loop-tree l = map (λ (e : Bor Tree). e.now) l.found.items ++ drop l.tree-index l.tree-items ≡ map (λ (e : Bor Tree). e.now) l.initial.found.items ++ l.tree-items
