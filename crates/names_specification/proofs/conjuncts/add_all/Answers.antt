use Rattle.std.proofs.Common.{map}
use Rattle.std.specs.Borrow.{Bor}
use Rattle.reading_trees.specs.Trees.{Tree}
use Rattle.names_specification.proofs.Listed.{all_added}
use Rattle.names_specification.proofs.conjuncts.add_all.Goals as goal

pub returns : goal.returns
returns c =
    all_added (map (λ (e : Bor Tree). e.now) c.loop-tree.found.items) (map (λ (e : Bor Tree). e.now) c.args.found.now.items) c.items-tree-items.result.now
    c.loop-tree.tree-index c.args.trees.now c.loop-tree-test.false c.items-tree-items.ensures c.loop-tree.invariant
