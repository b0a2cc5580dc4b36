use Rattle.std.proofs.Common.{◌≤◌}
use Rattle.reading_trees.specs.TreeSizes.{tree_size}
use Rattle.reading_trees.proofs.+expr.Given as goal

abbrev pub invariant-expr::Expr::drop-loop-test : goal.invariant-expr::Expr::drop-loop-test
invariant-expr::Expr::drop-loop-test l = tree_size l.self ≤ tree_size l.initial.self
