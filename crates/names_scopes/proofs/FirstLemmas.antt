-- The first of operands.
use Rattle.std.proofs.Common.{◌≡◌, ◌∙◌, sym, ap, refl, List, [], ◌∷◌}
use Rattle.reading_trees.specs.Trees as tree
use Rattle.reading_trees.specs.Trees.{Tree}
use Rattle.reading_trees.specs.TreeViews.{operands_from, operands_of}
use Rattle.reading_trees.specs.declared.expr.Operand.{Operand}
use Rattle.names_scopes.specs.FirstOperands.{first_of}

first_stays : (l : tree.Operands) (xs : List Operand) → first_of (operands_from l xs) ≡ first_of l
first_stays l [] = refl
first_stays l (x ∷ xs) = first_stays (tree.Next l x.at x.value) xs

pub first_is : (t : Tree) (xs : List Operand) (all : tree.Operands) → operands_of t xs ≡ all → first_of all ≡ t
first_is t xs all e = ap first_of (sym e) ∙ first_stays (tree.First t) xs

pub others_are : (t : Tree) (xs : List Operand) (all : tree.Operands) → operands_of t xs ≡ all → operands_of (first_of all) xs ≡ all
others_are t xs all e = ap (λ (f : Tree). operands_of f xs) (first_is t xs all e) ∙ e
