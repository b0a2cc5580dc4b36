-- The first of operands.
use Rattle.reading_trees.specs.Trees.{Tree, Operands, First, Next}

abbrev pub first_of : Operands → Tree
first_of (First e) = e
first_of (Next os at e) = first_of os
