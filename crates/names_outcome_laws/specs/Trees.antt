-- That some term is meant by a tree: a law. Each row of the grammar has a meaning where nothing is wrong with its names.
use Rattle.std.specs.Prelude.{◌≡◌, List, length, None}
use Rattle.reading_trees.specs.Trees.{Tree}
use Rattle.names_terms.specs.declared.operator.Operator.{Operator}
use Rattle.names_terms.specs.Terms.{Term}
use Rattle.names_term_parts.specs.Slots.{UsesSmaller}
use Rattle.names_scopes.specs.declared.meant.Entry.{Entry}
use Rattle.names_scopes.specs.declared.scope.Local.{Local}
use Rattle.names_scopes.specs.Standing.{AreIn, LocalsIn}
use Rattle.names_meanings.specs.Complaints.{complaint}
use Rattle.names_meanings.specs.Means.{Means}
use Rattle.names_meanings.specs.Outcomes.{Grows, named_in, takes_in}

-- Nothing is wrong with the names of the tree, among those of a program and those that are bound around it. Each definition that a name means stands in
-- the table.
pub record HasFineNames (names : List Entry) (ops : List Operator) (scope : List Local) (t : Tree) : Type 0 where
  pub program : AreIn (length ops) names
  pub around : LocalsIn (length ops) scope
  pub fine : complaint (takes_in ops names scope) t ≡ None

-- Some term is meant by the tree, over the table with the definitions of its LETs behind it. These have no name.
pub record HasSomeTerm (names : List Entry) (ops : List Operator) (scope : List Local) (t : Tree) : Type 0 where
  pub term : Term
  pub table : List Operator
  pub grown : Grows ops table
  pub unnamed : named_in table ≡ named_in ops
  pub smaller : UsesSmaller ops → UsesSmaller table
  pub means : Means names table scope t term

-- each tree in which nothing is wrong with names means something
abbrev pub TreesMeanSomething : Type 0
TreesMeanSomething = (names : List Entry) (ops : List Operator) (scope : List Local) (t : Tree) → HasFineNames names ops scope t → HasSomeTerm names ops scope t
