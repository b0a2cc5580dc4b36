-- For the prover: what stands around a tree while it is resolved.
use Rattle.std.specs.Prelude.{List, length}
use Rattle.names_terms.specs.declared.operator.Operator.{Operator}
use Rattle.names_scopes.specs.declared.meant.Entry.{Entry}
use Rattle.names_scopes.specs.declared.scope.Local.{Local}
use Rattle.names_meanings.specs.Complaints.{Takes}
use Rattle.names_meanings.specs.Outcomes.{takes_in}
use Rattle.names_scopes.specs.Standing.{AreIn, LocalsIn}

-- the names of the program, and those that are bound around
pub record Here : Type 0 where
  pub names : List Entry
  pub scope : List Local

-- with the table so far
pub record Around : Type 0 where
  pub here : Here
  pub table : List Operator

abbrev pub takes : Around → Takes
takes w = takes_in w.table w.here.names w.here.scope

-- each definition that a name means stands in the table
pub record IsAround (names : List Entry) (scope : List Local) (table : List Operator) : Type 0 where
  pub program : AreIn (length table) names
  pub around : LocalsIn (length table) scope
