use Rattle.names_program.specs.InUnits.{assumptions_in}
use Rattle.names_tables.specs.Assumed.{AreAssumed}
use Rattle.names_tables.proofs.assumed.assumption_terms.Given as goal

abbrev pub invariant-loop-tree : goal.invariant-loop-tree
invariant-loop-tree l = AreAssumed l.fn.table l.table (assumptions_in l.program.units) l.tree-index l.terms
