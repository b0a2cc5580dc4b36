use Rattle.names_tables.specs.Filling.{Filled}
use Rattle.names_tables.proofs.table.placed.Given as goal

abbrev pub invariant-loop-next : goal.invariant-loop-next
invariant-loop-next l = Filled l.program l.config l.names l.marks l.order l.next-index 0 l.table
