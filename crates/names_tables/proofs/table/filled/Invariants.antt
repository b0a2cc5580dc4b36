use Rattle.std.proofs.Common.{length}
use Rattle.names_tables.specs.Filling.{Filled}
use Rattle.names_tables.proofs.table.filled.Given as goal

abbrev pub invariant-loop-index : goal.invariant-loop-index
invariant-loop-index l = Filled l.program l.config l.names l.marks l.order (length l.order) l.index l.table
