use Rattle.names_tables.proofs.Valued.{ValuesSoFar}
use Rattle.names_tables.proofs.values.first_without_value.Given as goal

abbrev pub invariant-loop-constant : goal.invariant-loop-constant
invariant-loop-constant l = ValuesSoFar l.program l.config l.constant-index
