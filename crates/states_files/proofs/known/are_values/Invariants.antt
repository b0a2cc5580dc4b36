use Rattle.values_core.specs.IsValue.{IsValue}
use Rattle.states_files.proofs.UpTo.{UpTo}
use Rattle.states_files.proofs.known.are_values.Given as goal

abbrev pub invariant-loop-value : goal.invariant-loop-value
invariant-loop-value l = UpTo IsValue l.values l.value-index
