use Rattle.values_core.specs.IsValue.{IsValue}
use Rattle.steps_ready_lines.proofs.UpTo.{UpTo}
use Rattle.steps_ready_lines.proofs.values.are_values.Given as goal

abbrev pub invariant-loop-value : goal.invariant-loop-value
invariant-loop-value l = UpTo IsValue l.values l.value-index
