use Rattle.names_pruning.proofs.Loops.{NoneBoth}
use Rattle.names_pruning.proofs.program.some_both.Given as goal

abbrev pub invariant-loop-index : goal.invariant-loop-index
invariant-loop-index l = NoneBoth l.needed l.bad l.index
