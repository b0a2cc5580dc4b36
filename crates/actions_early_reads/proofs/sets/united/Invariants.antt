use Rattle.actions_early_reads.proofs.Shown.{IsUnitedBelow}
use Rattle.actions_early_reads.proofs.sets.united.Given as goal

abbrev pub invariant-loop-variable : goal.invariant-loop-variable
invariant-loop-variable l = IsUnitedBelow l.all l.fn.first l.second l.variable
