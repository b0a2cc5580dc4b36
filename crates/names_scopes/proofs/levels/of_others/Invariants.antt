use Rattle.names_scopes.proofs.LevelLoops.{OthersSoFar}
use Rattle.names_scopes.proofs.levels.of_others.Given as goal

abbrev pub invariant-loop-operand : goal.invariant-loop-operand
invariant-loop-operand l = OthersSoFar l.initial.level l.others l.operand-index l.level
