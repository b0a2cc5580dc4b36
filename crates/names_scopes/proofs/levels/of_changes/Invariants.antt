use Rattle.names_scopes.proofs.LevelLoops.{ChangesSoFar}
use Rattle.names_scopes.proofs.levels.of_changes.Given as goal

abbrev pub invariant-loop-change : goal.invariant-loop-change
invariant-loop-change l = ChangesSoFar l.items l.change-index l.level
