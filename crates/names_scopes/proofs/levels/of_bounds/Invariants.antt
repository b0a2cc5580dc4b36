use Rattle.names_scopes.proofs.LevelLoops.{BoundsSoFar}
use Rattle.names_scopes.proofs.levels.of_bounds.Given as goal

abbrev pub invariant-loop-bound : goal.invariant-loop-bound
invariant-loop-bound l = BoundsSoFar l.items l.bound-index l.level
