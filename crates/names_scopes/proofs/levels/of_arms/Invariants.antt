use Rattle.names_scopes.proofs.LevelLoops.{ArmsSoFar}
use Rattle.names_scopes.proofs.levels.of_arms.Given as goal

abbrev pub invariant-loop-arm : goal.invariant-loop-arm
invariant-loop-arm l = ArmsSoFar l.items l.arm-index l.level
