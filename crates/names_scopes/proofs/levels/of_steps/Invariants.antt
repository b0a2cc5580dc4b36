use Rattle.names_scopes.proofs.LevelLoops.{StepsSoFar}
use Rattle.names_scopes.proofs.levels.of_steps.Given as goal

abbrev pub invariant-loop-step : goal.invariant-loop-step
invariant-loop-step l = StepsSoFar l.initial.level l.steps l.step-index l.level
