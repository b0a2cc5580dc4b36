use Rattle.std.proofs.Common.{◌≡◌, map, take}
use Rattle.logs_updates.specs.Clocks.{vector_in}
use Rattle.logs_files.proofs.vectors.step_vectors.Given as goal

abbrev pub invariant-loop-step : goal.invariant-loop-step
invariant-loop-step l = l.vectors.items ≡ map (λ x. vector_in x.clock) (take l.step-index l.steps)
