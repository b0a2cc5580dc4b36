use Rattle.std.proofs.Common.{◌≡◌, map, take}
use Rattle.logs_updates.specs.Clocks.{number_in}
use Rattle.logs_files.proofs.placing.step_clocks.Given as goal

abbrev pub invariant-loop-step : goal.invariant-loop-step
invariant-loop-step l = l.clocks.items ≡ map (λ x. number_in x.clock) (take l.step-index l.steps)
