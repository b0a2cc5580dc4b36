-- What is reached is a state of the specification.
use Rattle.std.specs.Prelude.{ℕ, List, length}
use Rattle.states_core.specs.Runs.{Run, start, wait, go}
use Rattle.states_core.specs.States.{Values}
use Rattle.states_core.specs.declared.state.Shown.{Shown}
use Rattle.names_terms.specs.declared.spec.Spec.{Spec}
use Rattle.logs_updates.specs.declared.line.Log.{Log}
use Rattle.steps_lines_defs.specs.Logs.{Asked, system}
use Rattle.steps_lines_defs.specs.Says.{IsState}
use Rattle.states_layers.specs.Gives.{IsReached}

run_state : (g : Spec) (log : Log) (a : Asked) (n j : ℕ) (s : Values) (w : List Shown) → Run (system g log a) n j s w → IsState (length g.variables) s
run_state g log a _ _ _ _ (start s init seen) = init.0
run_state g log a _ _ _ _ (wait n j s t w r left within step) = step.0
run_state g log a _ _ _ _ (go n j s t w r left step) = step.2.0

pub reached_state : (g : Spec) (log : Log) (a : Asked) (n : ℕ) (s : Values) → IsReached (system g log a) n s → IsState (length g.variables) s
reached_state g log a n s r = run_state g log a n r.0 s r.1.states r.1.run
