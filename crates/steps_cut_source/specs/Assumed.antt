-- For the prover: a specification beside a log without lines, in which its assumptions are those that it has beside any.
use Rattle.std.specs.Prelude.{[], false}
use Rattle.states_core.specs.States.{Values}
use Rattle.states_core.specs.System.{System}
use Rattle.names_terms.specs.declared.spec.Spec.{Spec}
use Rattle.logs_updates.specs.declared.line.Log.{Log}
use Rattle.steps_lines_defs.specs.Logs.{system}
use Rattle.steps_ready_defs.specs.Beside.{asked}

abbrev pub no_lines : Log
no_lines = record { init = []; lines = [] }

abbrev pub system_alone : Spec → System Values
system_alone g = system g no_lines (asked false 1 0)
