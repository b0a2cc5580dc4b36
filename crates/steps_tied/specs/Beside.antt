-- A specification beside several logs, from which its steps can be asked.
use Rattle.std.specs.Prelude.{All}
use Rattle.names_terms.specs.declared.spec.Spec.{Spec}
use Rattle.steps_ready_defs.specs.Ready.{AreOfVariables, IsReadyLine, IsReadySpec}
use Rattle.logs_tied.specs.declared.logs.Logs.{Logs}

-- the first states of the specification can be asked for, and the steps of each line of each log
pub record IsReadyBeside (g : Spec) (logs : Logs) : Type 0 where
  pub spec : IsReadySpec g
  pub first : AreOfVariables g logs.init
  pub lines : All (λ file. All (IsReadyLine g) file) logs.files.items
