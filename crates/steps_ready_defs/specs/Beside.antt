-- A specification beside a log, from which its steps can be asked.
use Rattle.std.specs.Prelude.{ℕ, Bool, All}
use Rattle.names_terms.specs.declared.spec.Spec.{Spec}
use Rattle.logs_updates.specs.declared.line.Log.{Log}
use Rattle.steps_lines_defs.specs.Logs.{Asked}
use Rattle.steps_ready_defs.specs.Ready.{AreOfVariables, IsReadyLine, IsReadySpec}

-- the greatest size of all layers together
abbrev pub total_limit : ℕ
total_limit = 2000000

abbrev pub asked : Bool → ℕ → ℕ → Asked
asked stutter within limit = record { stutter = stutter; within = within; limit = limit; total = total_limit }

-- the first states of the specification can be asked for, and the steps of each line
pub record IsReady (g : Spec) (log : Log) : Type 0 where
  pub spec : IsReadySpec g
  pub first : AreOfVariables g log.init
  pub lines : All (IsReadyLine g) log.lines
