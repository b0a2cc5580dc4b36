-- What a verdict says of a list of marked states beside several logs.
use Rattle.std.specs.Prelude.{List}
use Rattle.states_core.specs.declared.state.Shown.{Shown}
use Rattle.names_terms.specs.declared.spec.Spec.{Spec}
use Rattle.logs_updates.specs.declared.line.Log.{Log}
use Rattle.steps_lines_defs.specs.Logs.{Asked}
use Rattle.logs_tied.specs.Named.{IsNamedLog}
use Rattle.logs_tied.specs.declared.logs.Logs.{Logs}
use Rattle.states_verdicts.specs.Verdicts.{IsVerdict}
use Rattle.states_verdicts.specs.declared.verdict.Verdict.{Verdict}
use Rattle.judge_pairs.specs.Filling.{pair_asks}

-- The states are judged beside the log of all lines in the order that their marks name, as far as it is allowed. Where a mark
-- names no line that is ready then, the order goes on by the first log's line that is, which the mark does not name: the state is wrong of its line.
pub record IsTiedVerdict (g : Spec) (logs : Logs) (asked : Asked) (w : List Shown) (v : Verdict) : Type 0 where
  pub log : Log
  pub named : IsNamedLog logs w log
  pub verdict : IsVerdict (pair_asks g log asked) w v
