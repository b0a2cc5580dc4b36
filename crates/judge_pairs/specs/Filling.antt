-- What given states are asked, for a specification beside a log. Each has a value for every variable, so all count as fixed before each evaluation.
use Rattle.std.specs.Prelude.{◌≡◌, ◌⊎◌, true, length, Option, Some, None}
use Rattle.states_core.specs.States.{Values}
use Rattle.states_core.specs.declared.fault.Fault.{Fault}
use Rattle.names_terms.specs.declared.spec.Spec.{Spec}
use Rattle.logs_updates.specs.declared.line.Log.{Log}
use Rattle.steps_lines_defs.specs.Says.{Act, ActFails, ActHolds, BothHold, IsState, NextFails}
use Rattle.steps_lines_defs.specs.Asks.{HasNoEvent, Moves, act_of}
use Rattle.steps_lines_defs.specs.Steps.{FaultFirst, silent_act}
use Rattle.steps_lines_defs.specs.Logs.{Asked, OfLine, system}
use Rattle.judge_truth.specs.Truths.{everything}
use Rattle.states_verdicts.specs.Asks.{PairAsks}

-- a fault of the operator, where there is one, or, where that holds, one of Next
abbrev pub BothFailThere : Spec → Option Act → Values → Values → Fault → Type 0
BothFailThere g None s t f = NextFails g everything s t f
BothFailThere g (Some a) s t f = ActFails g a everything s t f ⊎ (ActHolds g a s t × NextFails g everything s t f)

abbrev pub pair_asks : Spec → Log → Asked → PairAsks
pair_asks g log asked = record {
  system = system g log asked;
  Moves = λ n s t. OfLine log.lines n (λ l. IsState (length g.variables) t × Moves l.updates s t);
  Acts = λ n s t. OfLine log.lines n (λ l. BothHold g (act_of l.event) s t);
  Stutters = λ n. OfLine log.lines n (λ l. (asked.stutter ≡ true) × HasNoEvent l.event);
  FaultInit = FaultFirst g everything;
  FaultActs = λ n s t f. OfLine log.lines n (λ l. BothFailThere g (act_of l.event) s t f);
  FaultSilent = λ s t f. IsState (length g.variables) t × BothFailThere g (silent_act g.silent) s t f;
}
