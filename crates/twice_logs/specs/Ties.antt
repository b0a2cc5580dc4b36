-- Over two specifications that are alike, beside several logs that are alike, the same is true.
use Rattle.std.specs.Prelude.{List}
use Rattle.states_core.specs.declared.state.Shown.{Shown}
use Rattle.names_terms.specs.declared.spec.Spec.{Spec}
use Rattle.steps_lines_defs.specs.Logs.{Asked}
use Rattle.states_verdicts.specs.declared.verdict.Verdict.{Verdict}
use Rattle.logs_tied.specs.declared.logs.Logs.{Logs}
use Rattle.steps_tied.specs.Tied.{tied_system}
use Rattle.judge_verdicts.specs.Tied.{IsTiedVerdict}
use Rattle.twice_logs.specs.Steps.{AnswerSame}
use Rattle.twice_logs.specs.TiesBeside.{AreBesideTied}

abbrev pub TiedAnswersAlike : Type 0
TiedAnswersAlike = (s t : Spec) (a b : Logs) (asked : Asked) → AreBesideTied s t a b → AnswerSame (tied_system s a asked) (tied_system t b asked)

abbrev pub TiedVerdictsAlike : Type 0
TiedVerdictsAlike = (s t : Spec) (a b : Logs) (asked : Asked) → AreBesideTied s t a b → (w : List Shown) (v : Verdict) → IsTiedVerdict s a asked w v → IsTiedVerdict t b asked w v
