-- Over two specifications that are alike, beside logs that are alike, the same is true.
use Rattle.std.specs.Prelude.{List}
use Rattle.states_core.specs.System.{System}
use Rattle.states_core.specs.declared.state.Shown.{Shown}
use Rattle.names_terms.specs.declared.spec.Spec.{Spec}
use Rattle.names_term_parts.specs.Slots.{UsesSmaller}
use Rattle.logs_updates.specs.declared.line.Log.{Log}
use Rattle.steps_lines_defs.specs.Logs.{Asked, system}
use Rattle.states_layers.specs.Answers.{AllAssumed, IsAnswer}
use Rattle.states_layers.specs.Says.{IsUnassumed}
use Rattle.states_layers.specs.declared.answer.Answer.{Answer}
use Rattle.states_verdicts.specs.Verdicts.{IsVerdict}
use Rattle.states_verdicts.specs.declared.verdict.Verdict.{Verdict}
use Rattle.judge_pairs.specs.Filling.{pair_asks}
use Rattle.twice_tables.specs.Outcome.{AreAlike}
use Rattle.twice_logs.specs.AlikeLogs.{AreAlikeLogs}
use Rattle.twice_logs.specs.Same.{AskSame}

-- Two specifications that are alike, each with the definitions in order of their uses, beside logs that are alike.
pub record AreBeside (s t : Spec) (log m : Log) : Type 0 where
  pub specs : AreAlike s t
  pub smaller : UsesSmaller s.operators
  pub smaller_other : UsesSmaller t.operators
  pub logs : AreAlikeLogs s.operators t.operators log m

-- All that is answered of the one system can be answered of the other.
pub record AnswerSame {A : Type 0} (y z : System A) : Type 0 where
  pub assumed : AllAssumed y → AllAssumed z
  pub unassumed : (answer : Answer) → IsUnassumed y answer → IsUnassumed z answer
  pub answer : (answer : Answer) → IsAnswer y answer → IsAnswer z answer

abbrev pub AskAlike : Type 0
AskAlike = (s t : Spec) (log m : Log) (asked : Asked) → AreBeside s t log m → AskSame (pair_asks s log asked) (pair_asks t m asked)

abbrev pub AnswersAlike : Type 0
AnswersAlike = (s t : Spec) (log m : Log) (asked : Asked) → AreBeside s t log m → AnswerSame (system s log asked) (system t m asked)

abbrev pub VerdictsAlike : Type 0
VerdictsAlike =
    (s t : Spec) (log m : Log) (asked : Asked) → AreBeside s t log m → (w : List Shown) (v : Verdict) → IsVerdict (pair_asks s log asked) w v → IsVerdict (pair_asks t m asked) w v
