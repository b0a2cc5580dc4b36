-- Over two specifications that are alike, beside the lines of logs that are alike, the same is true.
use Rattle.std.specs.Prelude.{Bool, List}
use Rattle.std.specs.List.{AllZip}
use Rattle.states_core.specs.declared.state.Shown.{Shown}
use Rattle.names_terms.specs.declared.operator.Operator.{Operator}
use Rattle.names_terms.specs.declared.spec.Spec.{Spec}
use Rattle.steps_lines_defs.specs.Logs.{Asked}
use Rattle.logs_tied.specs.declared.logs.Lined.{Lined}
use Rattle.logs_lines.specs.declared.file.FileLines.{FileLines}
use Rattle.logs_files.specs.Lined.{IsLinedOf}
use Rattle.states_layers.specs.declared.answer.Answer.{Answer}
use Rattle.states_verdicts.specs.declared.verdict.Verdict.{Verdict}
use Rattle.steps_lined.specs.Answers.{AreAssumedOf, IsTrueOf, IsUnassumedOf}
use Rattle.judge_verdicts.specs.Lined.{IsJudgedOf}
use Rattle.twice_logs.specs.AlikeFiles.{AreAlikeFiles}
use Rattle.twice_logs.specs.LinedBeside.{AreAlikeLined, AreBesideLined}

-- files that are alike one by one have lines that are alike
abbrev pub LinedAreAlike : Type 0
LinedAreAlike =
    (ops all : List Operator) (ties : Bool) (files others : List FileLines) (a b : Lined) → AllZip (AreAlikeFiles ops all) files others → IsLinedOf ties files a → IsLinedOf ties others b
    → AreAlikeLined ops all a b

-- All that is answered of the one specification can be answered of the other.
pub record AnswerSameOf (s t : Spec) (asked : Asked) (a b : Lined) : Type 0 where
  pub assumed : AreAssumedOf s asked a → AreAssumedOf t asked b
  pub unassumed : (answer : Answer) → IsUnassumedOf s asked a answer → IsUnassumedOf t asked b answer
  pub answer : (answer : Answer) → IsTrueOf s asked a answer → IsTrueOf t asked b answer

abbrev pub LinedAnswersAlike : Type 0
LinedAnswersAlike = (s t : Spec) (a b : Lined) (asked : Asked) → AreBesideLined s t a b → AnswerSameOf s t asked a b

abbrev pub LinedVerdictsAlike : Type 0
LinedVerdictsAlike = (s t : Spec) (a b : Lined) (asked : Asked) → AreBesideLined s t a b → (w : List Shown) (v : Verdict) → IsJudgedOf s asked a w v → IsJudgedOf t asked b w v
