-- The report of a verdict on given states.
use Rattle.std.specs.Prelude.{ℕ, List, ◌++◌, codes, decimal}
use Rattle.states_verdicts.specs.declared.verdict.Reason.{Reason}
use Rattle.states_verdicts.specs.declared.verdict.Reason.TheVariants as reason
use Rattle.states_verdicts.specs.declared.verdict.Verdict.{Verdict}
use Rattle.states_verdicts.specs.declared.verdict.Verdict.TheVariants as verdict
use Rattle.run_texts.specs.Answers.{fault_text}

-- why a state is not clean
abbrev pub reason_text : Reason → List ℕ
reason_text reason.NoState = codes "NoState"
reason_text reason.WrongMark = codes "WrongMark"
reason_text reason.NotInit = codes "NotInit"
reason_text reason.TooManySilent = codes "TooManySilent"
reason_text reason.WrongLine = codes "WrongLine"
reason_text reason.NotSilent = codes "NotSilent"
reason_text reason.NotStep = codes "NotStep"
reason_text reason.NotSeen = codes "NotSeen"
reason_text reason.LinesLeft = codes "LinesLeft"

-- the report of a verdict on so many states, with the specification's files
abbrev pub verdict_text : List (List ℕ) → ℕ → Verdict → List ℕ
verdict_text files states verdict.Valid = codes "VALID states=" ++ decimal states ++ codes "\n"
verdict_text files states (verdict.Invalid index why) =
    codes "INVALID index=" ++ decimal index ++ codes " reason=" ++ reason_text why ++ codes "\n"
verdict_text files states (verdict.Fault index kind at) =
    codes "FAULT " ++ fault_text files kind at ++ codes " index=" ++ decimal index ++ codes "\n"
