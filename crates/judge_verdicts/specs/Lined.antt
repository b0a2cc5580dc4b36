-- What a verdict says of a list of marked states beside the lines of all logs.
use Rattle.std.specs.Prelude.{List}
use Rattle.states_core.specs.declared.state.Shown.{Shown}
use Rattle.names_terms.specs.declared.spec.Spec.{Spec}
use Rattle.steps_lines_defs.specs.Logs.{Asked}
use Rattle.logs_tied.specs.declared.logs.Lined.{Lined}
use Rattle.logs_tied.specs.declared.logs.Lined.TheVariants.{Sequence, Tied}
use Rattle.states_verdicts.specs.Verdicts.{IsVerdict}
use Rattle.states_verdicts.specs.declared.verdict.Verdict.{Verdict}
use Rattle.judge_pairs.specs.Filling.{pair_asks}
use Rattle.judge_verdicts.specs.Tied.{IsTiedVerdict}

-- The states are judged beside the one log; or beside all lines in the order that their marks name.
abbrev pub IsJudgedOf : Spec → Asked → Lined → List Shown → Verdict → Type 0
IsJudgedOf g asked (Sequence log) w v = IsVerdict (pair_asks g log asked) w v
IsJudgedOf g asked (Tied logs) w v = IsTiedVerdict g logs asked w v
