-- What a search explains of the lines of all logs, judged.
use Rattle.std.specs.Prelude.{ℕ, List, All, length}
use Rattle.states_core.specs.declared.state.Shown.{Shown}
use Rattle.names_terms.specs.declared.spec.Spec.{Spec}
use Rattle.steps_lines_defs.specs.Logs.{Asked}
use Rattle.steps_lines_defs.specs.Says.{IsState}
use Rattle.logs_tied.specs.declared.logs.Lined.{Lined}
use Rattle.states_layers.specs.declared.answer.Answer.TheVariants.{Explained}
use Rattle.states_verdicts.specs.Laws.{AreOne}
use Rattle.states_verdicts.specs.declared.verdict.Verdict.{Verdict}
use Rattle.states_verdicts.specs.declared.verdict.Verdict.TheVariants.{Valid}
use Rattle.steps_lined.specs.Answers.{IsTrueOf}
use Rattle.steps_lined.specs.Beside.{AreTellable}
use Rattle.judge_verdicts.specs.Lined.{IsJudgedOf}

-- The behaviour of each true answer EXPLAINED is valid.
abbrev pub ExplainedIsJudgedValid : Spec → Lined → Asked → Type 0
ExplainedIsJudgedValid g lined asked = (w : List Shown) (widest : ℕ) → IsTrueOf g asked lined (Explained w widest) → IsJudgedOf g asked lined w Valid

-- Each of its states has a value for each variable.
abbrev pub ExplainedAreStates : Spec → Lined → Asked → Type 0
ExplainedAreStates g lined asked = (w : List Shown) (widest : ℕ) → IsTrueOf g asked lined (Explained w widest) → All (λ x. IsState (length g.variables) x.state) w

-- A list has one verdict, but for which of several faults is named.
abbrev pub HaveOneOf : Spec → Lined → Asked → Type 0
HaveOneOf g lined asked = AreTellable lined → (w : List Shown) (v u : Verdict) → IsJudgedOf g asked lined w v → IsJudgedOf g asked lined w u → AreOne v u
