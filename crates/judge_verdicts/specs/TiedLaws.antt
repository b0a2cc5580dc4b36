-- What a search over cuts explains, judged.
use Rattle.std.specs.Prelude.{ℕ, List, All, length}
use Rattle.states_core.specs.Runs.{IsBehaviour}
use Rattle.states_core.specs.declared.state.Shown.{Shown}
use Rattle.names_terms.specs.declared.spec.Spec.{Spec}
use Rattle.steps_lines_defs.specs.Logs.{Asked}
use Rattle.steps_lines_defs.specs.Says.{IsState}
use Rattle.states_layers.specs.Answers.{IsAnswer}
use Rattle.states_layers.specs.declared.answer.Answer.TheVariants.{Explained}
use Rattle.states_verdicts.specs.Laws.{AreOne}
use Rattle.states_verdicts.specs.declared.verdict.Verdict.{Verdict}
use Rattle.states_verdicts.specs.declared.verdict.Verdict.TheVariants.{Valid}
use Rattle.logs_tied.specs.Lines.{HaveOwnPlaces}
use Rattle.logs_tied.specs.declared.logs.Logs.{Logs}
use Rattle.steps_tied.specs.Tied.{tied_system}
use Rattle.judge_verdicts.specs.Tied.{IsTiedVerdict}

-- The behaviour of each true answer EXPLAINED over cuts is valid.
abbrev pub TiedExplainedIsValid : Spec → Logs → Asked → Type 0
TiedExplainedIsValid g logs asked = (w : List Shown) (widest : ℕ) → IsAnswer (tied_system g logs asked) (Explained w widest) → IsTiedVerdict g logs asked w Valid

-- Each state of a behaviour over cuts is one of the specification: it has a value for each variable.
abbrev pub BehavesOverTied : Spec → Logs → Asked → Type 0
BehavesOverTied g logs asked = (n : ℕ) (w : List Shown) → IsBehaviour (tied_system g logs asked) n w → All (λ x. IsState (length g.variables) x.state) w

-- A list has one verdict beside logs of which no two lines have one place, but for which of several faults is named.
abbrev pub HaveOneTied : Spec → Logs → Asked → Type 0
HaveOneTied g logs asked = HaveOwnPlaces logs.files.items → (w : List Shown) (v u : Verdict) → IsTiedVerdict g logs asked w v → IsTiedVerdict g logs asked w u → AreOne v u
