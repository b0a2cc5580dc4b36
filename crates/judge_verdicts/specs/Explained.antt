-- What the search explains, judged.
use Rattle.std.specs.Prelude.{ℕ, List, All, length}
use Rattle.states_core.specs.Runs.{IsBehaviour}
use Rattle.states_core.specs.declared.state.Shown.{Shown}
use Rattle.names_terms.specs.declared.spec.Spec.{Spec}
use Rattle.logs_updates.specs.declared.line.Log.{Log}
use Rattle.steps_lines_defs.specs.Logs.{Asked, system}
use Rattle.steps_lines_defs.specs.Says.{IsState}
use Rattle.states_layers.specs.Answers.{IsAnswer}
use Rattle.states_layers.specs.declared.answer.Answer.TheVariants.{Explained}
use Rattle.states_verdicts.specs.Verdicts.{IsVerdict}
use Rattle.states_verdicts.specs.declared.verdict.Verdict.TheVariants.{Valid}
use Rattle.judge_pairs.specs.Filling.{pair_asks}

-- The behaviour of each true answer EXPLAINED is valid.
abbrev pub ExplainedIsValid : Spec → Log → Asked → Type 0
ExplainedIsValid g log asked = (w : List Shown) (widest : ℕ) → IsAnswer (system g log asked) (Explained w widest) → IsVerdict (pair_asks g log asked) w Valid

-- Each state of a behaviour is one of the specification: it has a value for each variable.
abbrev pub BehavesOverStates : Spec → Log → Asked → Type 0
BehavesOverStates g log asked = (n : ℕ) (w : List Shown) → IsBehaviour (system g log asked) n w → All (λ x. IsState (length g.variables) x.state) w
