-- Behaviours go over states of the specification.
use Rattle.std.proofs.Common.{◌≡◌, ℕ, List, [], ◌∷◌, ◌++◌, length}
use Rattle.std.specs.List.{All}
use Rattle.std.proofs.lemmas.List.Elements.{All-nil, All-push}
use Rattle.states_core.specs.States.{Values, shown}
use Rattle.states_core.specs.Runs.{Run, start, wait, go}
use Rattle.states_core.specs.declared.state.Mark.TheVariants.{Init, Silent, Line}
use Rattle.states_core.specs.declared.state.Shown.{Shown}
use Rattle.names_terms.specs.declared.spec.Spec.{Spec}
use Rattle.logs_updates.specs.declared.line.Log.{Log}
use Rattle.steps_lines_defs.specs.Logs.{Asked, system}
use Rattle.steps_lines_defs.specs.Says.{IsState}
use Rattle.states_verdicts.specs.Laws.{FoundIsValid}
use Rattle.states_verdicts.specs.Asks.{IsMonotone}
use Rattle.judge_pairs.specs.Filling.{pair_asks}
use Rattle.judge_verdicts.specs.Explained.{BehavesOverStates, ExplainedIsValid}

abbrev IsOf : Spec → Shown → Type 0
IsOf g x = IsState (length g.variables) x.state

run_states : (g : Spec) (log : Log) (asked : Asked) (n j : ℕ) (s : Values) (w : List Shown) → Run (system g log asked) n j s w → All (IsOf g) w
run_states g log asked n j s w (start u i e) = All-push (IsOf g) [] (shown Init u) (All-nil (IsOf g)) i.0
run_states g log asked n j s w (wait m k u t v r lt le h) = All-push (IsOf g) v (shown Silent t) (run_states g log asked m k u v r) h.0
run_states g log asked n j s w (go m k u t v r lt h) =
    All-push (IsOf g) v (shown (Line ((system g log asked).at m u t)) t) (run_states g log asked m k u v r) h.2.0

pub behaves_over : (g : Spec) (log : Log) (asked : Asked) → BehavesOverStates g log asked
behaves_over g log asked n w b = run_states g log asked n 0 b.0 w b.1

pub explained_valid : (g : Spec) (log : Log) (asked : Asked) → IsMonotone (pair_asks g log asked) → FoundIsValid (pair_asks g log asked) → ExplainedIsValid g log asked
explained_valid g log asked monotone found w widest a = found monotone (record { init = a.1.clear.init; steps = a.1.clear.steps }) w a.1.behaves
