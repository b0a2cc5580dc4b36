-- Where no more lines are explained, the next line leads on from nothing that is reached.
use Rattle.std.proofs.Common.{◌≡◌, ◌⊎◌, subst, ℕ, Bool, false, List, length, Some, All, inl, inr, slice_get}
use Rattle.std.specs.List.{Contains}
use Rattle.std.proofs.lemmas.Bool.{false≢true}
use Rattle.std.specs.List.Sorted.{IsPermutation}
use Rattle.std.proofs.lemmas.List.Elements.{All-contains_itself, All-get_or, All-weaker}
use Rattle.std.proofs.lemmas.Option.{get_or_from_slice_get, slice_get_within}
use Rattle.std.proofs.lemmas.List.Sorted.{All-permutation}
use Rattle.states_core.specs.Runs.{Run, go, start, wait}
use Rattle.states_core.specs.States.{Values}
use Rattle.states_core.specs.declared.state.Shown.{Shown}
use Rattle.names_terms.specs.declared.spec.Spec.{Spec}
use Rattle.logs_updates.specs.declared.line.Line.{Line}
use Rattle.logs_updates.specs.declared.line.Log.{Log}
use Rattle.steps_lines_defs.specs.Asks.{asks}
use Rattle.steps_lines_defs.specs.Logs.{Asked, system}
use Rattle.steps_lines_defs.specs.Says.{IsState}
use Rattle.steps_lines_defs.specs.Steps.{Step}
use Rattle.states_layers.specs.Gives.{IsReached}
use Rattle.run_why.specs.Ends.{EndsAt}
use Rattle.run_why.specs.Tells.{LeadsNowhere}

-- what is reached is a state of the specification
run_state : (g : Spec) (log : Log) (a : Asked) (n j : ℕ) (s : Values) (w : List Shown) → Run (system g log a) n j s w → IsState (length g.variables) s
run_state g log a _ _ _ _ (start s init seen) = init.0
run_state g log a _ _ _ _ (wait n j s t w r left within step) = step.0
run_state g log a _ _ _ _ (go n j s t w r left step) = step.2.0

first_alone : (X Y Z : Type 0) → (Y → ⊥) → X ⊎ Y → X ⊎ Z
first_alone X Y Z never (inl x) = inl x
first_alone X Y Z never (inr y) = absurd (never y)

-- a step is one, too, where the state may stay as it is
step_more : (g : Spec) (stutter : Bool) (line : Line) (s t : Values) → Step (asks g false line) s t → Step (asks g stutter line) s t
step_more g stutter line s t step = (step.0, first_alone _ _ _ (λ rests. false≢true rests.0.0) step.1)

pub leads_nowhere : (g : Spec) (log : Log) (a : Asked) (n : ℕ) (last : List Values) (line : Line) (s : Values) → EndsAt g log a n last
    → slice_get log.lines n ≡ Some line → IsReached (system g log a) n s → LeadsNowhere g line s
leads_nowhere g log a n last line s ends is reached = record {
  state = run_state g log a n reached.0 s reached.1.states reached.1.run;
  none = λ t step. ends.none _ (t, go n reached.0 s t reached.1.states reached.1.run ends.left (line, is, step_more g a.stutter line s t step));
}

-- so from each of these entries, in whichever order they are
pub all_nowhere : (g : Spec) (log : Log) (a : Asked) (n : ℕ) (last entries : List Values) (line : Line) → EndsAt g log a n last → slice_get log.lines n ≡ Some line
    → IsPermutation last entries → All (LeadsNowhere g line) entries
all_nowhere g log a n last entries line ends is same =
    All-permutation (LeadsNowhere g line) last entries same
    (All-weaker (Contains last) (LeadsNowhere g line) (λ s has. leads_nowhere g log a n last line s ends is (ends.all.are.members s has)) last (All-contains_itself last))

-- what holds of each line holds of that one
pub line_has : (lines : List Line) (n : ℕ) (line : Line) (P : Line → Type 0) → slice_get lines n ≡ Some line → All P lines → P line
line_has lines n line P is all = subst P (get_or_from_slice_get lines n line line is) (All-get_or P lines n line (slice_get_within lines n line is) all)
