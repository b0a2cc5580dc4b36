-- What is asked over the one specification beside its log is asked over the other.
use Rattle.std.proofs.Common.{◌≡◌, ◌∙◌, refl, inl, inr, subst, List, [], length}
use Rattle.std.specs.Prelude.{ℕ, Bool, true, false, Result, Ok, Err}
use Rattle.base_core.specs.declared.place.Place.{Place}
use Rattle.states_core.specs.States.{Values}
use Rattle.states_core.specs.declared.fault.Fault.{Fault}
use Rattle.names_terms.specs.declared.spec.Spec.{Spec}
use Rattle.names_terms.specs.Lists.{terms_list}
use Rattle.eval_meanings.specs.Evaluates.{max_evaluations}
use Rattle.actions_meanings.specs.Reads.{in_none}
use Rattle.logs_updates.specs.declared.line.Line.{Line}
use Rattle.logs_updates.specs.declared.line.Log.{Log}
use Rattle.logs_updates.specs.declared.update.See.{See}
use Rattle.logs_updates.specs.declared.update.Update.{Update}
use Rattle.steps_lines_defs.specs.Says.{BothFail, BothHold, IsState, at_states}
use Rattle.steps_lines_defs.specs.Asks.{AreSeen, HasNoEvent, Moves, act_of, asks, updated}
use Rattle.steps_lines_defs.specs.Steps.{FaultStep, Rests, Step}
use Rattle.steps_lines_defs.specs.Logs.{Asked, Assumption, OfLine, system}
use Rattle.judge_truth.specs.Truths.{everything}
use Rattle.judge_pairs.specs.Filling.{BothFailThere, pair_asks}
use Rattle.twice_terms.specs.Alike.{Alike}
use Rattle.twice_terms.specs.Laws.{AreOne}
use Rattle.twice_outcomes.proofs.AlikeLists.{terms_zip}
use Rattle.twice_outcomes.specs.Outcomes.{EvaluatesAlike}
use Rattle.twice_logs.specs.AlikeLogs.{AreAlikeLines}
use Rattle.twice_logs.specs.Steps.{AreBeside}
use Rattle.twice_logs.proofs.Carried.{Carries}
use Rattle.twice_logs.proofs.Acts.{ActionsAlike, AlikeActs, AreOver, both_fail, both_fail_there, both_hold, events_acts, fault_first, fault_silent, fault_silent_there, initial_same, is_state, no_events, silent_same}
use Rattle.twice_logs.proofs.LogLines.{of_assumption, of_false_assumption, of_line, same_places, zip_long}

module _ (actions : ActionsAlike) (evaluates : EvaluatesAlike) (s t : Spec) (log m : Log) (asked : Asked) (beside : AreBeside s t log m) where
  over : AreOver s t
  over = record { specs = beside.specs; smaller = beside.smaller; smaller_other = beside.smaller_other }

  abbrev AreLines : Line → Line → Type 0
  AreLines l k = AreAlikeLines s.operators t.operators l k

  -- what holds of the line of that number
  through : (n : ℕ) (P Q : Line → Type 0) → ((l k : Line) → AreLines l k → P l → Q k) → OfLine log.lines n P → OfLine m.lines n Q
  through n P Q f h = of_line s.operators t.operators log.lines m.lines n P Q beside.logs.lines f h

  acts_of : (l k : Line) → AreLines l k → AlikeActs s.operators t.operators (act_of l.event) (act_of k.event)
  acts_of l k a = events_acts s.operators t.operators l.event k.event a.event

  assumption : (k : ℕ) (r : Result Bool Fault) → Assumption s k r → Assumption t k r
  assumption k r h =
      of_assumption s.operators t.operators evaluates beside.smaller beside.smaller_other s.assumes t.assumes k max_evaluations (at_states [] [] []) r beside.specs.assumes h

  false_assumption : (k : ℕ) (at : Place) → (system s log asked).IsFalse k at → (system t m asked).IsFalse k at
  false_assumption k at h =
      of_false_assumption s.operators t.operators evaluates beside.smaller beside.smaller_other s.assumes t.assumes k max_evaluations (at_states [] [] []) (Ok false) at
      beside.specs.assumes h

  line_moves : (l k : Line) (u v : Values) → AreLines l k → Moves l.updates u v → Moves k.updates u v
  line_moves l k u v a h = subst (λ (us : List Update). Moves us u v) a.updates h

  line_seen : (l k : Line) (v : Values) → AreLines l k → AreSeen l.sees v → AreSeen k.sees v
  line_seen l k v a h = subst (λ (sees : List See). AreSeen sees v) a.sees h

  line_holds : (l k : Line) (u v : Values) → AreLines l k → BothHold s (act_of l.event) u v → BothHold t (act_of k.event) u v
  line_holds l k u v a h = both_hold actions s t over (act_of l.event) (act_of k.event) u v (acts_of l k a) h

  line_stutters : (l k : Line) → AreLines l k → (asked.stutter ≡ true) × HasNoEvent l.event → (asked.stutter ≡ true) × HasNoEvent k.event
  line_stutters l k a h = (h.0, no_events s.operators t.operators l.event k.event a.event h.1)

  line_rests : (l k : Line) (u v : Values) → AreLines l k → Rests (asks s asked.stutter l) u v → Rests (asks t asked.stutter k) u v
  line_rests l k u v a h = (line_stutters l k a h.0, h.1, line_moves l k u v a h.2, line_seen l k v a h.3)

  line_step : (l k : Line) (u v : Values) → AreLines l k → Step (asks s asked.stutter l) u v → Step (asks t asked.stutter k) u v
  line_step l k u v a h = (
    is_state actions s t over v h.0,
    elim h.1 [
      | inl b ↦ inl (line_moves l k u v a b.0, line_holds l k u v a b.1, line_seen l k v a b.2)
      | inr r ↦ inr (line_rests l k u v a r)
    ],
  )

  line_faults : (l k : Line) (u v : Values) (f : Fault) → AreLines l k → FaultStep (asks s asked.stutter l) (updated l.updates) u v f
      → FaultStep (asks t asked.stutter k) (updated k.updates) u v f
  line_faults l k u v f a h = (
    is_state actions s t over v h.0,
    line_moves l k u v a h.1,
    subst (λ (us : List Update). BothFail t (act_of k.event) (updated us) u v f) a.updates
        (both_fail actions s t over (act_of l.event) (act_of k.event) (updated l.updates) u v f (acts_of l k a) h.2),
  )

  pub carries : Carries (pair_asks s log asked) (pair_asks t m asked)
  carries = record {
    init = λ u h. initial_same actions s t over u h;
    init_seen = λ u h. subst (λ (sees : List See). AreSeen sees u) beside.logs.init h;
    step = λ n u v h. through n (λ l. Step (asks s asked.stutter l) u v) (λ l. Step (asks t asked.stutter l) u v) (λ l k a. line_step l k u v a) h;
    seen = λ n u v h. through n (λ l. AreSeen l.sees v) (λ l. AreSeen l.sees v) (λ l k a. line_seen l k v a) h;
    silent = λ u v h. silent_same actions s t over u v h;
    first_fault = λ u f h. fault_first actions s t over in_none u f h;
    step_fault = λ n u v f h.
        through n (λ l. FaultStep (asks s asked.stutter l) (updated l.updates) u v f) (λ l. FaultStep (asks t asked.stutter l) (updated l.updates) u v f)
        (λ l k a. line_faults l k u v f a) h;
    silent_fault = λ u v f h. fault_silent actions s t over in_none u v f h;
    at = λ n u v. same_places s.operators t.operators log.lines m.lines n beside.logs.lines;
    expected = λ n u at h. h ∙ same_places s.operators t.operators log.lines m.lines n beside.logs.lines;
    state_of = λ u. refl;
    count = zip_long AreLines log.lines m.lines beside.logs.lines;
    within = refl;
    limit = refl;
    total = refl;
    assumes = zip_long (Alike AreOne s.operators t.operators) (terms_list s.assumes) (terms_list t.assumes) (terms_zip s.operators t.operators s.assumes t.assumes beside.specs.assumes);
    assumed = λ k h. assumption k (Ok true) h;
    assumption_fault = λ k f h. assumption k (Err f) h;
    is_false = λ k at h. false_assumption k at h;
    moves = λ n u v h.
        through n (λ l. IsState (length s.variables) v × Moves l.updates u v) (λ l. IsState (length t.variables) v × Moves l.updates u v)
        (λ l k a x. (is_state actions s t over v x.0, line_moves l k u v a x.1)) h;
    acts = λ n u v h. through n (λ l. BothHold s (act_of l.event) u v) (λ l. BothHold t (act_of l.event) u v) (λ l k a. line_holds l k u v a) h;
    stutters = λ n h. through n (λ l. (asked.stutter ≡ true) × HasNoEvent l.event) (λ l. (asked.stutter ≡ true) × HasNoEvent l.event) (λ l k a. line_stutters l k a) h;
    fault_init = λ u f h. fault_first actions s t over everything u f h;
    fault_acts = λ n u v f h.
        through n (λ l. BothFailThere s (act_of l.event) u v f) (λ l. BothFailThere t (act_of l.event) u v f)
        (λ l k a. both_fail_there actions s t over (act_of l.event) (act_of k.event) u v f (acts_of l k a)) h;
    fault_silent = λ u v f h. fault_silent_there actions s t over u v f h;
  }
