-- A specification beside a log, as the search over layers asks for it. Lines and assumptions are counted from 0.
use Rattle.std.specs.Prelude.{◌≡◌, ℕ, Bool, true, false, List, [], length, Option, Some, None, Ok, Err, slice_get}
use Rattle.base_core.specs.declared.place.LineAt.{LineAt}
use Rattle.states_core.specs.States.{Values}
use Rattle.states_core.specs.System.{System}
use Rattle.names_terms.specs.declared.spec.Spec.{Spec}
use Rattle.names_terms.specs.Lists.{terms_list}
use Rattle.names_terms.specs.Terms.{Term, place_of}
use Rattle.eval_meanings.specs.Evaluates.{Evaluates, max_evaluations}
use Rattle.eval_meanings.specs.Outcomes.{Outcome}
use Rattle.eval_meanings.specs.Unchanged.{TruthOf}
use Rattle.actions_meanings.specs.Reads.{in_none}
use Rattle.logs_updates.specs.declared.line.Line.{Line}
use Rattle.logs_updates.specs.declared.line.Log.{Log}
use Rattle.steps_lines_defs.specs.Says.{at_states}
use Rattle.steps_lines_defs.specs.Asks.{AreSeen, asks, updated}
use Rattle.steps_lines_defs.specs.Steps.{FaultFirst, FaultSilent, FaultStep, IsInitial, Silent, Step}

-- what is asked for beside the specification and the log
pub record Asked : Type 0 where
  -- whether a line without an event may leave the state as it is
  pub stutter : Bool
  -- at most this many steps from one line's state to the next line's, that line's own step counted
  pub within : ℕ
  -- the greatest size of one layer, and of all layers together
  pub limit : ℕ
  pub total : ℕ

-- the fact holds of the line of that number
abbrev pub OfLine : List Line → ℕ → (Line → Type 0) → Type 0
OfLine lines n P = (l : Line) × (slice_get lines n ≡ Some l) × P l

-- where the line of that number stands
abbrev pub place_of_line : Option Line → LineAt
place_of_line None = record { file = 0; line = 0 }
place_of_line (Some l) = l.at

-- the truth value that the assumption of that number has
abbrev pub Assumption : Spec → ℕ → Outcome Bool
Assumption g k r = (e : Term) × (slice_get (terms_list g.assumes) k ≡ Some e) × TruthOf (Evaluates g.operators max_evaluations) (at_states [] [] []) e r

abbrev pub system : Spec → Log → Asked → System Values
system g log asked = record {
  Init = IsInitial g;
  InitSeen = AreSeen log.init;
  Step = λ n s t. OfLine log.lines n (λ l. Step (asks g asked.stutter l) s t);
  Seen = λ n s t. OfLine log.lines n (λ l. AreSeen l.sees t);
  Silent = Silent g;
  FaultInit = FaultFirst g in_none;
  FaultStep = λ n s t f. OfLine log.lines n (λ l. FaultStep (asks g asked.stutter l) (updated l.updates) s t f);
  FaultSilent = FaultSilent g in_none;
  at = λ n s t. place_of_line (slice_get log.lines n);
  Expected = λ n s at. at ≡ place_of_line (slice_get log.lines n);
  state_of = λ s. s;
  count = length log.lines;
  within = asked.within;
  limit = asked.limit;
  total = asked.total;
  assumes = length (terms_list g.assumes);
  IsAssumed = λ k. Assumption g k (Ok true);
  FaultAssume = λ k f. Assumption g k (Err f);
  IsFalse = λ k at. (e : Term) × (slice_get (terms_list g.assumes) k ≡ Some e) × TruthOf (Evaluates g.operators max_evaluations) (at_states [] [] []) e (Ok false) × (at ≡ place_of e);
}
