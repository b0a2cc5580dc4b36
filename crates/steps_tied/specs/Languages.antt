-- What a specification says of states, and what it asks of a line, wherever in an order the line stands.
use Rattle.std.specs.Prelude.{◌≡◌, ℕ, true, false, List, [], length, Ok, Err, Some, slice_get}
use Rattle.base_core.specs.declared.place.Place.{Place}
use Rattle.states_core.specs.States.{Values}
use Rattle.states_core.specs.declared.fault.Fault.{Fault}
use Rattle.names_terms.specs.Lists.{terms_list}
use Rattle.names_terms.specs.Terms.{Term, place_of}
use Rattle.names_terms.specs.declared.spec.Spec.{Spec}
use Rattle.eval_meanings.specs.Evaluates.{Evaluates, max_evaluations}
use Rattle.eval_meanings.specs.Unchanged.{TruthOf}
use Rattle.actions_meanings.specs.Reads.{in_none}
use Rattle.logs_updates.specs.declared.line.Line.{Line}
use Rattle.logs_updates.specs.declared.update.See.{See}
use Rattle.steps_lines_defs.specs.Asks.{AreSeen, asks, updated}
use Rattle.steps_lines_defs.specs.Logs.{Asked, Assumption}
use Rattle.steps_lines_defs.specs.Says.{at_states}
use Rattle.steps_lines_defs.specs.Steps.{FaultFirst, FaultSilent, FaultStep, IsInitial, Silent, Step}

-- the relations of a System without the order of the lines, each for any line
pub record Language : Type 1 where
  pub Init : Values → Type 0
  pub InitSeen : Values → Type 0
  pub Step : Line → Values → Values → Type 0
  pub Seen : Line → Values → Type 0
  pub Silent : Values → Values → Type 0
  pub FaultInit : Values → Fault → Type 0
  pub FaultStep : Line → Values → Values → Fault → Type 0
  pub FaultSilent : Values → Values → Fault → Type 0
  pub within : ℕ
  pub limit : ℕ
  pub total : ℕ
  pub assumes : ℕ
  pub IsAssumed : ℕ → Type 0
  pub FaultAssume : ℕ → Fault → Type 0
  pub IsFalse : ℕ → Place → Type 0

-- those of a specification, where this is seen at first, and so it is asked
abbrev pub language : Spec → List See → Asked → Language
language g init asked = record {
  Init = IsInitial g;
  InitSeen = AreSeen init;
  Step = λ l s t. Step (asks g asked.stutter l) s t;
  Seen = λ l t. AreSeen l.sees t;
  Silent = Silent g;
  FaultInit = FaultFirst g in_none;
  FaultStep = λ l s t f. FaultStep (asks g asked.stutter l) (updated l.updates) s t f;
  FaultSilent = FaultSilent g in_none;
  within = asked.within;
  limit = asked.limit;
  total = asked.total;
  assumes = length (terms_list g.assumes);
  IsAssumed = λ k. Assumption g k (Ok true);
  FaultAssume = λ k f. Assumption g k (Err f);
  IsFalse = λ k at. (e : Term) × (slice_get (terms_list g.assumes) k ≡ Some e) × TruthOf (Evaluates g.operators max_evaluations) (at_states [] [] []) e (Ok false) × (at ≡ place_of e);
}
