-- What is asked on the one side is asked on the other; both ways, the two ask the same.
use Rattle.std.specs.Prelude.{◌≡◌, ℕ}
use Rattle.base_core.specs.declared.place.LineAt.{LineAt}
use Rattle.base_core.specs.declared.place.Place.{Place}
use Rattle.states_core.specs.States.{Values}
use Rattle.states_core.specs.declared.fault.Fault.{Fault}
use Rattle.states_verdicts.specs.Asks.{PairAsks}
use Rattle.twice_logs.specs.Same.{AskSame, SaySame}

pub record Carries (a b : PairAsks) : Type 0 where
  pub init : (s : Values) → a.system.Init s → b.system.Init s
  pub init_seen : (s : Values) → a.system.InitSeen s → b.system.InitSeen s
  pub step : (n : ℕ) (s t : Values) → a.system.Step n s t → b.system.Step n s t
  pub seen : (n : ℕ) (s t : Values) → a.system.Seen n s t → b.system.Seen n s t
  pub silent : (s t : Values) → a.system.Silent s t → b.system.Silent s t
  pub first_fault : (s : Values) (f : Fault) → a.system.FaultInit s f → b.system.FaultInit s f
  pub step_fault : (n : ℕ) (s t : Values) (f : Fault) → a.system.FaultStep n s t f → b.system.FaultStep n s t f
  pub silent_fault : (s t : Values) (f : Fault) → a.system.FaultSilent s t f → b.system.FaultSilent s t f
  pub at : (n : ℕ) (s t : Values) → a.system.at n s t ≡ b.system.at n s t
  pub expected : (n : ℕ) (s : Values) (at : LineAt) → a.system.Expected n s at → b.system.Expected n s at
  pub state_of : (s : Values) → a.system.state_of s ≡ b.system.state_of s
  pub count : a.system.count ≡ b.system.count
  pub within : a.system.within ≡ b.system.within
  pub limit : a.system.limit ≡ b.system.limit
  pub total : a.system.total ≡ b.system.total
  pub assumes : a.system.assumes ≡ b.system.assumes
  pub assumed : (k : ℕ) → a.system.IsAssumed k → b.system.IsAssumed k
  pub assumption_fault : (k : ℕ) (f : Fault) → a.system.FaultAssume k f → b.system.FaultAssume k f
  pub is_false : (k : ℕ) (at : Place) → a.system.IsFalse k at → b.system.IsFalse k at
  pub moves : (n : ℕ) (s t : Values) → a.Moves n s t → b.Moves n s t
  pub acts : (n : ℕ) (s t : Values) → a.Acts n s t → b.Acts n s t
  pub stutters : (n : ℕ) → a.Stutters n → b.Stutters n
  pub fault_init : (t : Values) (f : Fault) → a.FaultInit t f → b.FaultInit t f
  pub fault_acts : (n : ℕ) (s t : Values) (f : Fault) → a.FaultActs n s t f → b.FaultActs n s t f
  pub fault_silent : (s t : Values) (f : Fault) → a.FaultSilent s t f → b.FaultSilent s t f

module _ (a b : PairAsks) (there : Carries a b) (back : Carries b a) where
  say_same : SaySame a.system b.system
  say_same = record {
    init = λ s. (there.init s, back.init s);
    init_seen = λ s. (there.init_seen s, back.init_seen s);
    step = λ n s t. (there.step n s t, back.step n s t);
    seen = λ n s t. (there.seen n s t, back.seen n s t);
    silent = λ s t. (there.silent s t, back.silent s t);
    fault_init = λ s f. (there.first_fault s f, back.first_fault s f);
    fault_step = λ n s t f. (there.step_fault n s t f, back.step_fault n s t f);
    fault_silent = λ s t f. (there.silent_fault s t f, back.silent_fault s t f);
    at = there.at;
    expected = λ n s at. (there.expected n s at, back.expected n s at);
    state_of = there.state_of;
    count = there.count;
    within = there.within;
    limit = there.limit;
    total = there.total;
    assumes = there.assumes;
    assumed = λ k. (there.assumed k, back.assumed k);
    fault_assume = λ k f. (there.assumption_fault k f, back.assumption_fault k f);
    is_false = λ k at. (there.is_false k at, back.is_false k at);
  }

  pub ask_same : AskSame a b
  ask_same = record {
    systems = say_same;
    moves = λ n s t. (there.moves n s t, back.moves n s t);
    acts = λ n s t. (there.acts n s t, back.acts n s t);
    stutters = λ n. (there.stutters n, back.stutters n);
    fault_init = λ t f. (there.fault_init t f, back.fault_init t f);
    fault_acts = λ n s t f. (there.fault_acts n s t f, back.fault_acts n s t f);
    fault_silent = λ s t f. (there.fault_silent s t f, back.fault_silent s t f);
  }
