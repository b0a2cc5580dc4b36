-- Two systems that say the same, relation by relation, and two that ask the same of given states.
use Rattle.std.specs.Prelude.{◌≡◌, ◌↔◌, ℕ}
use Rattle.base_core.specs.declared.place.LineAt.{LineAt}
use Rattle.base_core.specs.declared.place.Place.{Place}
use Rattle.states_core.specs.States.{Values}
use Rattle.states_core.specs.System.{System}
use Rattle.states_core.specs.declared.fault.Fault.{Fault}
use Rattle.states_verdicts.specs.Asks.{PairAsks}

pub record SaySame {A : Type 0} (y z : System A) : Type 0 where
  pub init : (s : A) → y.Init s ↔ z.Init s
  pub init_seen : (s : A) → y.InitSeen s ↔ z.InitSeen s
  pub step : (n : ℕ) (s t : A) → y.Step n s t ↔ z.Step n s t
  pub seen : (n : ℕ) (s t : A) → y.Seen n s t ↔ z.Seen n s t
  pub silent : (s t : A) → y.Silent s t ↔ z.Silent s t
  pub fault_init : (s : A) (f : Fault) → y.FaultInit s f ↔ z.FaultInit s f
  pub fault_step : (n : ℕ) (s t : A) (f : Fault) → y.FaultStep n s t f ↔ z.FaultStep n s t f
  pub fault_silent : (s t : A) (f : Fault) → y.FaultSilent s t f ↔ z.FaultSilent s t f
  pub at : (n : ℕ) (s t : A) → y.at n s t ≡ z.at n s t
  pub expected : (n : ℕ) (s : A) (at : LineAt) → y.Expected n s at ↔ z.Expected n s at
  pub state_of : (s : A) → y.state_of s ≡ z.state_of s
  pub count : y.count ≡ z.count
  pub within : y.within ≡ z.within
  pub limit : y.limit ≡ z.limit
  pub total : y.total ≡ z.total
  pub assumes : y.assumes ≡ z.assumes
  pub assumed : (k : ℕ) → y.IsAssumed k ↔ z.IsAssumed k
  pub fault_assume : (k : ℕ) (f : Fault) → y.FaultAssume k f ↔ z.FaultAssume k f
  pub is_false : (k : ℕ) (at : Place) → y.IsFalse k at ↔ z.IsFalse k at

pub record AskSame (a b : PairAsks) : Type 0 where
  pub systems : SaySame a.system b.system
  pub moves : (n : ℕ) (s t : Values) → a.Moves n s t ↔ b.Moves n s t
  pub acts : (n : ℕ) (s t : Values) → a.Acts n s t ↔ b.Acts n s t
  pub stutters : (n : ℕ) → a.Stutters n ↔ b.Stutters n
  pub fault_init : (t : Values) (f : Fault) → a.FaultInit t f ↔ b.FaultInit t f
  pub fault_acts : (n : ℕ) (s t : Values) (f : Fault) → a.FaultActs n s t f ↔ b.FaultActs n s t f
  pub fault_silent : (s t : Values) (f : Fault) → a.FaultSilent s t f ↔ b.FaultSilent s t f
