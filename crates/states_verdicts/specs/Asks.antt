-- What is asked of states that are given, each with a value for every variable: all variables count as fixed before an evaluation.
use Rattle.std.specs.Prelude.{◌≡◌, ◌⊎◌, ◌↔◌, ℕ, ◌<◌, ◌≤◌}
use Rattle.states_core.specs.States.{Values}
use Rattle.states_core.specs.System.{System}
use Rattle.states_core.specs.declared.fault.Fault.{Fault}

pub record PairAsks : Type 1 where
  -- the specification beside the log, as a search asks for it
  pub system : System Values
  -- the updates of the n-th line lead from the first state to the second
  pub Moves : ℕ → Values → Values → Type 0
  -- the operator of the n-th line's event, where it has one, holds of the two, and the next-state action
  pub Acts : ℕ → Values → Values → Type 0
  -- the state may stay as it is in the step of the n-th line
  pub Stutters : ℕ → Type 0
  -- where all variables are fixed before, this faults so: the initial predicate, the operator of the n-th line's event or the next-state action
  -- behind it, and a step that no line shows
  pub FaultInit : Values → Fault → Type 0
  pub FaultActs : ℕ → Values → Values → Fault → Type 0
  pub FaultSilent : Values → Values → Fault → Type 0

-- The step of a line by its event and the next-state action.
pub record IsActed (a : PairAsks) (n : ℕ) (s t : Values) : Type 0 where
  pub moves : a.Moves n s t
  pub acts : a.Acts n s t
  pub shows : a.system.Seen n s t

-- The step of a line that leaves the state as it is. Nothing is evaluated in it.
pub record IsRest (a : PairAsks) (n : ℕ) (s t : Values) : Type 0 where
  pub allowed : a.Stutters n
  pub same : t ≡ s
  pub moves : a.Moves n s t
  pub shows : a.system.Seen n s t

abbrev pub IsLineStep : PairAsks → ℕ → Values → Values → Type 0
IsLineStep a n s t = IsActed a n s t ⊎ IsRest a n s t

-- The step of a line faults so. Only where its updates lead to the second state is anything evaluated.
abbrev pub FaultStep : PairAsks → ℕ → Values → Values → Fault → Type 0
FaultStep a n s t f = a.Moves n s t × a.FaultActs n s t f

-- The parts make up the steps of the system, whose members are the states themselves.
pub record IsComposed (a : PairAsks) : Type 0 where
  pub step : (n : ℕ) (s t : Values) → a.system.Step n s t ↔ IsLineStep a n s t
  pub state : (s : Values) → a.system.state_of s ≡ s

-- A fault where all variables are fixed before is one where fewer are, as the search asks: none, or what the line updates.
-- (It is not so of any two sets: where a conjunct leaves no set fixed from the smaller one, what follows it is not evaluated from there.)
pub record IsMonotone (a : PairAsks) : Type 0 where
  pub init : (t : Values) (f : Fault) → a.FaultInit t f → a.system.FaultInit t f
  pub step : (n : ℕ) (s t : Values) (f : Fault) → n < a.system.count → FaultStep a n s t f → a.system.FaultStep n s t f
  pub silent : (s t : Values) (f : Fault) → a.FaultSilent s t f → a.system.FaultSilent s t f

-- As many lines, and steps from one line's state to the next line's, as this project allows.
pub record IsSmall (a : PairAsks) : Type 0 where
  pub lines : a.system.count ≤ 200000
  pub some : 1 ≤ a.system.within
  pub within : a.system.within ≤ 8
