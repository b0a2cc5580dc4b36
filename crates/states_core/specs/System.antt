-- A specification beside a log, as relations. The language gives the relations; nothing here reads a term.
-- A layer holds things of a type A: states, where the lines have one order, or a cut of the logs with a state, where
-- they have several.
use Rattle.std.specs.Prelude.{ℕ}
use Rattle.states_core.specs.States.{Values}
use Rattle.states_core.specs.declared.fault.Fault.{Fault}
use Rattle.base_core.specs.declared.place.LineAt.{LineAt}
use Rattle.base_core.specs.declared.place.Place.{Place}

pub record System (A : Type 0) : Type 1 where
  -- the initial predicate holds of it, and the log does not rule it out as the first
  pub Init : A → Type 0
  pub InitSeen : A → Type 0
  -- the n-th line, counted from 0, leads from the first to the second, and what the line shows agrees with the second
  pub Step : ℕ → A → A → Type 0
  -- what the n-th line shows agrees with the second, where the line leads from the first to it
  pub Seen : ℕ → A → A → Type 0
  -- a step that no line shows leads from the first to the second
  pub Silent : A → A → Type 0
  -- evaluating the initial predicate at it, the step of a line, or a silent step from the first to the second, faults so
  pub FaultInit : A → Fault → Type 0
  pub FaultStep : ℕ → A → A → Fault → Type 0
  pub FaultSilent : A → A → Fault → Type 0
  -- the line of a log that the n-th step is, where it leads from the first to the second
  pub at : ℕ → A → A → LineAt
  -- this line is named where it is reached after n lines and none can follow: the first of those that may be the n-th
  pub Expected : ℕ → A → LineAt → Type 0
  -- the state in it
  pub state_of : A → Values
  -- how many lines there are
  pub count : ℕ
  -- at most this many steps from one line's state to the next line's, that line's own step counted
  pub within : ℕ
  -- the greatest size of one layer, and of all layers together
  pub limit : ℕ
  pub total : ℕ
  -- how many assumptions the specification makes, and of each, counted from 0 in text order: it is TRUE, evaluating it
  -- faults so, or it is FALSE, its term standing at the place
  pub assumes : ℕ
  pub IsAssumed : ℕ → Type 0
  pub FaultAssume : ℕ → Fault → Type 0
  pub IsFalse : ℕ → Place → Type 0

-- It can be first: the initial predicate holds of it, and the log does not rule it out.
abbrev pub Begins : {A : Type 0} → System A → A → Type 0
Begins y s = y.Init s × y.InitSeen s
