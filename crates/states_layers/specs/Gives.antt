-- What lists steps, or says that it can not, and what tells of an assumption.
use Rattle.std.specs.Prelude.{◌≡◌, ℕ, ◌≤◌, Ok, Err, Result, Option, Some, None, Vec}
use Rattle.std.specs.declared.alloc.Global.{Global}
use Rattle.base_core.specs.declared.place.Place.{Place}
use Rattle.states_core.specs.System.{System}
use Rattle.states_core.specs.Runs.{Layer}
use Rattle.states_core.specs.Sets.{IsList, HasMoreThan}
use Rattle.states_core.specs.declared.fault.Fault.{Fault}
use Rattle.states_layers.specs.declared.steps.StepFault.{StepFault}
use Rattle.states_layers.specs.declared.steps.StepFault.TheVariants.{Eval, TooMany, NoMemory}

-- What P holds of, each once, where nothing that agrees with what the log shows faults; or a fault that something meets; or
-- there are more than the bound.
abbrev pub Gives : {A : Type 0} → (A → Type 0) → (A → Fault → Type 0) → (A → Type 0) → ℕ → Result (Vec A Global) StepFault → Type 0
Gives {A} P Bad Seen bound (Ok listed) = IsList P listed.items × ((t : A) (f : Fault) → Bad t f → Seen t → ⊥)
Gives {A} P Bad Seen bound (Err (Eval f)) = (t : A) × Bad t f
Gives P Bad Seen bound (Err TooMany) = HasMoreThan P bound
Gives P Bad Seen bound (Err NoMemory) = Unit {0}

-- The k-th assumption is TRUE; or it is FALSE, its term standing at the place; or it faults so.
abbrev pub Tells : {A : Type 0} → System A → ℕ → Result (Option Place) StepFault → Type 0
Tells y k (Ok None) = y.IsAssumed k
Tells y k (Ok (Some at)) = y.IsFalse k at
Tells y k (Err (Eval f)) = y.FaultAssume k f
Tells y k (Err TooMany) = ⊥
Tells y k (Err NoMemory) = Unit {0}

-- It is reached by n lines and then some silent steps: it is in a layer of n lines.
abbrev pub IsReached : {A : Type 0} → System A → ℕ → A → Type 0
IsReached y n s = (j : ℕ) × Layer y n j s

-- As many lines, steps and members as this project allows.
pub record IsSmall {A : Type 0} (y : System A) : Type 0 where
  pub lines : y.count ≤ 200000
  pub some : 1 ≤ y.within
  pub within : y.within ≤ 8
  pub limit : y.limit ≤ 100000
  pub total : y.total ≤ 2000000
