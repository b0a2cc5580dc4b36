-- Behaviours of the first lines of a log, and the layers of what they end in.
use Rattle.std.specs.Prelude.{◌≡◌, ◌⊎◌, ℕ, suc, ◌<◌, ◌≤◌, List, [], ◌∷◌, ◌++◌}
use Rattle.states_core.specs.System.{System}
use Rattle.states_core.specs.States.{shown}
use Rattle.states_core.specs.declared.fault.Fault.{Fault}
use Rattle.states_core.specs.declared.state.Mark.TheVariants.{Init, Silent, Line}
use Rattle.states_core.specs.declared.state.Shown.{Shown}

-- Run y n j s w: w is a list of marked states that spans the first n lines and then j silent steps, and ends in s.
-- It begins with a first state; before the line after it, a silent step may follow, as long as the steps up to that
-- line, its own counted, are not more than are allowed; and the step of that line may follow.
pub data Run {A : Type 0} (y : System A) : ℕ → ℕ → A → List Shown → Type 0 where
  start : (s : A) → y.Init s → y.InitSeen s → Run y 0 0 s (shown Init (y.state_of s) ∷ [])
  wait : (n j : ℕ) (s t : A) (w : List Shown) → Run y n j s w → n < y.count → suc j < y.within
      → y.Silent s t → Run y n (suc j) t (w ++ shown Silent (y.state_of t) ∷ [])
  go : (n j : ℕ) (s t : A) (w : List Shown) → Run y n j s w → n < y.count
      → y.Step n s t → Run y (suc n) 0 t (w ++ shown (Line (y.at n s t)) (y.state_of t) ∷ [])

-- w is a behaviour of the first n lines: it ends with the state of the n-th, or with a first state where n is 0.
abbrev pub IsBehaviour : {A : Type 0} → System A → ℕ → List Shown → Type 0
IsBehaviour {A} y n w = (s : A) × Run y n 0 s w

-- s is in layer (n, j): it ends some list of marked states of n lines and j silent steps.
pub record Layer {A : Type 0} (y : System A) (n j : ℕ) (s : A) : Type 0 where
  pub states : List Shown
  pub run : Run y n j s states

-- The step of line n from s to t, or, where one more silent step than j is allowed, a silent step from s to t, faults.
abbrev pub Faults : {A : Type 0} → System A → ℕ → ℕ → A → A → Fault → Type 0
Faults y n j s t f = y.FaultStep n s t f ⊎ ((suc j < y.within) × y.FaultSilent s t f)

-- Some member of layer (n, j), before the last line, faults: by the step of line n to what agrees with all that the line
-- shows, or by a silent step that is allowed.
abbrev pub Faulty : {A : Type 0} → System A → ℕ → ℕ → Type 0
Faulty {A} y n j = (s t : A) × (f : Fault) × Layer y n j s × (n < y.count)
    × ((y.FaultStep n s t f × y.Seen n s t) ⊎ ((suc j < y.within) × y.FaultSilent s t f))

-- Something that the log does not rule out as the first faults.
abbrev pub FaultyInit : {A : Type 0} → System A → Type 0
FaultyInit {A} y = (t : A) × (f : Fault) × y.FaultInit t f × y.InitSeen t

-- A member of a layer with the layer's numbers.
pub record Entry (A : Type 0) : Type 0 where
  pub line : ℕ
  pub silents : ℕ
  pub member : A

-- Layer (m, k) is layer (n, j) or stands before it, in order of lines and then of silent steps.
abbrev pub IsUpto : ℕ → ℕ → ℕ → ℕ → Type 0
IsUpto n j m k = (m < n) ⊎ ((m ≡ n) × (k ≤ j))

-- The entries of the layers up to (n, j): each of their members with its layer.
pub record Upto {A : Type 0} (y : System A) (n j : ℕ) (p : Entry A) : Type 0 where
  pub layer : Layer y p.line p.silents p.member
  pub upto : IsUpto n j p.line p.silents
