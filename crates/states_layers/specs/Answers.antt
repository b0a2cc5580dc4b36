-- What each answer says of a specification beside a log.
use Rattle.std.specs.Prelude.{◌≡◌, ◌⊎◌, ℕ, suc, ◌<◌, ◌≤◌, List}
use Rattle.base_core.specs.declared.place.LineAt.{LineAt}
use Rattle.base_core.specs.declared.place.Place.{Place}
use Rattle.values_core.specs.declared.fault.EvalKind.{EvalKind}
use Rattle.states_core.specs.States.{Values}
use Rattle.states_core.specs.System.{System, Begins}
use Rattle.states_core.specs.Sets.{HasAtMost, HasMoreThan, HasSome}
use Rattle.states_core.specs.Runs.{Run, IsBehaviour, Layer, Faults, Faulty, FaultyInit, Upto}
use Rattle.states_core.specs.declared.fault.Fault.{Fault}
use Rattle.states_core.specs.declared.state.Shown.{Shown}
use Rattle.states_layers.specs.declared.answer.Answer.{Answer}
use Rattle.states_layers.specs.declared.answer.Answer.TheVariants.{Explained, NotExplained, NoInitial, InitFault, Fault as StateFault, AssumeFault, AssumeFalse, LayerLimit, TotalLimit}

-- The fault of this kind at this place.
abbrev pub fault : EvalKind → Place → Fault
fault kind at = record { kind = kind; at = at }

-- Each assumption is TRUE.
abbrev pub AllAssumed : {A : Type 0} → System A → Type 0
AllAssumed y = (k : ℕ) → k < y.assumes → y.IsAssumed k

-- One assumption faults so, and all before it are TRUE.
pub record IsAssumeFault {A : Type 0} (y : System A) (f : Fault) : Type 0 where
  pub index : ℕ
  pub below : index < y.assumes
  pub earlier : (k : ℕ) → k < index → y.IsAssumed k
  pub faults : y.FaultAssume index f

-- One assumption is FALSE, its term standing at the place, and all before it are TRUE.
pub record IsAssumeFalse {A : Type 0} (y : System A) (at : Place) : Type 0 where
  pub index : ℕ
  pub below : index < y.assumes
  pub earlier : (k : ℕ) → k < index → y.IsAssumed k
  pub is_false : y.IsFalse index at

-- Up to n lines nothing faults and no limit is passed: nothing that the log does not rule out as the first faults, no
-- member of a layer of fewer lines faults, no layer of at most n lines is too large, nor are these layers together.
pub record Clear {A : Type 0} (y : System A) (n : ℕ) : Type 0 where
  pub init : FaultyInit y → ⊥
  pub steps : (m j : ℕ) → m < n → Faulty y m j → ⊥
  pub layers : (m j : ℕ) → m ≤ n → HasAtMost (Layer y m j) y.limit
  pub together : (j : ℕ) → HasAtMost (Upto y n j) y.total

-- w is a behaviour of all lines, nothing faults and no limit is passed, and the largest layer has this many members.
pub record IsExplained {A : Type 0} (y : System A) (w : List Shown) (widest : ℕ) : Type 0 where
  pub behaves : IsBehaviour y y.count w
  pub clear : Clear y y.count
  pub at_most : (n j : ℕ) → HasAtMost (Layer y n j) widest
  pub reached : (n j : ℕ) × HasSome (Layer y n j) widest

-- n of the lines, not all of them, have a behaviour, w is one, and n + 1 lines have none; nothing faults and no limit is
-- passed up to there; and the line named is the one that is expected after w.
pub record IsNotExplained {A : Type 0} (y : System A) (n of : ℕ) (after : LineAt) (w : List Shown) : Type 0 where
  pub some_left : n < y.count
  pub all : of ≡ y.count
  pub behaves : (s : A) × Run y n 0 s w × y.Expected n s after
  pub no_more : (v : List Shown) → IsBehaviour y (suc n) v → ⊥
  pub clear : Clear y n
  pub no_fault : (j : ℕ) → Faulty y n j → ⊥

-- Nothing can be first, and nothing that the log does not rule out as the first faults.
pub record IsNoInitial {A : Type 0} (y : System A) : Type 0 where
  pub none : (s : A) → Begins y s → ⊥
  pub init : FaultyInit y → ⊥

-- The state is one of layer (n, j), before the last line, and the step of line n, or a silent step that is allowed, from
-- it to something, faults so.
pub record IsStateFault {A : Type 0} (y : System A) (n j : ℕ) (state : Values) (f : Fault) : Type 0 where
  pub before : n < y.count
  pub member : A
  pub reached : Layer y n j member
  pub shows : y.state_of member ≡ state
  pub faults : (t : A) × Faults y n j member t f

-- There is such a layer: below the last line with fewer silent steps than are allowed up to the next line, or after the last
-- line with none.
abbrev pub HasLayer : {A : Type 0} → System A → ℕ → ℕ → Type 0
HasLayer y n j = ((n < y.count) × (j < y.within)) ⊎ ((n ≡ y.count) × (j ≡ 0))

-- There is such a layer, and together with the layers before it it has more members than all layers may have.
pub record IsTotalLimit {A : Type 0} (y : System A) (n j : ℕ) : Type 0 where
  pub layer : HasLayer y n j
  pub more : HasMoreThan (Upto y n j) y.total

-- The answer is true of the specification beside the log. All but the two on an assumption say besides that each
-- assumption is TRUE.
abbrev pub IsAnswer : {A : Type 0} → System A → Answer → Type 0
IsAnswer y (Explained w widest) = AllAssumed y × IsExplained y w widest
IsAnswer y (NotExplained n of after w) = AllAssumed y × IsNotExplained y n of after w
IsAnswer y NoInitial = AllAssumed y × IsNoInitial y
IsAnswer {A} y (InitFault kind at) = AllAssumed y × ((t : A) × y.FaultInit t (fault kind at))
IsAnswer y (StateFault n j state kind at) = AllAssumed y × IsStateFault y n j state (fault kind at)
IsAnswer y (AssumeFault kind at) = IsAssumeFault y (fault kind at)
IsAnswer y (AssumeFalse at) = IsAssumeFalse y at
IsAnswer y (LayerLimit n j) = AllAssumed y × HasMoreThan (Layer y n j) y.limit
IsAnswer y (TotalLimit n j) = AllAssumed y × IsTotalLimit y n j
