-- Laws of verdicts.
use Rattle.std.specs.Prelude.{◌≡◌, ℕ, ◌<◌, List, length, Some}
use Rattle.states_core.specs.States.{Values}
use Rattle.states_core.specs.System.{System}
use Rattle.states_core.specs.Runs.{Run, IsBehaviour, Faulty, FaultyInit}
use Rattle.states_core.specs.declared.state.Shown.{Shown}
use Rattle.states_verdicts.specs.Asks.{PairAsks, IsMonotone}
use Rattle.states_verdicts.specs.Cleans.{AreClean, nowhere, reached}
use Rattle.states_verdicts.specs.Verdicts.{IsVerdict}
use Rattle.states_verdicts.specs.declared.verdict.Verdict.{Verdict}
use Rattle.states_verdicts.specs.declared.verdict.Verdict.TheVariants.{Valid, Invalid, Fault as Faulted}

-- Nothing that the log does not rule out as the first faults, and no member of a layer of fewer than n lines does.
pub record IsFaultless {A : Type 0} (y : System A) (n : ℕ) : Type 0 where
  pub init : FaultyInit y → ⊥
  pub steps : (m j : ℕ) → m < n → Faulty y m j → ⊥

-- A behaviour of all lines is valid, where nothing faults.
abbrev pub FoundIsValid : PairAsks → Type 0
FoundIsValid a = IsMonotone a → IsFaultless a.system a.system.count → (w : List Shown) → IsBehaviour a.system a.system.count w → IsVerdict a w Valid

-- The two verdicts are one, but for which fault they name.
abbrev pub AreOne : Verdict → Verdict → Type 0
AreOne Valid Valid = Unit {0}
AreOne (Invalid i r) (Invalid k q) = (i ≡ k) × (r ≡ q)
AreOne (Faulted i kind at) (Faulted k other place) = i ≡ k
AreOne v u = ⊥

-- A list has one verdict, but for which of several faults is named.
abbrev pub HaveOne : PairAsks → Type 0
HaveOne a = (w : List Shown) (v u : Verdict) → IsVerdict a w v → IsVerdict a w u → AreOne v u

-- Clean states are a run over the lines and silent states that they reach.
abbrev pub CleanRun : PairAsks → Type 0
CleanRun a = (w : List Shown) → 0 < length w → AreClean a w (length w)
    → (s : Values) × ((reached nowhere w).last ≡ Some s) × Run a.system (reached nowhere w).line (reached nowhere w).silents s w
