-- Laws of a specification beside several logs.
use Rattle.std.specs.Prelude.{◌≡◌, ◌≢◌, ◌⊎◌, ◌↔◌, ◌≤◌, ℕ, List, Some, slice_get, take}
use Rattle.base_core.specs.declared.place.LineAt.{LineAt}
use Rattle.states_core.specs.Runs.{IsBehaviour, Run}
use Rattle.states_core.specs.System.{System}
use Rattle.states_core.specs.States.{Values}
use Rattle.states_core.specs.declared.state.Shown.{Shown}
use Rattle.names_terms.specs.declared.spec.Spec.{Spec}
use Rattle.base_clock_order.specs.declared.order.LineRef.{LineRef}
use Rattle.logs_updates.specs.declared.line.Line.{Line}
use Rattle.steps_lines_defs.specs.Logs.{Asked, system}
use Rattle.base_cuts.specs.Cuts.{after, total}
use Rattle.base_cuts.specs.Orders.{IsCut, IsReadyAt, start}
use Rattle.logs_tied.specs.Lines.{AreTied, IsLined}
use Rattle.logs_tied.specs.Named.{IsNamed, KeepsTo, names}
use Rattle.logs_tied.specs.declared.logs.Logs.{Logs}
use Rattle.states_verdicts.specs.Laws.{IsFaultless}
use Rattle.steps_tied.specs.Tied.{CutState, tied_system}

-- the specification beside one log, that of these lines
abbrev pub system_over : Spec → Logs → Asked → List Line → System Values
system_over g logs asked lines = system g (record { init = logs.init; lines = lines }) asked

-- over some order that is allowed it is a run, to the cut of the first lines of that order
pub record RunsInOrder (g : Spec) (logs : Logs) (asked : Asked) (n j : ℕ) (e : CutState) (w : List Shown) : Type 0 where
  pub order : List LineRef
  pub lines : List Line
  pub lined : IsLined logs.files.items logs.order order lines
  pub cut : e.cut ≡ after (start logs.order) (take n order)
  pub run : Run (system_over g logs asked lines) n j e.state w

-- A list of states is a run over cuts exactly where it is one over some order that is allowed.
abbrev pub RunsOverOrders : Type 0
RunsOverOrders = (g : Spec) (logs : Logs) (asked : Asked) → AreTied logs → (n j : ℕ) (e : CutState) (w : List Shown)
    → Run (tied_system g logs asked) n j e w ↔ RunsInOrder g logs asked n j e w

-- what a run over cuts comes to has a cut of the order, that of as many lines
abbrev pub CutsAreReached : Type 0
CutsAreReached = (g : Spec) (logs : Logs) (asked : Asked) → AreTied logs → (n j : ℕ) (e : CutState) (w : List Shown)
    → Run (tied_system g logs asked) n j e w → IsCut logs.order e.cut × (total e.cut ≡ n)

-- it is a behaviour over the order that its marks name, in which nothing faults
pub record IsBehaviourNamed (g : Spec) (logs : Logs) (asked : Asked) (w : List Shown) : Type 0 where
  pub order : List LineRef
  pub lines : List Line
  pub lined : IsLined logs.files.items logs.order order lines
  pub keeps : KeepsTo logs.files.items logs.order w order
  pub faultless : IsFaultless (system_over g logs asked lines) (system_over g logs asked lines).count
  pub behaves : IsBehaviour (system_over g logs asked lines) (system_over g logs asked lines).count w

-- The marks of a behaviour over cuts, of all lines and with no fault, name an allowed order over which it is one too.
abbrev pub BehavioursAreNamed : Type 0
BehavioursAreNamed = (g : Spec) (logs : Logs) (asked : Asked) → AreTied logs → (w : List Shown)
    → IsFaultless (tied_system g logs asked) (tied_system g logs asked).count → IsBehaviour (tied_system g logs asked) (tied_system g logs asked).count w
    → IsBehaviourNamed g logs asked w

-- Over the order that marks name, the n-th mark is wrong of its line exactly where no line that is ready at the cut of those
-- before has the place that it names.
abbrev pub WrongIsUnready : Type 0
WrongIsUnready = (g : Spec) (logs : Logs) (asked : Asked) → AreTied logs → (w : List Shown) (order : List LineRef) (lines : List Line)
    → IsLined logs.files.items logs.order order lines → KeepsTo logs.files.items logs.order w order → (n : ℕ) (s t : Values) (at : LineAt) → slice_get (names w) n ≡ Some at
    → (((system_over g logs asked lines).count ≤ n) ⊎ (at ≢ (system_over g logs asked lines).at n s t))
    ↔ ((l : LineRef) → IsReadyAt logs.order (after (start logs.order) (take n order)) l → IsNamed logs.files.items (Some at) l → ⊥)
