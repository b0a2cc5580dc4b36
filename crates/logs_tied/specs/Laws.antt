-- Laws of the order that marks name.
use Rattle.std.specs.Prelude.{◌≡◌, ◌≢◌, ◌↔◌, ℕ, List, Some, slice_get, take}
use Rattle.base_core.specs.declared.place.LineAt.{LineAt}
use Rattle.states_core.specs.declared.state.Shown.{Shown}
use Rattle.base_clock_order.specs.declared.order.LineRef.{LineRef}
use Rattle.logs_updates.specs.declared.line.Line.{Line}
use Rattle.base_cuts.specs.Cuts.{after}
use Rattle.base_cuts.specs.Orders.{IsMade, IsReadyAt, Order, start}
use Rattle.logs_tied.specs.Lines.{HaveOwnPlaces, IsLined}
use Rattle.logs_tied.specs.Named.{IsNamed, KeepsTo, names}

-- marks name one order
abbrev pub NameOneOrder : Type 0
NameOneOrder = (files : List (List Line)) (o : Order) → IsMade o → HaveOwnPlaces files → (w : List Shown) (p q : List LineRef) (ps qs : List Line)
    → IsLined files o p ps → IsLined files o q qs → KeepsTo files o w p → KeepsTo files o w q → (p ≡ q) × (ps ≡ qs)

-- In the order that marks name, the place that the n-th mark names is not that of the n-th line exactly where no line that is
-- ready at the cut of those before has it.
abbrev pub UnreadyIsWrong : Type 0
UnreadyIsWrong = (files : List (List Line)) (o : Order) → IsMade o → (w : List Shown) (order : List LineRef) (lines : List Line) → IsLined files o order lines → KeepsTo files o w order
    → (n : ℕ) (at : LineAt) → slice_get (names w) n ≡ Some at
    → ((line : Line) → slice_get lines n ≡ Some line → at ≢ line.at) ↔ ((l : LineRef) → IsReadyAt o (after (start o) (take n order)) l → IsNamed files (Some at) l → ⊥)
