-- For the prover: an order that is named line by line.
use Rattle.std.specs.Prelude.{◌≡◌, ℕ, List, [], ◌∷◌, ◌++◌, length, slice_get}
use Rattle.std.specs.List.{AllZip}
use Rattle.states_core.specs.declared.state.Shown.{Shown}
use Rattle.base_clock_order.specs.declared.order.LineRef.{LineRef}
use Rattle.logs_updates.specs.declared.line.Line.{Line}
use Rattle.base_cuts.specs.Cuts.{Cut, after, total}
use Rattle.base_cuts.specs.Orders.{Begins, IsAllowed, IsMade, Order, sizes, start}
use Rattle.logs_tied.specs.Lines.{StandsIn}
use Rattle.logs_tied.specs.Named.{IsChosen, KeepsTo, names}
use Rattle.logs_tied.specs.declared.logs.Logs.{Logs}

-- the lines so far begin an allowed order, and are those that are named
pub record IsNamedSoFar (files : List (List Line)) (o : Order) (w : List Shown) (xs : List LineRef) : Type 0 where
  pub begins : Begins o xs
  pub keeps : KeepsTo files o w xs

-- n lines are named so far: these, up to this cut
pub record IsNaming (logs : Logs) (w : List Shown) (c : Cut) (lines : List Line) (n : ℕ) : Type 0 where
  pub taken : List LineRef
  pub so_far : IsNamedSoFar logs.files.items logs.order w taken
  pub cut : c ≡ after (start logs.order) taken
  pub long : length taken ≡ n
  pub stand : AllZip (StandsIn logs.files.items) taken lines

abbrev pub NamingGoesOn : Type 0
NamingGoesOn = (files : List (List Line)) (o : Order) → IsMade o → (w : List Shown) (xs : List LineRef) (l : LineRef) → IsNamedSoFar files o w xs
    → IsChosen files o (after (start o) xs) (slice_get (names w) (length xs)) l → IsNamedSoFar files o w (xs ++ l ∷ [])

abbrev pub NamingEnds : Type 0
NamingEnds = (files : List (List Line)) (o : Order) → IsMade o → (w : List Shown) (xs : List LineRef) → IsNamedSoFar files o w xs → length xs ≡ total (sizes o)
    → IsAllowed o xs × KeepsTo files o w xs
