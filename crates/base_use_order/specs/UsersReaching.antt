-- For the prover: what is reached while the search goes on.
use Rattle.std.specs.Prelude.{◌≡◌, ◌⊎◌, ℕ, ◌+◌, ◌<◌, Bool, true, false, List, length, Contains}
use Rattle.base_use_order.specs.Uses.{Table, Uses}
use Rattle.base_use_order.specs.Weights.{weight}
use Rattle.base_use_order.specs.Reach.{IsLedTo, IsReached}

abbrev pub is_not : Bool → Bool
is_not true = false
is_not false = true

-- What is reached or waits is led to, and so is what is looked for, and what is used by what is reached.
pub record Reaches (uses : Table) (from : List ℕ) (reached : List Bool) (waiting : List ℕ) : Type 0 where
  pub sizes : length reached ≡ length uses
  pub within : (a : ℕ) → Contains waiting a → a < length uses
  pub reached_led : (a : ℕ) → IsReached reached a → IsLedTo uses from a
  pub waiting_led : (a : ℕ) → Contains waiting a → IsLedTo uses from a
  pub first : (a : ℕ) → Contains from a → IsReached reached a ⊎ Contains waiting a
  pub closed : (a b : ℕ) → IsReached reached a → Uses uses a b → IsReached reached b ⊎ Contains waiting b

-- how many numbers are still to be taken, at most
abbrev pub left_to_reach : Table → List Bool → List ℕ → ℕ
left_to_reach uses reached waiting = length waiting + weight is_not reached uses
