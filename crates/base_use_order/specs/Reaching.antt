-- For the prover: what is reached from a definition while the search for it goes on.
use Rattle.std.specs.Prelude.{◌≡◌, ◌⊎◌, ℕ, ◌+◌, ◌<◌, Bool, true, false, List, length, Contains}
use Rattle.std.specs.List.{slice_index_or}
use Rattle.base_use_order.specs.Uses.{Table, Uses, Leads}
use Rattle.base_use_order.specs.Weights.{weight}

abbrev pub IsReached : List Bool → ℕ → Type 0
IsReached reached a = slice_index_or reached a false ≡ true

abbrev pub is_not : Bool → Bool
is_not true = false
is_not false = true

-- What is reached or waits is led to from the definition, and what is used by it or by what is reached is so too.
pub record Reaches (uses : Table) (definition : ℕ) (reached : List Bool) (waiting : List ℕ) : Type 0 where
  pub sizes : length reached ≡ length uses
  pub within : (a : ℕ) → Contains waiting a → a < length uses
  pub reached_led : (a : ℕ) → IsReached reached a → Leads uses definition a
  pub waiting_led : (a : ℕ) → Contains waiting a → Leads uses definition a
  pub first : (a : ℕ) → Uses uses definition a → IsReached reached a ⊎ Contains waiting a
  pub closed : (a b : ℕ) → IsReached reached a → Uses uses a b → IsReached reached b ⊎ Contains waiting b

-- how many numbers are still to be taken, at most
abbrev pub left_to_reach : Table → List Bool → List ℕ → ℕ
left_to_reach uses reached waiting = length waiting + weight is_not reached uses
