-- What is led to from some definitions: they themselves, and what those that are led to use.
use Rattle.std.specs.Prelude.{◌≡◌, ℕ, Bool, true, false, List, Contains}
use Rattle.std.specs.List.{slice_index_or}
use Rattle.base_use_order.specs.Uses.{Table, Uses}

pub data IsLedTo (uses : Table) (from : List ℕ) : ℕ → Type 0 where
  is_first : (a : ℕ) → Contains from a → IsLedTo uses from a
  is_used : (a b : ℕ) → IsLedTo uses from a → Uses uses a b → IsLedTo uses from b

abbrev pub IsReached : List Bool → ℕ → Type 0
IsReached reached a = slice_index_or reached a false ≡ true

-- what leads to some definitions: they themselves, and what uses one that leads to them
pub data IsLeading (uses : Table) (to : List ℕ) : ℕ → Type 0 where
  is_last : (a : ℕ) → Contains to a → IsLeading uses to a
  is_user : (a b : ℕ) → Uses uses a b → IsLeading uses to b → IsLeading uses to a
