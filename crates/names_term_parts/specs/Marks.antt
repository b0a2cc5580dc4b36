-- A set of slots, as the list of its marks.
use Rattle.std.specs.Prelude.{◌≡◌, ◌⊎◌, ◌<◌, ℕ, Bool, true, false, List, slice_index_or}

abbrev pub has : List Bool → ℕ → Bool
has marks slot = slice_index_or marks slot false

-- the second set has a slot that the first has not
abbrev pub Lacks : List Bool → List Bool → Type 0
Lacks marks other = (i : ℕ) × (has other i ≡ true) × (has marks i ≡ false)

-- the slots of another set below a bound are added
pub record Absorbs (below : ℕ) (old other new : List Bool) : Type 0 where
  pub kept : (i : ℕ) → has old i ≡ true → has new i ≡ true
  pub added : (i : ℕ) → i < below → has other i ≡ true → has new i ≡ true
  pub sound : (i : ℕ) → has new i ≡ true → (has old i ≡ true) ⊎ ((i < below) × (has other i ≡ true))
