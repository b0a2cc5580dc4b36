-- The subsets of a list of values, numbered from 0: for helpers of the set of all subsets.
use Rattle.std.specs.Prelude.{ℕ, ◌≤◌, ◌/◌, ◌%◌, nat_eq, List, [], ◌∷◌, length, Contains}
use Rattle.std.specs.List.Sorted.{IsStrictlySortedBy}
use Rattle.values_core.specs.Data.{Val}
use Rattle.values_core.specs.Order.{val_cmp}
use Rattle.values_core.specs.IsValue.{max_members}
use Rattle.values_core.specs.Sets.{IsSetOf}
use Rattle.values_operations.specs.Choices.{IsInner}
use Rattle.values_operations.specs.Walk.{when}

-- the values whose digits in the number, written with two digits, are 1
abbrev pub subset : List Val → ℕ → List Val
subset [] n = []
subset (x ∷ xs) n = when (nat_eq (n % 2) 1) x (subset xs (n / 2))

-- s is the subset of this number
abbrev pub IsSubsetOf : List Val → ℕ → Val → Type 0
IsSubsetOf xs n s = IsSetOf (subset xs n) s

-- members of a set, in ascending order
pub record AreMembers (xs : List Val) : Type 0 where
  pub ascending : IsStrictlySortedBy val_cmp xs
  pub few : length xs ≤ max_members
  pub inner : (v : Val) → Contains xs v → IsInner v
