-- What the order of a state's fields is.
use Rattle.std.specs.Prelude.{◌≡◌, ⊤, ℕ, zero, suc, false, List, [], ◌∷◌, length}
use Rattle.std.specs.List.{AllByRecursion}
use Rattle.std.specs.List.Sorted.{IsPermutation}
use Rattle.std.specs.Ordering.{is_lt, nat_cmp}
use Rattle.std.specs.Cmp.Lexicographic.{slice_cmp}
use Rattle.run_texts.specs.Places.{name_at}
use Rattle.run_texts.specs.States.{in_order}

-- the numbers below n
abbrev pub numbers_below : ℕ → List ℕ
numbers_below zero = []
numbers_below (suc n) = n ∷ numbers_below n

-- the bytes of no name are below those of a name before it
abbrev pub Ascends : List (List ℕ) → List ℕ → Type 0
Ascends names [] = ⊤
Ascends names (n ∷ ns) =
    AllByRecursion (λ m. is_lt (slice_cmp nat_cmp (name_at names m) (name_at names n)) ≡ false) ns × Ascends names ns

-- each variable stands in the order once, and the names ascend
abbrev pub OrderAscends : Type 0
OrderAscends = (names : List (List ℕ)) → IsPermutation (numbers_below (length names)) (in_order names) × Ascends names (in_order names)
