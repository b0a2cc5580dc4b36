-- Lists of values, for helpers of the operations on sets.
use Rattle.std.specs.Prelude.{ℕ, zero, suc, ℤ, pos, ◌+ℤ◌, List, [], ◌∷◌, ◌++◌}
use Rattle.values_core.specs.Data.{Val, integer}
use Rattle.values_core.specs.Sets.{items_of}

-- so many integers from y on
abbrev pub ints_from : ℤ → ℕ → List Val
ints_from y zero = []
ints_from y (suc n) = integer y ∷ ints_from (y +ℤ pos 1) n

-- the members of all the sets, one set after another
abbrev pub members_of_all : List Val → List Val
members_of_all [] = []
members_of_all (s ∷ ss) = items_of s ++ members_of_all ss
