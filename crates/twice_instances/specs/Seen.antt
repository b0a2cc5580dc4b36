-- What a module sees of a state of a program that has an instance of it: each of its variables has the value that its substitute has, which is a variable of
-- the program.
--
-- As an example, of an instance of a module with the variables `a` and `b` by `a <- y, b <- y`: where x is 1 and y is 2, the module sees that a is 2 and b is 2.
use Rattle.std.specs.Prelude.{◌≡◌, ◌<◌, ℕ, zero, suc, List, [], ◌∷◌, ◌++◌, Option, Some, None, slice_get}
use Rattle.values_core.specs.Data.{Val}
use Rattle.eval_meanings.specs.Contexts.{Context, Places}

-- the place of that number, or an empty one where there is none
abbrev pub place_or_empty : Option (Option Val) → Option Val
place_or_empty None = None
place_or_empty (Some place) = place

-- the state that a module with so many variables sees, where the variable of each number has that one as its substitute
abbrev pub seen_through : (ℕ → ℕ) → ℕ → Places → Places
seen_through substitute zero places = []
seen_through substitute (suc n) places = seen_through substitute n places ++ place_or_empty (slice_get places (substitute n)) ∷ []

-- both states seen so
abbrev pub seen_in : (Places → Places) → Context → Context
seen_in see c = record { slots = c.slots; now = see c.now; next = see c.next }

-- a variable of the module, and its substitute
abbrev pub IsSubstitute : (ℕ → ℕ) → ℕ → ℕ → ℕ → Type 0
IsSubstitute substitute n x y = (x < n) × (y ≡ substitute x)
