-- The clocks of lines.
use Rattle.std.specs.Prelude.{ℤ, pos, ◌≤ℤ◌, Bool, true, false, List, []}
use Rattle.base_clocks.specs.Stamps.{IsAtMost}
use Rattle.base_clocks.specs.declared.stamp.Stamp.{Stamp}
use Rattle.logs_updates.specs.declared.clock.Clock.{Clock}
use Rattle.logs_updates.specs.declared.clock.Clock.TheVariants.{Number, Vector}

abbrev pub is_vector : Clock → Bool
is_vector (Number n) = false
is_vector (Vector v) = true

-- the number that the clock is, or 0
abbrev pub number_in : Clock → ℤ
number_in (Number n) = n
number_in (Vector v) = pos 0

-- what the clock says of nodes: a number says nothing
abbrev pub vector_in : Clock → List Stamp
vector_in (Number n) = []
vector_in (Vector v) = v

-- The second clock may stand behind the first in one log. A number stands before vectors only where no line has a clock yet, and is 0 then.
abbrev pub MayFollow : Clock → Clock → Type 0
MayFollow (Number a) (Number b) = a ≤ℤ b
MayFollow (Vector u) (Vector v) = IsAtMost u v
MayFollow (Number a) (Vector v) = a ≤ℤ pos 0
MayFollow (Vector u) (Number b) = ⊥
