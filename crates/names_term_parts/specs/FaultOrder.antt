-- The order of faults in a text, and the earliest of them.
use Rattle.std.specs.Ordering.{nat_cmp, is_lt}
use Rattle.std.specs.Cmp.Lexicographic.{slice_cmp}
use Rattle.std.specs.Prelude.{◌-◌, ℕ, Bool, List, [], ◌∷◌, Option, Some, None, if◌then◌else◌, fold}
use Rattle.names_terms.specs.declared.level.Level.{Level}
use Rattle.names_terms.specs.declared.level.Level.TheVariants.{Constant, State, Action, Temporal}
use Rattle.names_term_parts.specs.declared.fault.LevelFault.{LevelFault}
use Rattle.names_term_parts.specs.declared.fault.LevelFault.TheVariants.{TooHigh, PrimedArgument}
use Rattle.names_term_parts.specs.Limits.{Limit, is_above}

abbrev pub number_of : Level → ℕ
number_of Constant = 0
number_of State = 1
number_of Action = 2
number_of Temporal = 3

-- Where a fault stands in the order of the text: by its place. At one place a part that is too high comes before an argument; and of two parts
-- the one that may have the higher level, which is the left one, A before v in `[A]_v`, and is that of an assumption's term before the
-- assumption itself. The level that was found decides between two terms of one place alone, which no text has.
abbrev pub standing : LevelFault → List ℕ
standing (TooHigh found allowed at) = at.file ∷ at.line ∷ at.col ∷ 0 ∷ (3 - number_of allowed) ∷ number_of found ∷ []
standing (PrimedArgument at) = at.file ∷ at.line ∷ at.col ∷ 1 ∷ 0 ∷ 0 ∷ []

abbrev pub is_before : LevelFault → LevelFault → Bool
is_before f g = is_lt (slice_cmp nat_cmp (standing f) (standing g))

-- the earlier of what was found and a further fault
abbrev pub earlier : Option LevelFault → LevelFault → Option LevelFault
earlier None g = Some g
earlier (Some f) g = if is_before g f then Some g else Some f

-- the earlier of what was found and that a part is too high
abbrev pub held : Option LevelFault → Limit → Option LevelFault
held found x = if is_above x.found x.allowed then earlier found (TooHigh x.found x.allowed x.at) else found

abbrev pub held_all : Option LevelFault → List Limit → Option LevelFault
held_all found xs = fold held found xs
