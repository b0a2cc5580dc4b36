-- What is seen of one variable.
use Rattle.std.specs.Prelude.{◌≡◌, ℕ, List, Contains}
use Rattle.logs_updates.specs.declared.update.See.{See}

-- the second list has all that the first has of the variable, and nothing that the first has not
abbrev pub TellsOf : ℕ → List See → List See → Type 0
TellsOf x all some = ((see : See) → Contains some see → Contains all see) × ((see : See) → see.path.variable.0 ≡ x → Contains all see → Contains some see)
