-- For the prover: what a map of names holds.
use Rattle.std.specs.Prelude.{◌≡◌, ℕ, Bool, false, if◌then◌else◌, List, [], ◌∷◌, Option, Some, None}
use Rattle.std.specs.Str.{bytes_eq}
use Rattle.std.specs.declared.hash.FoldHasher.{FoldHasher}
use Rattle.std.specs.declared.hash.BuildHasherDefault.{BuildHasherDefault}
use Rattle.std.specs.HashMap.{get, HashMap}
use Rattle.names_least_levels.specs.declared.told.NameLevel.{NameLevel}
use Rattle.names_least_levels.specs.declared.told.Told.{Told}
use Rattle.names_least_levels.specs.Levels.{told_rises}

-- what is told of the first of a name
abbrev pub told_first : List NameLevel → List ℕ → Option Told
told_first [] n = None
told_first (w ∷ ws) n = if bytes_eq w.name n then Some w.told else told_first ws n

-- the map has that of each name
abbrev pub AreFound : List NameLevel → HashMap (List ℕ) Told (BuildHasherDefault FoldHasher) → Type 0
AreFound names found = (n : List ℕ) → get bytes_eq found n ≡ told_first names n

-- whether what is told of a name, if it is one of the program, is above level 0
abbrev pub first_rises : List Bool → Option Told → Bool
first_rises bs None = false
first_rises bs (Some t) = told_rises bs t
