-- Definitions that names mean stand in a table.
use Rattle.std.specs.Prelude.{◌<◌, ℕ, List, [], ◌∷◌, All}
use Rattle.names_scopes.specs.declared.meant.Entry.{Entry}
use Rattle.names_scopes.specs.declared.meant.Meant.{Meant}
use Rattle.names_scopes.specs.declared.meant.Meant.TheVariants as meant
use Rattle.names_scopes.specs.declared.scope.Local.{Local}
use Rattle.names_scopes.specs.declared.scope.Local.TheVariants.{Bound, Defined}

-- a definition that is meant stands in a table of so many
abbrev pub IsIn : ℕ → Meant → Type 0
IsIn n (meant.Definition k) = k.0 < n
IsIn n m = Unit {0}

-- each definition that a name of the program means stands in a table of so many
abbrev pub AreIn : ℕ → List Entry → Type 0
AreIn n names = All (λ (e : Entry). IsIn n e.is.meant) names

-- each definition among bound names stands in a table of so many
abbrev pub LocalsIn : ℕ → List Local → Type 0
LocalsIn n [] = Unit {0}
LocalsIn n (Bound m ∷ sc) = LocalsIn n sc
LocalsIn n (Defined m k p ∷ sc) = (k.0 < n) × LocalsIn n sc

-- only names that take a slot were added
abbrev pub AddsSlots : List Local → List Local → Type 0
AddsSlots a b = (n : ℕ) → LocalsIn n a → LocalsIn n b
