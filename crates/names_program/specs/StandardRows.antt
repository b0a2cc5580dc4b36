-- For the prover: the rows of the table of standard names.
use Rattle.std.specs.Prelude.{ℕ, if◌then◌else◌, List, [], ◌∷◌, Option, Some, None, codes}
use Rattle.names_scopes.specs.declared.meant.Entry.{Entry}
use Rattle.names_scopes.specs.declared.meant.Meant.{Meant}
use Rattle.names_scopes.specs.declared.meant.Meant.TheVariants as meant
use Rattle.names_program.specs.declared.standard.StandardMeaning.{StandardMeaning}
use Rattle.names_program.specs.declared.standard.StandardMeaning.TheVariants.{Set, Operator}
use Rattle.names_program.specs.declared.standard.Home.{Home}
use Rattle.names_program.specs.declared.standard.Home.TheVariants.{Naturals, Integers, Sequences, FiniteSets}
use Rattle.names_program.specs.declared.standard.StandardRow.{StandardRow}
use Rattle.names_program.specs.Standard.{StandardName, standard_name, is_brought, entry}

abbrev pub meant_of : StandardMeaning → Meant
meant_of (Set s) = meant.Set s
meant_of (Operator o) = meant.Standard o

abbrev pub modules_of : Home → List (List ℕ)
modules_of Naturals = codes "Naturals" ∷ codes "Integers" ∷ []
modules_of Integers = codes "Integers" ∷ []
modules_of Sequences = codes "Sequences" ∷ []
modules_of FiniteSets = codes "FiniteSets" ∷ []

abbrev pub row_name : StandardRow → StandardName
row_name r = standard_name r.0.now r.1 (meant_of r.2) (modules_of r.3)

abbrev pub brought_row : StandardRow → Entry
brought_row r = entry r.0.now r.1 (meant_of r.2)

-- what one standard name brings
abbrev pub brought_at : List (List ℕ) → Option StandardName → List Entry
brought_at extended None = []
brought_at extended (Some s) = if is_brought extended s then entry s.name s.needed s.meant ∷ [] else []
