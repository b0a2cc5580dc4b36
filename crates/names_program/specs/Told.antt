-- For the prover: the entries that names give, one behind the other.
use Rattle.std.specs.Prelude.{ℕ, List, [], ◌∷◌, ◌++◌, Option, Some, None}
use Rattle.names_scopes.specs.declared.meant.Entry.{Entry}
use Rattle.names_scopes.specs.declared.meant.Named.{Named}
use Rattle.names_scopes.specs.Scopes.{among, named}
use Rattle.names_program.specs.Names.{definition_meant}

-- the name with what it means, if it means something
abbrev pub entry_if : List ℕ → Option Named → List Entry
entry_if n None = []
entry_if n (Some w) = record { name = n; is = w } ∷ []

-- of these entries each name with what becomes of its meaning among all
abbrev pub told : (Option Named → Option Named) → List Entry → List Entry → List Entry
told f all [] = []
told f all (e ∷ es) = entry_if e.name (f (among all e.name)) ++ told f all es

-- the same names for the definition of that number
abbrev pub defined_by : ℕ → List Entry → List Entry
defined_by k [] = []
defined_by k (e ∷ es) = record { name = e.name; is = named e.is.needed (definition_meant k) } ∷ defined_by k es
