-- The names that the standard modules bring, with how many arguments each takes and what it means. Operators that are symbols, as `+` or `\o`,
-- are no names (Lamport, Specifying Systems, 18; which names there are is this project's profile).
use Rattle.std.specs.Prelude.{ℕ, Bool, if◌then◌else◌, List, [], ◌∷◌, codes}
use Rattle.std.specs.List.{list_any}
use Rattle.names_terms.specs.declared.standard.NamedSet.TheVariants as sets
use Rattle.names_terms.specs.declared.standard.StandardOperator.TheVariants as operators
use Rattle.names_scopes.specs.declared.meant.Entry.{Entry}
use Rattle.names_scopes.specs.declared.meant.Meant.{Meant}
use Rattle.names_scopes.specs.declared.meant.Meant.TheVariants as meant
use Rattle.names_scopes.specs.Mentions.{is_one_of}
use Rattle.names_scopes.specs.Scopes.{named}

abbrev pub entry : List ℕ → ℕ → Meant → Entry
entry n needed m = record { name = n; is = named needed m }

-- a name, how many arguments it takes, what it means, and the modules that bring it
pub record StandardName : Type 0 where
  pub name : List ℕ
  pub needed : ℕ
  pub meant : Meant
  pub modules : List (List ℕ)

abbrev pub standard_name : List ℕ → ℕ → Meant → List (List ℕ) → StandardName
standard_name n needed m modules = record { name = n; needed = needed; meant = m; modules = modules }

abbrev pub sequence_name : List ℕ → ℕ → Meant → StandardName
sequence_name n needed m = standard_name n needed m (codes "Sequences" ∷ [])

abbrev pub finite_name : List ℕ → ℕ → Meant → StandardName
finite_name n needed m = standard_name n needed m (codes "FiniteSets" ∷ [])

unfoldable pub standard_names : List StandardName
standard_names =
    standard_name (codes "Nat") 0 (meant.Set sets.Nat) (codes "Naturals" ∷ codes "Integers" ∷ [])
    ∷ standard_name (codes "Int") 0 (meant.Set sets.Int) (codes "Integers" ∷ [])
    ∷ sequence_name (codes "Seq") 1 (meant.Standard operators.Seq)
    ∷ sequence_name (codes "Len") 1 (meant.Standard operators.Len)
    ∷ sequence_name (codes "Head") 1 (meant.Standard operators.Head)
    ∷ sequence_name (codes "Tail") 1 (meant.Standard operators.Tail)
    ∷ sequence_name (codes "Append") 2 (meant.Standard operators.Append)
    ∷ sequence_name (codes "SubSeq") 3 (meant.Standard operators.SubSeq)
    ∷ finite_name (codes "IsFiniteSet") 1 (meant.Standard operators.IsFiniteSet)
    ∷ finite_name (codes "Cardinality") 1 (meant.Standard operators.Cardinality)
    ∷ []

abbrev pub is_brought : List (List ℕ) → StandardName → Bool
is_brought extended s = list_any (λ m. is_one_of m extended) s.modules

-- the names of this list that the extended modules bring
abbrev pub brought_from : List (List ℕ) → List StandardName → List Entry
brought_from extended [] = []
brought_from extended (s ∷ ss) =
    if is_brought extended s then entry s.name s.needed s.meant ∷ brought_from extended ss else brought_from extended ss

abbrev pub brought : List (List ℕ) → List Entry
brought extended = brought_from extended standard_names

-- the standard names that a configuration may replace
unfoldable pub replaceable : List (List ℕ)
replaceable = codes "Nat" ∷ codes "Int" ∷ codes "Seq" ∷ []
