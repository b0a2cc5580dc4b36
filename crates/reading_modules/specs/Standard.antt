-- The standard modules that may be extended, with the names that each brings. They are never read from files. Operators that are
-- symbols, as `+` or `\o`, mean the same in every module, and are no names.
use Rattle.std.specs.Prelude.{ℕ, Bool, ◌&&◌, List, [], ◌∷◌, codes}
use Rattle.std.specs.List.{list_any}
use Rattle.std.specs.Str.{bytes_eq}

pub record StandardModule : Type 0 where
  pub name : List ℕ
  pub names : List (List ℕ)

unfoldable pub standard_modules : List StandardModule
standard_modules =
    record { name = codes "Naturals"; names = codes "Nat" ∷ [] }
    ∷ record { name = codes "Integers"; names = codes "Nat" ∷ codes "Int" ∷ [] }
    ∷ record { name = codes "Sequences"; names = codes "Seq" ∷ codes "Len" ∷ codes "Head" ∷ codes "Tail" ∷ codes "Append" ∷ codes "SubSeq" ∷ [] }
    ∷ record { name = codes "FiniteSets"; names = codes "IsFiniteSet" ∷ codes "Cardinality" ∷ [] }
    ∷ record { name = codes "TLC"; names = [] }
    ∷ []

abbrev pub is_among : List ℕ → List (List ℕ) → Bool
is_among name names = list_any (λ n. bytes_eq n name) names

-- the name of a standard module
abbrev pub is_standard : List ℕ → Bool
is_standard name = list_any (λ m. bytes_eq m.name name) standard_modules

-- a name that one of the extended standard modules brings
abbrev pub is_brought : List (List ℕ) → List ℕ → Bool
is_brought extended name = list_any (λ m. is_among m.name extended && is_among name m.names) standard_modules
