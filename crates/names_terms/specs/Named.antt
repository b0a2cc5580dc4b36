-- Which definition and which variable have a name.
use Rattle.std.specs.Prelude.{◌≡◌, ◌≢◌, ℕ, List, [], Some, slice_get}
use Rattle.names_terms.specs.declared.operator.Operator.{Operator}

-- The definition of that number has this name. The empty text, which definitions of a LET have, counts as no name.
pub record IsNamed (operators : List Operator) (name : List ℕ) (k : ℕ) : Type 0 where
  pub some : name ≢ []
  pub operator : Operator
  pub is : slice_get operators k ≡ Some operator
  pub named : operator.name ≡ name

-- The variable of that number has this name.
abbrev pub IsVariable : List (List ℕ) → List ℕ → ℕ → Type 0
IsVariable variables name k = slice_get variables k ≡ Some name
