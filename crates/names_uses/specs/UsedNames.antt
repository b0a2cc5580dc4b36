-- For the prover: what a definition uses, name by name.
use Rattle.std.specs.Prelude.{◌≡◌, ◌↔◌, ℕ, true, false, if◌then◌else◌, List, [], ◌∷◌, ◌++◌, Option, Some, None, Contains}
use Rattle.reading_trees.specs.declared.expr.Definition.{Definition}
use Rattle.names_scopes.specs.declared.meant.Entry.{Entry}
use Rattle.names_scopes.specs.declared.meant.Meant.{Meant}
use Rattle.names_scopes.specs.declared.meant.Meant.TheVariants as meant
use Rattle.names_scopes.specs.declared.meant.Named.{Named}
use Rattle.names_scopes.specs.Mentions.{is_one_of, mentions}
use Rattle.names_scopes.specs.Scopes.{among}

-- the number of the definition that is meant
abbrev pub number_of : Meant → Option ℕ
number_of (meant.Definition k) = Some k.0
number_of (meant.Slot i) = None
number_of (meant.Variable x) = None
number_of (meant.Known v) = None
number_of (meant.Set s) = None
number_of (meant.Standard s) = None

abbrev pub number_in : Option Named → Option ℕ
number_in None = None
number_in (Some w) = number_of w.meant

-- what a definition uses by a name that means a definition of this number
abbrev pub used_as : Definition → List ℕ → Option ℕ → List ℕ
used_as d n None = []
used_as d n (Some j) = if is_one_of n d.params then [] else j ∷ []

-- what a definition uses by these names
abbrev pub used_over : List Entry → Definition → List (List ℕ) → List ℕ
used_over names d [] = []
used_over names d (n ∷ ns) = used_as d n (number_in (among names n)) ++ used_over names d ns

-- a name by which a definition uses another
pub record UsesBy (names : List Entry) (d : Definition) (j : ℕ) : Type 0 where
  pub name : List ℕ
  pub no_parameter : is_one_of name d.params ≡ false
  pub mentioned : mentions name d.body ≡ true
  pub number : number_in (among names name) ≡ Some j

-- these are what the definition uses
abbrev pub IsUsed : List Entry → Definition → List ℕ → Type 0
IsUsed names d js = (j : ℕ) → Contains js j ↔ UsesBy names d j

-- what each of the definitions uses
abbrev pub AreUsed : List Entry → List Definition → List (List ℕ) → Type 0
AreUsed names [] [] = Unit {0}
AreUsed names [] (js ∷ uses) = ⊥
AreUsed names (d ∷ ds) [] = ⊥
AreUsed names (d ∷ ds) (js ∷ uses) = IsUsed names d js × AreUsed names ds uses
