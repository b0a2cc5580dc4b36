-- What definitions of a table mean: each body of one is what a tree means, among the names of a program and those that are bound around it.
use Rattle.std.specs.Prelude.{◌≡◌, ◌≢◌, ◌<◌, ◌≤◌, ◌+◌, ℕ, suc, List, [], ◌∷◌, Contains, Option, Some, None, slice_get}
use Rattle.reading_trees.specs.Trees.{Tree}
use Rattle.names_terms.specs.declared.ids.DefId.{DefId}
use Rattle.names_terms.specs.declared.operator.Operator.{Operator}
use Rattle.names_terms.specs.Terms.{Term, level_of}
use Rattle.names_scopes.specs.declared.meant.Entry.{Entry}
use Rattle.names_scopes.specs.declared.meant.Meant.{Meant}
use Rattle.names_scopes.specs.declared.meant.Meant.TheVariants as meant
use Rattle.names_scopes.specs.declared.meant.Named.{Named}
use Rattle.names_scopes.specs.declared.scope.Local.{Local}
use Rattle.names_scopes.specs.declared.scope.Local.TheVariants.{Bound, Defined}
use Rattle.names_scopes.specs.Scopes.{among, slots}
use Rattle.names_meanings.specs.Complaints.{complaint}
use Rattle.names_meanings.specs.Means.{Means}
use Rattle.names_meanings.specs.Outcomes.{takes_in}
use Rattle.names_specification_laws.specs.Formed.{IsFormed}
use Rattle.names_specification_laws.specs.IsSpec.{needed_by}

-- what each name of a program means
abbrev pub NameMeanings : Type 0
NameMeanings = List ℕ → Option Named

-- A tree in order has this meaning, in which nothing is wrong with its names.
pub record HasTerm (known : NameMeanings) (ops : List Operator) (scope : List Local) (t : Tree) (e : Term) : Type 0 where
  pub names : List Entry
  pub are : (n : List ℕ) → among names n ≡ known n
  pub formed : IsFormed t
  pub fine : complaint (takes_in ops names scope) t ≡ None
  pub means : Means names ops scope t e

-- the definition of that number takes so many arguments, and so many slots around it at most
pub record IsDefined (ops : List Operator) (k needed before : ℕ) : Type 0 where
  pub operator : Operator
  pub is : slice_get ops k ≡ Some operator
  pub arguments : operator.params ≡ needed
  pub around : operator.outer ≤ before

-- what a name of a program may mean, with so many arguments
abbrev pub MeantFits : ℕ → List Operator → ℕ → Meant → Type 0
MeantFits variables ops needed (meant.Slot i) = ⊥
MeantFits variables ops needed (meant.Variable x) = (x.0 < variables) × (needed ≡ 0)
MeantFits variables ops needed (meant.Known v) = needed ≡ 0
MeantFits variables ops needed (meant.Set s) = needed ≡ 0
MeantFits variables ops needed (meant.Standard o) = needed ≡ needed_by o
MeantFits variables ops needed (meant.Definition k) = IsDefined ops k.0 needed 0

abbrev pub NamesFit : NameMeanings → ℕ → List Operator → Type 0
NamesFit known variables ops = (n : List ℕ) (w : Named) → known n ≡ Some w → MeantFits variables ops w.needed w.meant

-- each definition among names that are bound, so many slots standing before them, takes no slots but those before it
abbrev pub FitFrom : List Operator → ℕ → List Local → Type 0
FitFrom ops i [] = Unit {0}
FitFrom ops i (Bound n ∷ scope) = FitFrom ops (suc i) scope
FitFrom ops i (Defined n k p ∷ scope) = IsDefined ops k.0 p i × FitFrom ops i scope

abbrev pub ScopeFits : List Operator → List Local → Type 0
ScopeFits ops scope = FitFrom ops 0 scope

-- The body of the definition is what some tree means where as many slots are taken as the definition has around it and as parameters. The
-- definitions that are bound there have meanings too; itself may be one of them, if it is a function that its body applies.
pub data HasMeaning (known : NameMeanings) (ops : List Operator) : ℕ → Type 0 where
  meaning : (k : ℕ) (o : Operator) (scope : List Local) (t : Tree) → slice_get ops k ≡ Some o → o.level ≡ level_of o.body
      → slots scope ≡ o.outer + o.params → ScopeFits ops scope
      → ((n : List ℕ) (d : DefId) (p : ℕ) → Contains scope (Defined n d p) → d.0 ≢ k → HasMeaning known ops d.0)
      → HasTerm known ops scope t o.body → HasMeaning known ops k

-- each definition that a name of the program means has a meaning
abbrev pub NamesHaveMeaning : NameMeanings → List Operator → Type 0
NamesHaveMeaning known ops = (n : List ℕ) (w : Named) (d : DefId) → known n ≡ Some w → w.meant ≡ meant.Definition d → HasMeaning known ops d.0

-- each definition among names that are bound has a meaning
abbrev pub ScopeHasMeaning : NameMeanings → List Operator → List Local → Type 0
ScopeHasMeaning known ops scope = (n : List ℕ) (d : DefId) (p : ℕ) → Contains scope (Defined n d p) → HasMeaning known ops d.0
