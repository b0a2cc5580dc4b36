-- Two tables of one program differ by the numbers of definitions alone: laws.
use Rattle.std.specs.Prelude.{◌≡◌, ℕ, Bool, true, false, IsTrue, List, Some, slice_get}
use Rattle.values_core.specs.Data.{Val}
use Rattle.reading_trees.specs.Trees.{Tree}
use Rattle.reading_trees.specs.declared.config.Config.{Config}
use Rattle.reading_trees.specs.declared.expr.Definition.{Definition}
use Rattle.reading_trees.specs.declared.module.Program.{Program}
use Rattle.names_terms.specs.declared.operator.Operator.{Operator}
use Rattle.names_terms.specs.Terms.{Term}
use Rattle.names_scopes.specs.declared.meant.Entry.{Entry}
use Rattle.names_scopes.specs.declared.scope.Local.{Local}
use Rattle.names_meanings.specs.Means.{Means}
use Rattle.names_program.specs.InUnits.{definitions_in}
use Rattle.names_program.specs.Names.{Numbers}
use Rattle.names_tables.specs.Tables.{IsTable, MeansThere}
use Rattle.twice_terms.specs.Alike.{Alike, AlikeRows}
use Rattle.twice_tables.specs.Places.{AlikeLocals, AlikeWhere, AreAlikeNames, AreMentioned, ValuesAre}

-- two values are one, where values are compared
abbrev pub SameIf : Bool → Val → Val → Type 0
SameIf true v w = v ≡ w
SameIf false v w = Unit {0}

-- rows of the first table that are kept are alike to those of the other
abbrev pub AlikeKept : Bool → List Operator → List Operator → (ℕ → Bool) → ℕ → ℕ → Type 0
AlikeKept compared ops all kept = AlikeWhere (SameIf compared) ops all (λ k. IsTrue (kept k))

-- the bodies of rows that are kept mention such alone, as where all below a number are kept, and none of them uses itself
abbrev pub BodiesAreKept : List Operator → (ℕ → Bool) → Type 0
BodiesAreKept ops kept = (k : ℕ) (o : Operator) → slice_get ops k ≡ Some o → IsTrue (kept k) → AreMentioned (λ j. IsTrue (kept j)) o.body

-- What one tree means over two tables is alike, where the names around mean what is alike. Names are asked to be alike for rows that are kept alone, and the
-- first term mentions no others, nor do the bodies of these.
abbrev pub MeaningsAreAlike : Type 0
MeaningsAreAlike =
    (compared : Bool) (ops all : List Operator) (kept : ℕ → Bool) (names others : List Entry) → BodiesAreKept ops kept → AreAlikeNames (SameIf compared) (AlikeKept compared ops all kept) names others → (scope outer : List Local) (t : Tree) (e f : Term) → AlikeLocals (AlikeKept compared ops all kept) scope outer → AreMentioned (λ j. IsTrue (kept j)) e → Means names ops scope t e → Means others all outer t f → Alike (SameIf compared) ops all e f

-- two tables of one program differ by the numbers of definitions alone
abbrev pub TablesAreAlike : Type 0
TablesAreAlike =
    (compared : Bool) (p : Program) (c : Config) (values others : List Val) (number renumber : Numbers) (ops all : List Operator) → ValuesAre (SameIf compared) p c values others → IsTable p c values number ops → IsTable p c others renumber all → (i : ℕ) (d : Definition) (k j : ℕ) → slice_get (definitions_in p.units) i ≡ Some d → number i ≡ Some k → renumber i ≡ Some j → AlikeRows (SameIf compared) ops all k j

-- and so does what a tree means among the names of the program
abbrev pub TreesAreAlike : Type 0
TreesAreAlike =
    (compared : Bool) (p : Program) (c : Config) (values others : List Val) (number renumber : Numbers) (ops all : List Operator) → ValuesAre (SameIf compared) p c values others → IsTable p c values number ops → IsTable p c others renumber all → (params : List (List ℕ)) (t : Tree) (e f : Term) → MeansThere p c values number ops params t e → MeansThere p c others renumber all params t f → Alike (SameIf compared) ops all e f
