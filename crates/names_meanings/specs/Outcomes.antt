-- What the code that resolves a tree answers.
use Rattle.std.specs.Prelude.{◌≡◌, ◌≤◌, ℕ, Bool, true, false, List, [], ◌∷◌, ◌++◌, Option, Some, option_map, slice_get}
use Rattle.names_term_parts.specs.Slots.{UsesSmaller}
use Rattle.names_terms.specs.declared.operator.Operator.{Operator}
use Rattle.names_terms.specs.Terms.{Term}
use Rattle.names_meanings.specs.declared.fault.NameFault.{NameFault}
use Rattle.names_meanings.specs.declared.fault.NameFault.TheVariants.{UnknownName, WrongArity, Recursion, NoMemory}
use Rattle.names_scopes.specs.declared.meant.Entry.{Entry}
use Rattle.names_scopes.specs.declared.meant.Meant.{Meant}
use Rattle.names_scopes.specs.declared.meant.Named.{Named}
use Rattle.names_scopes.specs.declared.scope.Local.{Local}
use Rattle.names_terms.specs.declared.level.Level.{Level}
use Rattle.names_terms.specs.declared.level.Level.TheVariants as levels
use Rattle.names_terms.specs.Levels.{of_operator}
use Rattle.names_scopes.specs.declared.meant.Meant.TheVariants as meant
use Rattle.names_meanings.specs.Complaints.{Taken, Takes}
use Rattle.names_scopes.specs.Scopes.{meaning_in, among}

-- the refusal is this complaint, or want of memory
abbrev pub Complains : Option NameFault → NameFault → Type 0
Complains c NoMemory = Unit {0}
Complains c (UnknownName n at) = c ≡ Some (UnknownName n at)
Complains c (WrongArity n found needed at) = c ≡ Some (WrongArity n found needed at)
Complains c (Recursion n at) = c ≡ Some (Recursion n at)

abbrev pub above : Level → Bool
above levels.Constant = false
above l = true

-- whether what is meant is above level 0, over a table of definitions
abbrev pub meant_above : List Operator → Meant → Bool
meant_above ops (meant.Variable x) = true
meant_above ops (meant.Definition k) = above (of_operator (slice_get ops k.0))
meant_above ops m = false

-- only operators take arguments
abbrev pub needs : Meant → ℕ → ℕ
needs (meant.Standard o) k = k
needs (meant.Definition d) k = k
needs m k = 0

abbrev pub needed_by : Named → ℕ
needed_by w = needs w.meant w.needed

abbrev pub taken_by : List Operator → Named → Taken
taken_by ops w = record { needed = needed_by w; is_above = meant_above ops w.meant }

-- what is known of names among those of the program and those that are bound around
abbrev pub takes_in : List Operator → List Entry → List Local → Takes
takes_in ops names sc n = option_map (taken_by ops) (meaning_in names sc n)

-- what is known of names of the program
abbrev pub takes_of : List Operator → List Entry → Takes
takes_of ops names n = option_map (taken_by ops) (among names n)

-- the name means this, which takes so many arguments
abbrev pub IsSought : List Entry → List Local → List ℕ → ℕ → Meant → Type 0
IsSought names sc n found m = (what : Named) × (meaning_in names sc n ≡ Some what) × (what.meant ≡ m) × (needed_by what ≡ found)

-- a table with definitions behind those of another
abbrev pub Grows : List Operator → List Operator → Type 0
Grows a b = (more : List Operator) × (b ≡ a ++ more)

abbrev pub unless_unnamed : List ℕ → Operator → List Operator → List Operator
unless_unnamed [] o os = os
unless_unnamed (c ∷ cs) o os = o ∷ os

-- the definitions that have a name, which those of a LET have not
abbrev pub named_in : List Operator → List Operator
named_in [] = []
named_in (o ∷ os) = unless_unnamed o.name o (named_in os)

-- each definition uses those of smaller numbers alone, or is constant and uses itself
unfoldable pub IsOrdered : List Operator → Type 0
IsOrdered ops = UsesSmaller ops

-- where the first table is ordered, so is the second
abbrev pub KeepsOrder : List Operator → List Operator → Type 0
KeepsOrder a b = IsOrdered a → IsOrdered b

-- over each table that begins with these definitions
abbrev pub Always : List Operator → (List Operator → Type 0) → Type 0
Always ops P = (all : List Operator) → Grows ops all → P all

-- Each definition of the first table stands in the second, but for another body. From a number on it has the same body too: those before may still be
-- waiting for theirs.
pub record StandsOn (from : ℕ) (a b : List Operator) : Type 0 where
  pub heads : (k : ℕ) (o : Operator) → slice_get a k ≡ Some o → (e : Term) × (slice_get b k ≡ Some (record o { body = e }))
  pub bodies : (k : ℕ) (o : Operator) → from ≤ k → slice_get a k ≡ Some o → slice_get b k ≡ Some o

-- over each table in which these definitions stand on
abbrev pub Lasts : ℕ → List Operator → (List Operator → Type 0) → Type 0
Lasts from ops P = (all : List Operator) → StandsOn from ops all → P all
