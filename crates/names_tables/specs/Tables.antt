-- The table of a program's definitions: what the names of the program mean, and what each body means among them.
use Rattle.std.specs.Prelude.{◌≡◌, ◌≢◌, ℕ, Bool, List, [], length, Some, slice_get}
use Rattle.values_core.specs.Data.{Val}
use Rattle.reading_trees.specs.Trees.{Tree}
use Rattle.reading_trees.specs.declared.config.Config.{Config}
use Rattle.reading_trees.specs.declared.expr.Definition.{Definition}
use Rattle.reading_trees.specs.declared.module.Program.{Program}
use Rattle.names_terms.specs.declared.operator.Operator.{Operator}
use Rattle.names_terms.specs.declared.operator.Own.{Own}
use Rattle.names_terms.specs.declared.operator.Own.TheVariants as owns
use Rattle.names_terms.specs.Levels.{of_operator}
use Rattle.names_terms.specs.Terms.{Term, level_of}
use Rattle.names_term_parts.specs.Slots.{UsesSmaller}
use Rattle.names_least_levels.specs.Levels.{mark}
use Rattle.names_scopes.specs.declared.meant.Entry.{Entry}
use Rattle.names_scopes.specs.Scopes.{bind}
use Rattle.names_meanings.specs.Means.{Means}
use Rattle.names_meanings.specs.Outcomes.{Grows, above, named_in}
use Rattle.names_program.specs.InUnits.{definitions_in}
use Rattle.names_program.specs.Names.{Numbers, AreNames}
use Rattle.names_program.specs.Recursion.{AreLevelsOf, IsOwnFunction}
use Rattle.names_program.specs.Uses.{UsesItself}

-- what a tree means under parameters, among the names of a program whose definitions have these numbers
pub record MeansThere (p : Program) (c : Config) (values : List Val) (number : Numbers) (ops : List Operator) (params : List (List ℕ)) (t : Tree) (e : Term) : Type 0 where
  pub names : List Entry
  pub are : AreNames p c values number names
  pub means : Means names ops (bind [] params) t e

-- How the definition of that index uses itself: it does not; it is a function that its own body applies; or it does so in another way.
abbrev pub HasOwn : Program → Config → ℕ → Definition → Own → Type 0
HasOwn p c i d owns.Apart = ¬ UsesItself p c i
HasOwn p c i d owns.Function = IsOwnFunction p c i d
HasOwn p c i d owns.Itself = UsesItself p c i × ¬ IsOwnFunction p c i d

-- a definition of a unit as one of the table
abbrev pub unit_operator : Definition → Own → Term → Operator
unit_operator d own body = record { name = d.name; outer = 0; params = length d.params; level = level_of body; own = own; body = body }

-- The definition of that index stands in the table under its number.
pub record IsTabled (p : Program) (c : Config) (values : List Val) (number : Numbers) (ops : List Operator) (i : ℕ) (d : Definition) : Type 0 where
  pub row : ℕ
  pub own : Own
  pub body : Term
  pub numbered : number i ≡ Some row
  pub marked : HasOwn p c i d own
  pub stands : slice_get ops row ≡ Some (unit_operator d own body)
  pub means : MeansThere p c values number ops d.params d.body body

-- definitions are above level 0 where their marks say so
abbrev pub AreLeveled : List Bool → Numbers → List Operator → Type 0
AreLeveled bs number ops = (i k : ℕ) → number i ≡ Some k → above (of_operator (slice_get ops k)) ≡ mark bs i

-- The table of a program: each definition has a row, each row with a name is one of a definition, each that does not use itself uses rows of smaller
-- numbers alone, and those are above level 0 that are so in the least levels of the program.
pub record IsTable (p : Program) (c : Config) (values : List Val) (number : Numbers) (ops : List Operator) : Type 0 where
  pub definitions : (i : ℕ) (d : Definition) → slice_get (definitions_in p.units) i ≡ Some d → IsTabled p c values number ops i d
  pub named : (k : ℕ) (o : Operator) → slice_get ops k ≡ Some o → o.name ≢ [] → (i : ℕ) × (d : Definition) × (slice_get (definitions_in p.units) i ≡ Some d) × (number i ≡ Some k)
  pub smaller : UsesSmaller ops
  pub leveled : (bs : List Bool) → AreLevelsOf p c bs → AreLeveled bs number ops

-- What is a table stays one where definitions without a name, as those of LETs, are added behind the others.
abbrev pub StaysTable : Program → Config → List Val → Numbers → List Operator → Type 0
StaysTable p c values number ops = (all : List Operator) → Grows ops all → named_in all ≡ named_in ops → UsesSmaller all → IsTable p c values number all

-- the terms are what the trees mean there, in their order
pub record AreMeant (p : Program) (c : Config) (values : List Val) (number : Numbers) (ops : List Operator) (trees : List Tree) (terms : List Term) : Type 0 where
  pub as_many : length terms ≡ length trees
  pub each : (j : ℕ) (t : Tree) (e : Term) → slice_get trees j ≡ Some t → slice_get terms j ≡ Some e → MeansThere p c values number ops [] t e
