-- For the prover: the table of definitions while it is filled. A definition that uses itself gets a place first, and its body behind all others.
use Rattle.std.specs.Prelude.{◌≡◌, ◌≢◌, ◌⊎◌, ◌<◌, ◌≤◌, ℕ, Bool, true, false, List, [], ◌∷◌, ◌++◌, length, take, set, Contains, Some, None, slice_get}
use Rattle.std.specs.List.{slice_index_or}
use Rattle.values_core.specs.Data.{Val}
use Rattle.reading_trees.specs.declared.config.Config.{Config}
use Rattle.reading_trees.specs.declared.expr.Definition.{Definition}
use Rattle.reading_trees.specs.declared.module.Program.{Program}
use Rattle.names_terms.specs.declared.operator.Operator.{Operator}
use Rattle.names_terms.specs.declared.operator.Own.{Own}
use Rattle.names_terms.specs.declared.operator.Own.TheVariants as owns
use Rattle.names_terms.specs.Terms.{Term}
use Rattle.names_term_parts.specs.Slots.{MentionsBelow, UsesSmaller}
use Rattle.names_scopes.specs.declared.meant.Entry.{Entry}
use Rattle.names_scopes.specs.Scopes.{bind}
use Rattle.names_scopes.specs.Standing.{AreIn}
use Rattle.names_meanings.specs.Means.{Means, no_body}
use Rattle.names_meanings.specs.Outcomes.{Grows, Lasts, named_in}
use Rattle.names_program.specs.InUnits.{definitions_in}
use Rattle.names_program.specs.Names.{AreByDefinition, AreNames, Numbers, by_index, numbers_of, with_number}
use Rattle.names_program.specs.Recursion.{AreLevelsOf}
use Rattle.names_tables.specs.declared.table.Table.{Table}
use Rattle.names_tables.specs.Tables.{AreLeveled, HasOwn, unit_operator}

-- Each definition of the first table stands in the second, but for another body. One that has no number, as those of LETs, stands there with the same.
pub record KeepsHeads (number : Numbers) (a b : List Operator) : Type 0 where
  pub heads : (k : ℕ) (o : Operator) → slice_get a k ≡ Some o → (e : Term) × (slice_get b k ≡ Some (record o { body = e }))
  pub others : (k : ℕ) (o : Operator) → ((i : ℕ) → number i ≡ Some k → ⊥) → slice_get a k ≡ Some o → slice_get b k ≡ Some o

-- a table without definitions
pub record IsBegun (names : List Entry) (count : ℕ) (t : Table) : Type 0 where
  pub operators : t.operators ≡ []
  pub unnumbered : (i : ℕ) → numbers_of t.numbers.items i ≡ None
  pub as_many : length t.numbers.items ≡ count
  pub are : (p : Program) (c : Config) (values : List Val) → AreNames p c values by_index names → AreNames p c values (numbers_of t.numbers.items) t.names
  pub known : AreIn 0 t.names

-- the definition of that index was put last, with this mark and body
pub record IsPut (by_definition : List (List Entry)) (index : ℕ) (d : Definition) (own : Own) (body : Term) (old new : Table) : Type 0 where
  pub pushed : new.operators ≡ old.operators ++ unit_operator d own body ∷ []
  pub as_many : length new.numbers.items ≡ length old.numbers.items
  pub numbers : (i : ℕ) → numbers_of new.numbers.items i ≡ with_number (numbers_of old.numbers.items) index (length old.operators) i
  pub are : (p : Program) (c : Config) (values : List Val) → AreByDefinition p c values by_definition → numbers_of old.numbers.items index ≡ None → AreNames p c values (numbers_of old.numbers.items) old.names → AreNames p c values (with_number (numbers_of old.numbers.items) index (length old.operators)) new.names
  pub known : AreIn (length new.operators) new.names

-- the definitions of LETs in the body of a definition were added, and what it means
pub record IsMeant (d : Definition) (body : Term) (middle : List Operator) (old : Table) : Type 0 where
  pub grown : Grows old.operators middle
  pub unnamed : named_in middle ≡ named_in old.operators
  pub smaller : UsesSmaller middle
  pub below : MentionsBelow (length middle) body
  pub means : Lasts (length old.operators) middle (λ all. Means old.names all (bind [] d.params) d.body body)

-- the definition of that index, which does not use itself, was added behind those of its LETs
pub record IsAdded (by_definition : List (List Entry)) (index : ℕ) (d : Definition) (old new : Table) : Type 0 where
  pub body : Term
  pub middle : List Operator
  pub meant : IsMeant d body middle old
  pub put : IsPut by_definition index d owns.Apart body (record old { operators = middle }) new

-- it is there, by how it uses itself: its body comes later, where it does
abbrev pub IsPlaced : List (List Entry) → Own → ℕ → Definition → Table → Table → Type 0
IsPlaced by_definition owns.Apart index d old new = IsAdded by_definition index d old new
IsPlaced by_definition own index d old new = IsPut by_definition index d own no_body old new

-- the definition of that number got its body; the definitions of its LETs stand behind all others
pub record IsSettledAt (row : ℕ) (d : Definition) (old new : Table) : Type 0 where
  pub body : Term
  pub middle : List Operator
  pub meant : IsMeant d body middle old
  pub changed : (o : Operator) → slice_get middle row ≡ Some o → new.operators ≡ set middle row (record o { body = body })
  pub names : new.names ≡ old.names
  pub numbers : new.numbers ≡ old.numbers

-- the same of the definition of that index
pub record IsSettled (index : ℕ) (d : Definition) (old new : Table) : Type 0 where
  pub row : ℕ
  pub numbered : numbers_of old.numbers.items index ≡ Some row
  pub settled : IsSettledAt row d old new

-- it did so if it uses itself
abbrev pub IsSettledIf : Bool → ℕ → Definition → Table → Table → Type 0
IsSettledIf true index d old new = IsSettled index d old new
IsSettledIf false index d old new = new ≡ old

-- what stands at a number as the definition of that index
pub record IsRow (p : Program) (c : Config) (t : Table) (i : ℕ) (d : Definition) (k : ℕ) : Type 0 where
  pub own : Own
  pub body : Term
  pub marked : HasOwn p c i d own
  pub stands : slice_get t.operators k ≡ Some (unit_operator d own body)
  pub means : (all : List Operator) → KeepsHeads (numbers_of t.numbers.items) t.operators all → Means t.names all (bind [] d.params) d.body body

-- the same where its body is to come
pub record IsWaiting (p : Program) (c : Config) (t : Table) (i : ℕ) (d : Definition) (k : ℕ) : Type 0 where
  pub own : Own
  pub itself : own ≢ owns.Apart
  pub marked : HasOwn p c i d own
  pub stands : slice_get t.operators k ≡ Some (unit_operator d own no_body)

-- the definition of that index uses itself, and is not one of the first, which got their bodies
abbrev pub Waits : List Bool → ℕ → ℕ → Type 0
Waits marks from i = (slice_index_or marks i false ≡ true) × (from ≤ i)

abbrev pub HasBody : List Bool → ℕ → ℕ → Type 0
HasBody marks from i = (slice_index_or marks i false ≡ false) ⊎ (i < from)

-- The definitions of the first indices of an order were placed, so many of them; and of those that use themselves the first, as far as an index, got
-- their bodies.
pub record Filled (p : Program) (c : Config) (names : List Entry) (marks : List Bool) (order : List ℕ) (j from : ℕ) (t : Table) : Type 0 where
  pub as_many : length t.numbers.items ≡ length (definitions_in p.units)
  pub known : AreIn (length t.operators) t.names
  pub smaller : UsesSmaller t.operators
  pub are : (values : List Val) → AreNames p c values by_index names → AreNames p c values (numbers_of t.numbers.items) t.names
  pub done : (i : ℕ) → Contains (take j order) i → (k : ℕ) × (numbers_of t.numbers.items i ≡ Some k)
  pub rest : (i : ℕ) → ¬ Contains (take j order) i → numbers_of t.numbers.items i ≡ None
  pub within : (i k : ℕ) → numbers_of t.numbers.items i ≡ Some k → k < length t.operators
  pub once : (h i k : ℕ) → numbers_of t.numbers.items h ≡ Some k → numbers_of t.numbers.items i ≡ Some k → h ≡ i
  pub rows : (i : ℕ) (d : Definition) (k : ℕ) → slice_get (definitions_in p.units) i ≡ Some d → numbers_of t.numbers.items i ≡ Some k → HasBody marks from i → IsRow p c t i d k
  pub waiting : (i : ℕ) (d : Definition) (k : ℕ) → slice_get (definitions_in p.units) i ≡ Some d → numbers_of t.numbers.items i ≡ Some k → Waits marks from i → IsWaiting p c t i d k
  pub leveled : (bs : List Bool) → AreLevelsOf p c bs → AreLeveled bs (numbers_of t.numbers.items) t.operators
  pub named : (k : ℕ) (o : Operator) → slice_get t.operators k ≡ Some o → o.name ≢ [] → (i : ℕ) × (d : Definition) × (slice_get (definitions_in p.units) i ≡ Some d) × (numbers_of t.numbers.items i ≡ Some k)
