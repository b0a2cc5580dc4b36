-- Which definitions use which, and in which orders they may be resolved. Definitions have numbers from 0.
use Rattle.std.specs.Prelude.{◌≡◌, ◌≢◌, ℕ, ◌<◌, ◌↔◌, List, [], ◌∷◌, ◌++◌, length, map, AllPairs, Contains, Vec}
use Rattle.std.specs.List.{slice_index_or, range_with_len}
use Rattle.std.specs.declared.alloc.Global.{Global}

-- the numbers that each definition uses
abbrev pub Table : Type 0
Table = List (List ℕ)

abbrev pub table_of : List (Vec ℕ Global) → Table
table_of = map (λ used. used.items)

-- what the definition uses: nothing where there is no such definition
abbrev pub used_by : Table → ℕ → List ℕ
used_by uses a = slice_index_or uses a []

-- definition a uses definition b
abbrev pub Uses : Table → ℕ → ℕ → Type 0
Uses uses a b = Contains (used_by uses a) b

-- only numbers of definitions are used
abbrev pub IsWithin : Table → Type 0
IsWithin uses = (a b : ℕ) → Uses uses a b → b < length uses

-- definition a uses definition c, directly or through others
pub data Leads (uses : Table) : ℕ → ℕ → Type 0 where
  direct : (a b : ℕ) → Uses uses a b → Leads uses a b
  through : (a b c : ℕ) → Uses uses a b → Leads uses b c → Leads uses a c

abbrev pub UsesItself : Table → ℕ → Type 0
UsesItself uses a = Leads uses a a

abbrev pub SomeUsesItself : Table → Type 0
SomeUsesItself uses = (a : ℕ) × UsesItself uses a

-- An order in which the definitions may be resolved: each once, and what one uses before it.
pub record IsOrder (uses : Table) (order : List ℕ) : Type 0 where
  pub all : (a : ℕ) → (a < length uses) ↔ Contains order a
  pub once : AllPairs (λ a b. a ≢ b) order
  pub used_before : (a b : ℕ) (before after : List ℕ) → order ≡ before ++ a ∷ after → Uses uses a b → Contains before b

-- each definition uses only those before it
abbrev pub AreInOrder : Table → Type 0
AreInOrder uses = (a b : ℕ) → Uses uses a b → b < a

-- the numbers below n, from 0 on
abbrev pub numbers_below : ℕ → List ℕ
numbers_below n = range_with_len 0 n

-- where there is an order, no definition uses itself
abbrev pub NoneUsesItself : Type 0
NoneUsesItself = (uses : Table) (order : List ℕ) → IsOrder uses order → (a : ℕ) → ¬ UsesItself uses a

-- an order has as many numbers as there are definitions
abbrev pub HasAll : Type 0
HasAll = (uses : Table) (order : List ℕ) → IsOrder uses order → length order ≡ length uses
