-- The definitions of a module and those of an instance of it: laws.
--
-- The module is read over a table of its own, with the names that it declares, defines and extends; each of its constants is the name of a definition there, by
-- which it is given what is put in its place. The program with the instance has another table. There the instance has a definition for each of the module,
-- with the same parameters, and its body is made of that of the module by putting other names in place of free ones.
use Rattle.std.specs.Prelude.{◌≡◌, ◌⊎◌, ◌↔◌, ℕ, List, [], length, Some, Result, slice_get}
use Rattle.values_core.specs.Data.{Val}
use Rattle.reading_trees.specs.Trees.{Tree}
use Rattle.reading_trees.specs.declared.expr.Definition.{Definition}
use Rattle.states_core.specs.declared.fault.Fault.{Fault}
use Rattle.names_terms.specs.declared.operator.Operator.{Operator}
use Rattle.names_terms.specs.declared.operator.Own.{Own}
use Rattle.names_terms.specs.Terms.{Term, level_of}
use Rattle.names_term_parts.specs.Slots.{UsesSmaller}
use Rattle.names_scopes.specs.declared.meant.Entry.{Entry}
use Rattle.names_scopes.specs.Scopes.{among, bind}
use Rattle.names_meanings.specs.Means.{Means}
use Rattle.names_program.specs.Names.{Numbers}
use Rattle.eval_meanings.specs.Contexts.{Context}
use Rattle.eval_meanings.specs.Evaluates.{Evaluates}
use Rattle.actions_meanings.specs.Forms.{Setting}
use Rattle.actions_meanings.specs.Holds.{Holds}
use Rattle.names_instances.specs.Made.{StandIns, made}
use Rattle.twice_instances.specs.Alikeness.{LikeRows}
use Rattle.twice_instances.specs.SeenStates.{IsInstanceOf}
use Rattle.twice_instances.specs.Seen.{IsSubstitute, seen_in, seen_through}
use Rattle.twice_instances.specs.Standing.{NamesStand}
use Rattle.twice_instances.specs.Trees.{ArePlain, IsFit}

-- The row of a definition, under its own name or another.
abbrev pub row_of : List ℕ → ℕ → Own → Term → Operator
row_of name params own body = record { name = name; outer = 0; params = params; level = level_of body; own = own; body = body }

-- the definition is read in one table, and that of the instance in the other; both use themselves in the same way
pub record AreRead (by : StandIns) (own others : List Entry) (ops all : List Operator) (d : Definition) (k j : ℕ) : Type 0 where
  pub name : List ℕ
  pub uses : Own
  pub body : Term
  pub made_body : Term
  pub here : slice_get ops k ≡ Some (row_of d.name (length d.params) uses body)
  pub there : slice_get all j ≡ Some (row_of name (length d.params) uses made_body)
  pub means : Means own ops (bind [] d.params) d.body body
  -- among names that mean what those of the program do
  pub names : List Entry
  pub are : (n : List ℕ) → among names n ≡ among others n
  pub made_means : Means names all (bind [] d.params) (made by d.params d.body) made_body

-- rows of one definition of the module, in its own table and in the program's
abbrev pub AreOfOne : List Definition → Numbers → Numbers → ℕ → ℕ → Type 0
AreOfOne ds number renumber k j = (i : ℕ) × (d : Definition) × (slice_get ds i ≡ Some d) × (number i ≡ Some k) × (renumber i ≡ Some j)

-- A module and an instance of it: where each variable of the module has the variable of that number as its substitute, and other names stand for those of the
-- module. The definitions of the module have these numbers in its table, and those of the instance these in the program's.
pub record IsInstance (substitute : ℕ → ℕ) (variables : ℕ) (by : StandIns) (own others : List Entry) (ops all : List Operator) (ds : List Definition) (number renumber : Numbers) : Type 0 where
  pub smaller : UsesSmaller ops
  pub smaller_there : UsesSmaller all
  pub fit : (i : ℕ) (d : Definition) → slice_get ds i ≡ Some d → IsFit d.body × ArePlain d.params
  pub read : (i : ℕ) (d : Definition) (k j : ℕ) → slice_get ds i ≡ Some d → number i ≡ Some k → renumber i ≡ Some j → AreRead by own others ops all d k j
  -- a definition of the module has that of the instance in its place, and a constant a definition that says the same
  pub names : NamesStand (IsSubstitute substitute variables) (λ k j. AreOfOne ds number renumber k j ⊎ LikeRows (IsSubstitute substitute variables) ops all k j) by own others

-- A definition of the module and that of the instance differ by numbers and variables alone.
abbrev pub InstanceRows : Type 0
InstanceRows =
    (substitute : ℕ → ℕ) (variables : ℕ) (by : StandIns) (own others : List Entry) (ops all : List Operator) (ds : List Definition) (number renumber : Numbers)
    → IsInstance substitute variables by own others ops all ds number renumber → (i : ℕ) (d : Definition) (k j : ℕ) → slice_get ds i ≡ Some d → number i ≡ Some k → renumber i ≡ Some j → LikeRows (IsSubstitute substitute variables) ops all k j

-- and so do what a tree means in the module, and what the tree that is made of it means in the program
abbrev pub InstanceTerms : Type 0
InstanceTerms =
    (substitute : ℕ → ℕ) (variables : ℕ) (by : StandIns) (own others : List Entry) (ops all : List Operator) (ds : List Definition) (number renumber : Numbers)
    → IsInstance substitute variables by own others ops all ds number renumber → (params : List (List ℕ)) (t : Tree) (a i : Term) → ArePlain params → IsFit t → Means own ops (bind [] params) t a → Means others all (bind [] params) (made by params t) i → IsInstanceOf substitute variables ops all a i

-- Whether an action of the instance holds of two states is whether that of the module holds of what it sees of them.
abbrev pub MadeHolds : Type 0
MadeHolds =
    (substitute : ℕ → ℕ) (variables : ℕ) (by : StandIns) (own others : List Entry) (g h : Setting) (ds : List Definition) (number renumber : Numbers)
    → g.which ≡ h.which → IsInstance substitute variables by own others g.table h.table ds number renumber → (params : List (List ℕ)) (t : Tree) (a i : Term) → ArePlain params → IsFit t → Means own g.table (bind [] params) t a → Means others h.table (bind [] params) (made by params t) i
    → (depth : ℕ) (c : Context) → Holds h depth c i ↔ Holds g depth (seen_in (seen_through substitute variables) c) a

-- and what an expression of the instance comes to is what that of the module comes to
abbrev pub MadeEvaluates : Type 0
MadeEvaluates =
    (substitute : ℕ → ℕ) (variables : ℕ) (by : StandIns) (own others : List Entry) (ops all : List Operator) (ds : List Definition) (number renumber : Numbers)
    → IsInstance substitute variables by own others ops all ds number renumber → (params : List (List ℕ)) (t : Tree) (a i : Term) → ArePlain params → IsFit t → Means own ops (bind [] params) t a → Means others all (bind [] params) (made by params t) i
    → (depth : ℕ) (c : Context) (r : Result Val Fault) → Evaluates all depth c i r ↔ Evaluates ops depth (seen_in (seen_through substitute variables) c) a r
