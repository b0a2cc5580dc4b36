-- For the prover: what is done around the body of a definition of a LET. For a function that applies itself a place is kept before its body is read,
-- and the body comes into it; any other definition is added behind its body.
use Rattle.std.specs.Prelude.{◌≡◌, ℕ, List, [], ◌∷◌, ◌++◌, length, Option, Some, None, set, slice_get}
use Rattle.reading_trees.specs.declared.expr.Definition.{Definition}
use Rattle.reading_trees.specs.Trees as tree
use Rattle.reading_trees.specs.Trees.{Tree}
use Rattle.names_term_parts.specs.Slots.{MentionsBelow}
use Rattle.names_terms.specs.declared.ids.DefId.{DefId}
use Rattle.names_terms.specs.declared.level.Level.TheVariants as levels
use Rattle.names_terms.specs.declared.operator.Own.{Own}
use Rattle.names_terms.specs.declared.operator.Own.TheVariants as owns
use Rattle.names_terms.specs.Terms.{Term, level_of}
use Rattle.names_scopes.specs.Scopes.{bind, slots}
use Rattle.names_scopes.specs.declared.scope.Local.TheVariants.{Defined}
use Rattle.names_meanings.specs.declared.fault.NameFault.{NameFault}
use Rattle.names_meanings.specs.Around.{Around}
use Rattle.names_meanings.specs.Complaints.{Takes, or_else, complaint, itself, with_itself, with_names}
use Rattle.names_meanings.specs.Means.{Means, local_operator, no_body}
use Rattle.names_meanings.specs.Outcomes.{KeepsOrder}
use Rattle.names_meanings.specs.Owning.{own_of}
use Rattle.names_meanings.specs.Reads.{ResolvesDefinitions}

-- how the definition uses itself
abbrev pub own_in : Definition → Own
own_in d = own_of d.form d.name d.params d.body

-- what is wrong with how it uses itself, with its body, and with the definition
abbrev pub own_complaint : Takes → Definition → Option NameFault
own_complaint g d = itself g d.form d.name d.at d.params d.body

abbrev pub body_complaint : Takes → Definition → Option NameFault
body_complaint g d = complaint (with_names (with_itself (own_in d) g d.name (length d.params)) d.params) d.body

abbrev pub one_complaint : Takes → Definition → Option NameFault
one_complaint g d = or_else (own_complaint g d) (body_complaint g d)

-- a place is kept for a function of so many parameters, and its name is bound
pub record Reserves (m p : Around) (n : List ℕ) (count : ℕ) (k : DefId) : Type 0 where
  pub number : k.0 ≡ length m.table
  pub names : p.here.names ≡ m.here.names
  pub scope : p.here.scope ≡ m.here.scope ++ Defined n k count ∷ []
  pub table : p.table ≡ m.table ++ local_operator (slots m.here.scope) count owns.Function no_body ∷ []
  pub ordered : KeepsOrder m.table p.table

-- before the body is read: a place is kept where there is a number
abbrev pub IsBegun : Around → Around → Definition → Option DefId → Type 0
IsBegun m p d None = (own_in d ≡ owns.Apart) × (p ≡ m)
IsBegun m p d (Some k) = (own_in d ≡ owns.Function) × Reserves m p d.name (length d.params) k

-- the body may be added, or come into the place that is kept
abbrev pub IsKept : Around → Definition → Term → Option DefId → Type 0
IsKept w d x None = (ps : List (List ℕ)) × (t : Tree) × Means w.here.names w.table (bind w.here.scope ps) t x
IsKept w d x (Some k) =
    (slice_get w.table k.0 ≡ Some (local_operator (slots w.here.scope) (length d.params) owns.Function no_body)) × (level_of x ≡ levels.Constant) × MentionsBelow (length w.table) x

-- a definition that does not use itself is added, and its name is bound
pub record Adds (w v : Around) (n : List ℕ) (count : ℕ) (x : Term) (k : DefId) : Type 0 where
  pub number : k.0 ≡ length w.table
  pub names : v.here.names ≡ w.here.names
  pub scope : v.here.scope ≡ w.here.scope ++ Defined n k count ∷ []
  pub table : v.table ≡ w.table ++ local_operator (slots w.here.scope) count owns.Apart x ∷ []
  pub ordered : KeepsOrder w.table v.table

-- a body comes into the place that was kept, and the name of the function is bound
pub record Settles (w v : Around) (n : List ℕ) (count : ℕ) (x : Term) (k : DefId) : Type 0 where
  pub names : v.here.names ≡ w.here.names
  pub scope : v.here.scope ≡ w.here.scope ++ Defined n k count ∷ []
  pub table : v.table ≡ set w.table k.0 (local_operator (slots w.here.scope) count owns.Function x)
  pub ordered : KeepsOrder w.table v.table

abbrev pub IsEnded : Around → Around → Definition → Term → Option DefId → DefId → Type 0
IsEnded w v d x None k = Adds w v d.name (length d.params) x k
IsEnded w v d x (Some j) k = (k ≡ j) × Settles w v d.name (length d.params) x k

-- one more definition was read, behind any that were
pub record DefinitionRead (m v : Around) (d : Definition) (k : DefId) : Type 0 where
  pub added : (w : Around) (ds : tree.Definitions) (ks : List ℕ) → ResolvesDefinitions w m ds ks → ResolvesDefinitions w v (tree.MoreDefinitions ds d.name d.at d.params d.form d.body) (ks ++ k.0 ∷ [])
