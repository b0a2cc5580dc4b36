-- For the prover: rows of terms that wait for their last part, which reaches as far right as possible.
use Rattle.std.specs.Prelude.{◌≡◌, ◌≤◌, ◌<◌, false, List, [], ◌∷◌, ◌++◌, length}
use Rattle.reading_trees.specs.Trees.{Tree}
use Rattle.reading_trees.specs.TreeSizes.{tree_size}
use Rattle.names_terms.specs.Terms as term
use Rattle.names_terms.specs.Terms.{Term, Placed}
use Rattle.names_terms.specs.Levels.{level_for}
use Rattle.names_meanings.specs.declared.pending.Pending.{Pending}
use Rattle.names_meanings.specs.declared.pending.Pending.TheVariants.{If, Quantified, Choose, Scoped}
use Rattle.names_scopes.specs.declared.scope.Local.{Local}
use Rattle.names_scopes.specs.Reaching.{reaches_right}
use Rattle.names_meanings.specs.Around.{Around, takes}
use Rattle.names_meanings.specs.Complaints.{complaint}
use Rattle.names_meanings.specs.Means.{Means}
use Rattle.names_meanings.specs.Outcomes.{Grows, named_in, KeepsOrder, Lasts}

-- the meaning of a row with this last part
abbrev pub meaning_with : Pending → Term → term.Meaning
meaning_with (If at p a) x = term.If p a x
meaning_with (Quantified at q bs) x = term.Quantified q bs x
meaning_with (Choose at s) x = term.Choose s x
meaning_with (Scoped at ks) x = term.Scoped ks x

-- the term of a row with this last part; its level asks for no table
abbrev pub closed : Pending → Term → Term
closed (If at p a) x = Placed at (level_for [] (term.If p a x)) (term.If p a x)
closed (Quantified at q bs) x = Placed at (level_for [] (term.Quantified q bs x)) (term.Quantified q bs x)
closed (Choose at s) x = Placed at (level_for [] (term.Choose s x)) (term.Choose s x)
closed (Scoped at ks) x = Placed at (level_for [] (term.Scoped ks x)) (term.Scoped ks x)

-- the term of rows, each of which is the last part of the one before
abbrev pub closed_all : List Pending → Term → Term
closed_all [] x = x
closed_all (r ∷ rs) x = closed r (closed_all rs x)

-- The first parts of rows were read, up to a rest: more names are bound there, what the rest means makes the tree's term, and the first complaint
-- of the rest is the tree's.
pub record Opens (w w' : Around) (rows : List Pending) (t rest : Tree) : Type 0 where
  pub kept : w'.here.names ≡ w.here.names
  pub bound : List Local
  pub scope : w'.here.scope ≡ w.here.scope ++ bound
  pub grown : Grows w.table w'.table
  pub unnamed : named_in w'.table ≡ named_in w.table
  pub ordered : KeepsOrder w.table w'.table
  pub means : Lasts (length w.table) w'.table (λ all. (x : Term) → Means w'.here.names all w'.here.scope rest x → Means w.here.names all w.here.scope t (closed_all rows x))
  pub same : complaint (takes w) t ≡ complaint (takes w') rest
  pub within : tree_size rest ≤ tree_size t

-- The first parts of a row were read, up to its last part.
pub record OpensRow (w w' : Around) (rows rows' : List Pending) (t last : Tree) : Type 0 where
  pub row : Pending
  pub added : rows' ≡ rows ++ row ∷ []
  pub kept : w'.here.names ≡ w.here.names
  pub bound : List Local
  pub scope : w'.here.scope ≡ w.here.scope ++ bound
  pub grown : Grows w.table w'.table
  pub unnamed : named_in w'.table ≡ named_in w.table
  pub ordered : KeepsOrder w.table w'.table
  pub means : Lasts (length w.table) w'.table (λ all. (x : Term) → Means w'.here.names all w'.here.scope last x → Means w.here.names all w.here.scope t (closed row x))
  pub same : complaint (takes w) t ≡ complaint (takes w') last
  pub within : tree_size last < tree_size t

-- nothing was read of a tree whose last part does not reach so far
pub record StaysClosed (w w' : Around) (rows rows' : List Pending) (t : Tree) : Type 0 where
  pub around : w' ≡ w
  pub added : rows' ≡ rows
  pub closed : reaches_right t ≡ false
