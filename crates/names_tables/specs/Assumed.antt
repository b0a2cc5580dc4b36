-- For the prover: the table while what the assumptions mean is added.
use Rattle.std.specs.Prelude.{◌≡◌, ℕ, List, [], All, length, Some, slice_get}
use Rattle.reading_trees.specs.Trees.{Tree}
use Rattle.names_terms.specs.Terms.{Term, Terms}
use Rattle.names_term_parts.specs.Parts.{listed}
use Rattle.names_term_parts.specs.Slots.{MentionsBelow, UsesSmaller}
use Rattle.names_meanings.specs.Means.{Means}
use Rattle.names_meanings.specs.Outcomes.{Always, Grows, named_in}
use Rattle.names_tables.specs.declared.table.Table.{Table}

-- so many of the trees have their terms
pub record AreAssumed (old new : Table) (trees : List Tree) (count : ℕ) (terms : Terms) : Type 0 where
  pub names : new.names ≡ old.names
  pub numbers : new.numbers ≡ old.numbers
  pub grown : Grows old.operators new.operators
  pub unnamed : named_in new.operators ≡ named_in old.operators
  pub smaller : UsesSmaller new.operators
  pub as_many : length (listed terms) ≡ count
  pub below : All (MentionsBelow (length new.operators)) (listed terms)
  pub meant : (j : ℕ) (t : Tree) (e : Term) → slice_get trees j ≡ Some t → slice_get (listed terms) j ≡ Some e → Always new.operators (λ all. Means old.names all [] t e)
