use Rattle.names_outcome_laws.proofs.Terms.{trees_mean_something}
use Rattle.names_outcome_laws.proofs.some_terms_laws.tree_law.Goals as goal

pub returns : goal.returns
returns c = trees_mean_something
