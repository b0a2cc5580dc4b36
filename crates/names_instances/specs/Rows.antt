-- For the prover: rows that wait for their last part.
use Rattle.std.specs.Prelude.{List, [], ◌∷◌}
use Rattle.base_core.specs.declared.place.Place.{Place}
use Rattle.reading_trees.specs.Trees as tree
use Rattle.reading_trees.specs.Trees.{Tree}
use Rattle.names_instances.specs.declared.rows.Opening.{Opening}
use Rattle.names_instances.specs.declared.rows.Opening.TheVariants.{If, Quantified, Choose, Let}
use Rattle.names_instances.specs.declared.rows.Row.{Row}

-- the tree of a row with this last part
abbrev pub tree_with : Place → Opening → Tree → Tree
tree_with at (If p a) x = tree.If at p a x
tree_with at (Quantified q bs) x = tree.Quantified at q bs x
tree_with at (Choose n s) x = tree.Choose at n s x
tree_with at (Let ds) x = tree.Let at ds x

abbrev pub closed : Row → Tree → Tree
closed r x = tree_with r.at r.opening x

-- the tree of rows, each of which is the last part of the one before
abbrev pub closed_all : List Row → Tree → Tree
closed_all [] x = x
closed_all (r ∷ rs) x = closed r (closed_all rs x)
