-- For the prover: trees whose last part reaches as far right as possible.
use Rattle.std.specs.Prelude.{Bool, true, false}
use Rattle.reading_trees.specs.Trees as tree
use Rattle.reading_trees.specs.Trees.{Tree}

abbrev pub reaches_right : Tree → Bool
reaches_right (tree.Quantified at q bs a) = true
reaches_right (tree.Choose at n a b) = true
reaches_right (tree.If at p a b) = true
reaches_right (tree.Let at ds a) = true
reaches_right t = false
