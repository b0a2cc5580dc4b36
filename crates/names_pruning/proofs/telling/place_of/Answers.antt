use Rattle.std.proofs.Common.{◌∙◌, ap, sym}
use Rattle.reading_trees.specs.Trees.{place_of}
use Rattle.names_pruning.proofs.ToldLemmas.{place_is}
use Rattle.names_pruning.proofs.telling.place_of.Goals as goal

pub returns : goal.returns
returns c = sym (place_is c.tree.inside.at c.tree.inside.node.value) ∙ ap place_of c.tree.view_is
