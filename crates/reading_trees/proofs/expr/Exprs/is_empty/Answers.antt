use Rattle.std.proofs.Common.{ap, ◌∙◌}
use Rattle.reading_trees.specs.TreeViews.{are_none}
use Rattle.reading_trees.proofs.Pushes.{none_of_trees}
use Rattle.reading_trees.proofs.expr.Exprs.is_empty.Goals as goal

pub returns : goal.returns
returns c = c.is_empty.ensures ∙ none_of_trees c.items-items.result.now ∙ ap are_none c.items-items.ensures
