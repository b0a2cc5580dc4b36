use Rattle.std.proofs.Common.{ap, ◌∙◌}
use Rattle.reading_trees.specs.TreeViews.{steps_are_none}
use Rattle.reading_trees.proofs.Pushes.{none_of_steps}
use Rattle.reading_trees.proofs.expr.Steps.is_empty.Goals as goal

pub returns : goal.returns
returns c = c.is_empty.ensures ∙ none_of_steps c.items-items.result.now ∙ ap steps_are_none c.items-items.ensures
