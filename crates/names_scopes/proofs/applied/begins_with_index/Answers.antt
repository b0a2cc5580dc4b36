use Rattle.std.proofs.Common.{◌∙◌}
use Rattle.reading_trees.specs.TreeViews.{step_view}
use Rattle.names_scopes.proofs.BareLoops.{first_index, last_index}
use Rattle.names_scopes.proofs.applied.begins_with_index.Goals as goal

pub returns-in-Some : goal.returns-in-Some
returns-in-Some c = c.is_index.ensures ∙ first_index c.args.steps.now (step_view c.args.last.now) c.items.result.now c.in-Some.first.now c.items.ensures c.in-Some.ensures.value

pub returns-in-None : goal.returns-in-None
returns-in-None c = c.is_index-in-None.ensures ∙ last_index c.args.steps.now (step_view c.args.last.now) c.items.result.now c.items.ensures c.in-None.ensures.value
