use Rattle.std.proofs.Common.{ap, ◌∙◌}
use Rattle.names_terms.specs.TermViews.{steps_are_none}
use Rattle.names_terms.proofs.Pushes.{none_of_steps}
use Rattle.names_terms.proofs.term.Steps.is_empty.Goals as goal

pub returns : goal.returns
returns c = c.is_empty.ensures ∙ none_of_steps c.items-items.result.now ∙ ap steps_are_none c.items-items.ensures
