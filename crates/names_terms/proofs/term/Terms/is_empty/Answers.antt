use Rattle.std.proofs.Common.{ap, ◌∙◌}
use Rattle.names_terms.specs.TermViews.{are_none}
use Rattle.names_terms.proofs.Pushes.{none_of_terms}
use Rattle.names_terms.proofs.term.Terms.is_empty.Goals as goal

pub returns : goal.returns
returns c = c.is_empty.ensures ∙ none_of_terms c.items-items.result.now ∙ ap are_none c.items-items.ensures
