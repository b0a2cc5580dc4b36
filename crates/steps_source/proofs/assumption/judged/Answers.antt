use Rattle.std.proofs.Common.{ap, ◌∙◌}
use Rattle.names_terms.specs.Terms.{place_of}
use Rattle.steps_source.specs.Told.{told_of}
use Rattle.steps_source.proofs.assumption.judged.Goals as goal

pub returns : goal.returns
returns c = (c.truth_of.result, c.truth_of.ensures, c.told.ensures ∙ ap (told_of c.truth_of.result) (ap place_of c.term.view_is))
