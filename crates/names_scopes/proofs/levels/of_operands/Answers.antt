use Rattle.std.proofs.Common.{◌∙◌, ap}
use Rattle.names_terms.specs.Terms.{First}
use Rattle.names_terms.specs.Levels.{of_operands}
use Rattle.names_scopes.proofs.levels.of_operands.Goals as goal

pub returns : goal.returns
returns c = c.of_others.ensures (First c.parts.result.0.now) c.level_here.ensures ∙ ap of_operands c.parts.ensures
