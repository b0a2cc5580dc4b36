use Rattle.std.proofs.Common.{sym}
use Rattle.steps_names.proofs.SearchLemmas.{variable_answer, variable_found}
use Rattle.steps_names.proofs.searching.variable_named.Goals as goal

pub returns-then-is_named : goal.returns-then-is_named
returns-then-is_named c = sym (variable_found c.args.spec.now.variables c.args.name.now c.args.guess c.requires.differ (c.is_named.ensures.0 c.if-is_named.true))

pub returns : goal.returns
returns c = variable_answer c.args.spec.now.variables c.args.name.now c.variable.result c.requires.differ c.variable.ensures
