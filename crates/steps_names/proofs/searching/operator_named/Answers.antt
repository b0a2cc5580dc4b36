use Rattle.std.proofs.Common.{sym, ◌∙◌}
use Rattle.steps_names.proofs.SearchLemmas.{operator_found, operator_missing}
use Rattle.steps_names.proofs.searching.operator_named.Goals as goal

pub returns-in-Some : goal.returns-in-Some
returns-in-Some c = c.told.ensures ∙ sym (operator_found c.args.spec.now.operators c.args.name.now c.in-Some.id.0 c.requires.differ c.in-Some.ensures)

pub returns-in-None : goal.returns-in-None
returns-in-None c = sym (operator_missing c.args.spec.now.operators c.args.name.now c.in-None.ensures)
