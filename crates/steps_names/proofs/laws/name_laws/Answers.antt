use Rattle.steps_names.proofs.ToldLemmas.{operators_told, variables_told}
use Rattle.steps_names.proofs.laws.name_laws.Goals as goal

pub returns-clause-operators : goal.returns-clause-operators
returns-clause-operators c = operators_told

pub returns-clause-variables : goal.returns-clause-variables
returns-clause-variables c = variables_told
