use Rattle.names_tlc_calls.proofs.Staying.{constants_stay, names_stay, operators_stay, variables_stay, without_calls, without_tlc}
use Rattle.names_tlc_calls.proofs.laws.spelling_laws.Goals as goal

pub returns-clause-variables : goal.returns-clause-variables
returns-clause-variables c = variables_stay

pub returns-clause-constants : goal.returns-clause-constants
returns-clause-constants c = constants_stay

pub returns-clause-operators : goal.returns-clause-operators
returns-clause-operators c = operators_stay

pub returns-clause-names : goal.returns-clause-names
returns-clause-names c = names_stay

pub returns-clause-without : goal.returns-clause-without
returns-clause-without c = without_tlc

pub returns-clause-uncalled : goal.returns-clause-uncalled
returns-clause-uncalled c = without_calls
