use Rattle.names_outcome_laws.proofs.Outcomes.{names_always_come, programs_have_an_outcome}
use Rattle.names_outcome_laws.proofs.programs_laws.program_laws.Goals as goal

pub returns-clause-names : goal.returns-clause-names
returns-clause-names c = names_always_come

pub returns-clause-outcome : goal.returns-clause-outcome
returns-clause-outcome c = programs_have_an_outcome
