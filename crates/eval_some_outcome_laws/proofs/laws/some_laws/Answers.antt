use Rattle.eval_some_outcome_laws.proofs.Outcomes.{has_some_description, has_some_outcome}
use Rattle.eval_some_outcome_laws.proofs.laws.some_laws.Goals as goal

pub returns-clause-outcome : goal.returns-clause-outcome
returns-clause-outcome c = has_some_outcome

pub returns-clause-description : goal.returns-clause-description
returns-clause-description c = has_some_description
