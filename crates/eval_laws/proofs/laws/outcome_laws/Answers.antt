use Rattle.eval_laws.proofs.OneOutcome.{has_one_outcome, has_one_description}
use Rattle.eval_laws.proofs.laws.outcome_laws.Goals as goal

pub returns-clause-outcome : goal.returns-clause-outcome
returns-clause-outcome c = has_one_outcome

pub returns-clause-description : goal.returns-clause-description
returns-clause-description c = has_one_description
