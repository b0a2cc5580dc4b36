use Rattle.eval_laws.proofs.Kept.{keeps_outcome, keeps_description}
use Rattle.eval_laws.proofs.laws.knowledge_laws.Goals as goal

pub returns-clause-outcome : goal.returns-clause-outcome
returns-clause-outcome c = keeps_outcome

pub returns-clause-description : goal.returns-clause-description
returns-clause-description c = keeps_description
