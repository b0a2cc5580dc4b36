use Rattle.twice_outcomes.proofs.Outcomes.{evaluates_alike, describes_alike}
use Rattle.twice_outcomes.proofs.Behind.{behind_alike}
use Rattle.twice_outcomes.proofs.outcomes_laws.alike_outcome_laws.Goals as goal

pub returns-clause-evaluates : goal.returns-clause-evaluates
returns-clause-evaluates c = evaluates_alike

pub returns-clause-describes : goal.returns-clause-describes
returns-clause-describes c = describes_alike

pub returns-clause-behind : goal.returns-clause-behind
returns-clause-behind c = behind_alike
