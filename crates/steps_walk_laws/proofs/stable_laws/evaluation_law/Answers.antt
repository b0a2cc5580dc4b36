use Rattle.steps_walk_laws.proofs.Evaluated.{terms_can_be_evaluated}
use Rattle.steps_walk_laws.proofs.stable_laws.evaluation_law.Goals as goal

pub returns : goal.returns
returns c = terms_can_be_evaluated
