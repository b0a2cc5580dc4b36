use Rattle.steps_walk_laws.proofs.Early.{nothing_early_is_known}
use Rattle.steps_walk_laws.proofs.stable_laws.early_law.Goals as goal

pub returns : goal.returns
returns c = nothing_early_is_known
