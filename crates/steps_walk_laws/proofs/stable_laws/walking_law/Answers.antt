use Rattle.steps_walk_laws.proofs.Walked.{actions_can_be_walked}
use Rattle.steps_walk_laws.proofs.stable_laws.walking_law.Goals as goal

pub returns : goal.returns
returns c = actions_can_be_walked
