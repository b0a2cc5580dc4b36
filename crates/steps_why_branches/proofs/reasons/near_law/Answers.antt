use Rattle.steps_why_branches.proofs.OnePlace.{one_place_is_each}
use Rattle.steps_why_branches.proofs.reasons.near_law.Goals as goal

pub returns : goal.returns
returns c = one_place_is_each
