use Rattle.names_least_levels.proofs.Walking.{levels_are}
use Rattle.names_least_levels.proofs.laws.levels_are_least.Goals as goal

pub returns : goal.returns
returns c = levels_are
