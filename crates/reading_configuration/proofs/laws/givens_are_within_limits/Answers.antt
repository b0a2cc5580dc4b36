use Rattle.reading_configuration.proofs.GivenWithin.{are_within}
use Rattle.reading_configuration.proofs.laws.givens_are_within_limits.Goals as goal

pub returns : goal.returns
returns c = are_within
