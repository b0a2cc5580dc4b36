use Rattle.reading_wide_configuration.proofs.Within.{are_within}
use Rattle.reading_wide_configuration.proofs.laws.givens_are_within_limits_by.Goals as goal

pub returns : goal.returns
returns c = are_within c.givens_are_within_limits.ensures
