use Rattle.reading_wide_configuration.proofs.Outcomes as outcomes
use Rattle.reading_wide_configuration.proofs.laws.one_configuration_by.Goals as goal

pub returns-clause-one : goal.returns-clause-one
returns-clause-one c = outcomes.one_configuration c.one_outcome.ensures.one c.one_configuration.ensures.one

pub returns-clause-some : goal.returns-clause-some
returns-clause-some c = outcomes.some_configuration c.one_outcome.ensures.some c.one_configuration.ensures.some c.tokens_end_once.ensures

pub returns-clause-strict : goal.returns-clause-strict
returns-clause-strict c = outcomes.strict_is_wide
