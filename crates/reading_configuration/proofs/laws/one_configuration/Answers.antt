use Rattle.reading_configuration.proofs.Only as only
use Rattle.reading_configuration.proofs.laws.one_configuration.Goals as goal

pub returns-clause-one : goal.returns-clause-one
returns-clause-one c = only.one_configuration c.one_outcome.ensures.one

pub returns-clause-some : goal.returns-clause-some
returns-clause-some c = only.some_configuration c.one_outcome.ensures.some c.tokens_end_once.ensures
