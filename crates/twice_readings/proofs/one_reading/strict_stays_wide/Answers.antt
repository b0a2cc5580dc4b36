use Rattle.twice_readings.proofs.StrictStays.{given_stays_wide, strict_stays_wide, wide_is_strict}
use Rattle.twice_readings.proofs.one_reading.strict_stays_wide.Goals as goal

pub returns-clause-stays : goal.returns-clause-stays
returns-clause-stays c = strict_stays_wide c.one_configuration_by.ensures.strict c.expansion_laws.ensures.strict

pub returns-clause-given : goal.returns-clause-given
returns-clause-given c = given_stays_wide c.one_configuration_by.ensures.strict c.expansion_laws.ensures.strict

pub returns-clause-only : goal.returns-clause-only
returns-clause-only c = wide_is_strict c.one_configuration_by.ensures.strict c.expansion_laws.ensures.strict c.reading_laws.ensures.reading
