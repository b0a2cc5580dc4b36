use Rattle.names_load_laws.proofs.Given.{are_spelled, have_one_form, plain_spelled, plain_form}
use Rattle.names_load_laws.proofs.laws.configuration_laws.Goals as goal

pub returns-clause-spelled : goal.returns-clause-spelled
returns-clause-spelled c = are_spelled c.givens_are_within_limits_by.ensures

pub returns-clause-form : goal.returns-clause-form
returns-clause-form c = have_one_form

pub returns-clause-plain_spelled : goal.returns-clause-plain_spelled
returns-clause-plain_spelled c = plain_spelled

pub returns-clause-plain_form : goal.returns-clause-plain_form
returns-clause-plain_form c = plain_form
