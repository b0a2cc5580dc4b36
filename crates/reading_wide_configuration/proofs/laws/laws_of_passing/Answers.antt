use Rattle.reading_wide_configuration.proofs.PassedOver.{nothing_passed, statements_passed}
use Rattle.reading_wide_configuration.proofs.laws.laws_of_passing.Goals as goal

pub returns-clause-nothing : goal.returns-clause-nothing
returns-clause-nothing c = nothing_passed

pub returns-clause-whole : goal.returns-clause-whole
returns-clause-whole c = statements_passed
