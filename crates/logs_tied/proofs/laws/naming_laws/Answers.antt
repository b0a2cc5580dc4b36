use Rattle.logs_tied.proofs.Naming.{naming_ends, naming_goes_on}
use Rattle.logs_tied.proofs.laws.naming_laws.Goals as goal

pub returns-clause-goes_on : goal.returns-clause-goes_on
returns-clause-goes_on c = naming_goes_on

pub returns-clause-ends : goal.returns-clause-ends
returns-clause-ends c = naming_ends
