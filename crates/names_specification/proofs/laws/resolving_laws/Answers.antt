use Rattle.names_specification.specs.Resolving.{as_it_stands}
use Rattle.names_specification.proofs.Readings.{refused_strictly}
use Rattle.names_specification.proofs.laws.resolving_laws.Goals as goal

pub returns-clause-accepted : goal.returns-clause-accepted
returns-clause-accepted c = λ p k silent s is. as_it_stands s is

pub returns-clause-refused : goal.returns-clause-refused
returns-clause-refused c = refused_strictly
