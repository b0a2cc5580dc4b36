use Rattle.names_specification.specs.Resolving.{as_it_stands}
use Rattle.names_specification.proofs.resolving.resolve_wide.Goals as goal

pub returns-in-Ok-clause-accepted : goal.returns-in-Ok-clause-accepted
returns-in-Ok-clause-accepted c = as_it_stands c.in-Ok.spec c.in-Ok.ensures.accepted
