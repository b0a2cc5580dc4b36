use Rattle.base_cuts.proofs.Extensions.{are_extensions}
use Rattle.base_cuts.proofs.Ready.{by_vector}
use Rattle.base_cuts.proofs.laws.vector_laws.Goals as goal

pub returns-clause-ready : goal.returns-clause-ready
returns-clause-ready c = by_vector

pub returns-clause-extend : goal.returns-clause-extend
returns-clause-extend c = are_extensions
