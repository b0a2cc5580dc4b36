use Rattle.base_cuts.proofs.Ready.{in_order, one_cut}
use Rattle.base_cuts.proofs.laws.sequence_laws.Goals as goal

pub returns-clause-ready : goal.returns-clause-ready
returns-clause-ready c = in_order

pub returns-clause-one : goal.returns-clause-one
returns-clause-one c = one_cut
