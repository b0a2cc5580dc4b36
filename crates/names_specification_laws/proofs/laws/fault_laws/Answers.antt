use Rattle.names_specification_laws.proofs.Faults.{definitions_are_faultless, mentioned_are_faultless, bodies_are_faultless, reached_are_faultless}
use Rattle.names_specification_laws.proofs.laws.fault_laws.Goals as goal

pub returns-clause-definitions : goal.returns-clause-definitions
returns-clause-definitions c = definitions_are_faultless

pub returns-clause-mentioned : goal.returns-clause-mentioned
returns-clause-mentioned c = mentioned_are_faultless

pub returns-clause-bodies : goal.returns-clause-bodies
returns-clause-bodies c = bodies_are_faultless

pub returns-clause-reached : goal.returns-clause-reached
returns-clause-reached c = reached_are_faultless
