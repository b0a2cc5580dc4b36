use Rattle.names_outcome_laws.proofs.Decisions.{faults_have_first, shapes_are_decided, slots_are_decided}
use Rattle.names_outcome_laws.proofs.levels_laws.level_laws.Goals as goal

pub returns-clause-slots : goal.returns-clause-slots
returns-clause-slots c = slots_are_decided

pub returns-clause-faults : goal.returns-clause-faults
returns-clause-faults c = faults_have_first

pub returns-clause-shapes : goal.returns-clause-shapes
returns-clause-shapes c = shapes_are_decided
