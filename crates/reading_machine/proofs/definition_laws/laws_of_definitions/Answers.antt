use Rattle.reading_machine.proofs.DefinitionBegins as begins
use Rattle.reading_machine.proofs.DefinitionGoes as goes
use Rattle.reading_machine.proofs.definition_laws.laws_of_definitions.Goals as goal

pub returns-clause-stopped : goal.returns-clause-stopped
returns-clause-stopped c = begins.definition_stopped

pub returns-clause-clashed : goal.returns-clause-clashed
returns-clause-clashed c = begins.definition_clashed

pub returns-clause-ends : goal.returns-clause-ends
returns-clause-ends c = begins.definition_ends

pub returns-clause-stopped_there : goal.returns-clause-stopped_there
returns-clause-stopped_there c = goes.definition_stopped_there

pub returns-clause-ends_there : goal.returns-clause-ends_there
returns-clause-ends_there c = goes.definition_ends_there

pub returns-clause-clashed_there : goal.returns-clause-clashed_there
returns-clause-clashed_there c = goes.definition_clashed_there

pub returns-clause-ran : goal.returns-clause-ran
returns-clause-ran c = begins.definition_ran
