use Rattle.reading_machine.proofs.Reading as reading
use Rattle.reading_machine.proofs.laws.laws_of_reading.Goals as goal

pub returns-clause-spelled : goal.returns-clause-spelled
returns-clause-spelled c = reading.read_spells

pub returns-clause-defined : goal.returns-clause-defined
returns-clause-defined c = reading.definition_spells
