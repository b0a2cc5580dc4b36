-- proofs/laws/one_program_laws/Answers.antt
use Rattle.reading_modules.specs.Refusals.{strict}
use Rattle.reading_modules.proofs.PathLaws.{path_same}
use Rattle.reading_laws.proofs.Programs.{one_flattening, one_flattening_by, one_program, one_program_by, one_loading, one_configuration}
use Rattle.reading_laws.proofs.Spelling.{text_same}
use Rattle.reading_laws.proofs.one_reading_laws.one_program_laws.Goals as goal

pub returns-clause-path : goal.returns-clause-path
returns-clause-path c = path_same

pub returns-clause-text : goal.returns-clause-text
returns-clause-text c = text_same

pub returns-clause-flattening : goal.returns-clause-flattening
returns-clause-flattening c = one_flattening (one_flattening_by strict c.strict_laws.ensures)

pub returns-clause-program : goal.returns-clause-program
returns-clause-program c = one_program (one_program_by strict c.strict_laws.ensures)

pub returns-clause-loading : goal.returns-clause-loading
returns-clause-loading c = one_loading (one_program (one_program_by strict c.strict_laws.ensures))

pub returns-clause-configuration : goal.returns-clause-configuration
returns-clause-configuration c = one_configuration c.one_configuration_by.ensures.one
