use Rattle.names_resolved_laws.proofs.SpelledPrograms.{spelled_formed}
use Rattle.names_resolved_laws.proofs.pruning_laws.spelled_is_well_formed.Goals as goal

pub returns : goal.returns
returns c = spelled_formed c.spelling_laws.ensures.variables c.spelling_laws.ensures.names
