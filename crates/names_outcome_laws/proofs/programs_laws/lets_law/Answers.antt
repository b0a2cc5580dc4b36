use Rattle.names_outcome_laws.proofs.Outcomes.{named_programs_have_one}
use Rattle.names_outcome_laws.proofs.programs_laws.lets_law.Goals as goal

pub returns : goal.returns
returns c = named_programs_have_one
