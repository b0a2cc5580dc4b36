use Rattle.names_resolved_laws.proofs.Parts.{well_formed}
use Rattle.names_resolved_laws.proofs.pruning_laws.left_is_well_formed.Goals as goal

pub returns : goal.returns
returns c = well_formed c.needed_laws.ensures.declared
