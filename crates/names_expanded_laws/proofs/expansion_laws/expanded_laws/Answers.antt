use Rattle.names_expanded_laws.proofs.Loading.{are_well_formed}
use Rattle.names_expanded_laws.proofs.expansion_laws.expanded_laws.Goals as goal

pub returns : goal.returns
returns c = record { well_formed = are_well_formed c.form_laws.ensures.modules c.laws_of_extents.ensures.local c.laws_of_extents.ensures.local_definition c.wide_load_laws.ensures.well_formed }
