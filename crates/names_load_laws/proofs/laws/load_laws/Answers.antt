use Rattle.names_load_laws.proofs.FewFiles.{have_few_files}
use Rattle.names_load_laws.proofs.WellFormed.{are_well_formed}
use Rattle.names_load_laws.proofs.laws.load_laws.Goals as goal

pub returns-clause-well_formed : goal.returns-clause-well_formed
returns-clause-well_formed c = are_well_formed c.form_laws.ensures.modules c.laws_of_extents.ensures.local c.laws_of_extents.ensures.local_definition

pub returns-clause-few : goal.returns-clause-few
returns-clause-few c = have_few_files
