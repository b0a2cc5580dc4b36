use Rattle.names_load_laws.proofs.FewFiles.{have_few_files_by}
use Rattle.names_load_laws.proofs.WellFormed.{are_well_formed_by}
use Rattle.reading_wide_modules.specs.Wide.{reading_by}
use Rattle.names_expanded_laws.proofs.WideLoadingPieces.{spells_by}
use Rattle.names_expanded_laws.proofs.wide_loading_laws.wide_load_laws.Goals as goal

pub returns-clause-spells : goal.returns-clause-spells
returns-clause-spells c = spells_by c.form_laws.ensures.modules c.laws_of_extents.ensures.local c.laws_of_extents.ensures.local_definition

pub returns-clause-well_formed : goal.returns-clause-well_formed
returns-clause-well_formed c word = are_well_formed_by (reading_by word) (spells_by c.form_laws.ensures.modules c.laws_of_extents.ensures.local c.laws_of_extents.ensures.local_definition word)

pub returns-clause-few : goal.returns-clause-few
returns-clause-few c word = have_few_files_by (reading_by word)
