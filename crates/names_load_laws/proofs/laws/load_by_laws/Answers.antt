use Rattle.names_load_laws.proofs.FewFiles.{have_few_files_by}
use Rattle.names_load_laws.proofs.WellFormed.{are_well_formed_by}
use Rattle.names_load_laws.proofs.laws.load_by_laws.Goals as goal

pub returns-clause-well_formed : goal.returns-clause-well_formed
returns-clause-well_formed g c = are_well_formed_by (g.R.ModuleReader.reading c.args.reader.now) c.requires

pub returns-clause-few : goal.returns-clause-few
returns-clause-few g c = have_few_files_by (g.R.ModuleReader.reading c.args.reader.now)
