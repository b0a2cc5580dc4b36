use Rattle.names_specification_laws.proofs.Spelled.{spelled_are_formed, modules_are_formed}
use Rattle.names_specification_laws.proofs.laws.form_laws.Goals as goal

pub returns-clause-trees : goal.returns-clause-trees
returns-clause-trees c = spelled_are_formed

pub returns-clause-modules : goal.returns-clause-modules
returns-clause-modules c = modules_are_formed
