use Rattle.reading_pieces.proofs.Fronts.{same_heading, same_pieces}
use Rattle.reading_pieces.proofs.laws.one_parting.Goals as goal

pub returns-clause-heading : goal.returns-clause-heading
returns-clause-heading c heading rest other behind same h g = same_heading heading other rest behind same h g

pub returns-clause-pieces : goal.returns-clause-pieces
returns-clause-pieces c = same_pieces
