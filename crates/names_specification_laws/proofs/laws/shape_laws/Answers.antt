use Rattle.names_specification_laws.proofs.Shaped.{shapes_are_in_order, shapes_mention}
use Rattle.names_specification_laws.proofs.laws.shape_laws.Goals as goal

pub returns-clause-order : goal.returns-clause-order
returns-clause-order c = shapes_are_in_order

pub returns-clause-mentioned : goal.returns-clause-mentioned
returns-clause-mentioned c = shapes_mention
