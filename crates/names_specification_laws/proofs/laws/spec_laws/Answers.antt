use Rattle.names_specification_laws.proofs.Ordered.{meanings_are_in_order}
use Rattle.names_specification_laws.proofs.Mentioned.{mentioned_have_meaning}
use Rattle.names_specification_laws.proofs.Reached.{bodies_mention_meant, meant_are_in_order, reached_are_in_order}
use Rattle.names_specification_laws.proofs.Program.{trees_have_terms, definitions_have_meaning}
use Rattle.names_specification_laws.proofs.laws.spec_laws.Goals as goal

pub returns-clause-rows : goal.returns-clause-rows
returns-clause-rows c = meanings_are_in_order

pub returns-clause-mentioned : goal.returns-clause-mentioned
returns-clause-mentioned c = mentioned_have_meaning

pub returns-clause-reached : goal.returns-clause-reached
returns-clause-reached c = reached_are_in_order

pub returns-clause-trees : goal.returns-clause-trees
returns-clause-trees c = trees_have_terms

pub returns-clause-definitions : goal.returns-clause-definitions
returns-clause-definitions c = definitions_have_meaning

pub returns-clause-bodies : goal.returns-clause-bodies
returns-clause-bodies c = bodies_mention_meant

pub returns-clause-meant : goal.returns-clause-meant
returns-clause-meant c = meant_are_in_order
