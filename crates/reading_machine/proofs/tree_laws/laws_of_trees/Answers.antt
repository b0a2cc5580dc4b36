use Rattle.reading_machine.proofs.UniqueTree as unique
use Rattle.reading_machine.proofs.tree_laws.laws_of_trees.Goals as goal

pub returns-clause-read : goal.returns-clause-read
returns-clause-read c = unique.spelled_read

pub returns-clause-defined : goal.returns-clause-defined
returns-clause-defined c = unique.definition_read

pub returns-clause-one : goal.returns-clause-one
returns-clause-one c = unique.one_tree

pub returns-clause-between : goal.returns-clause-between
returns-clause-between c = unique.one_between
