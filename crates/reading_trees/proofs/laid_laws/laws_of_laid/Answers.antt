use Rattle.reading_trees.proofs.Decided as decided
use Rattle.reading_trees.proofs.Nesting as nesting
use Rattle.reading_trees.proofs.Unique as unique
use Rattle.reading_trees.proofs.laid_laws.laws_of_laid.Goals as goal

pub returns-clause-one : goal.returns-clause-one
returns-clause-one c = unique.one_laid

pub returns-clause-fault : goal.returns-clause-fault
returns-clause-fault c = unique.one_fault

pub returns-clause-never : goal.returns-clause-never
returns-clause-never c = unique.never_both

pub returns-clause-nests : goal.returns-clause-nests
returns-clause-nests c = nesting.laid_nests

pub returns-clause-decided : goal.returns-clause-decided
returns-clause-decided c = decided.decided
