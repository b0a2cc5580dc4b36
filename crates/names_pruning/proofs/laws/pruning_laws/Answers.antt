use Rattle.names_pruning.proofs.Leaving.{fine_stays, nothing_is_made, one_alone, one_pruned, over_is_not_needed}
use Rattle.names_pruning.proofs.laws.pruning_laws.Goals as goal

pub returns-clause-made : goal.returns-clause-made
returns-clause-made c = nothing_is_made

pub returns-clause-over : goal.returns-clause-over
returns-clause-over c = over_is_not_needed

pub returns-clause-one : goal.returns-clause-one
returns-clause-one c = one_pruned

pub returns-clause-alone : goal.returns-clause-alone
returns-clause-alone c = one_alone

pub returns-clause-fine : goal.returns-clause-fine
returns-clause-fine c = fine_stays
