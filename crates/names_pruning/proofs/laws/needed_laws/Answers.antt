use Rattle.names_pruning.proofs.Leaving.{asked_is_bad, needed_stays}
use Rattle.names_pruning.proofs.Senses.{declared_stays, meanings_stay, roots_stay}
use Rattle.names_pruning.proofs.laws.needed_laws.Goals as goal

pub returns-clause-stays : goal.returns-clause-stays
returns-clause-stays c = needed_stays

pub returns-clause-roots : goal.returns-clause-roots
returns-clause-roots c = roots_stay

pub returns-clause-meanings : goal.returns-clause-meanings
returns-clause-meanings c = meanings_stay

pub returns-clause-declared : goal.returns-clause-declared
returns-clause-declared c = declared_stays

pub returns-clause-asked : goal.returns-clause-asked
returns-clause-asked c = asked_is_bad
