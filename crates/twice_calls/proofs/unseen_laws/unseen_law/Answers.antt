use Rattle.twice_calls.proofs.Unseen.{read_unseen, unasked_are_unseen}
use Rattle.twice_calls.proofs.unseen_laws.unseen_law.Goals as goal

pub returns-clause-words : goal.returns-clause-words
returns-clause-words c = unasked_are_unseen

pub returns-clause-job : goal.returns-clause-job
returns-clause-job c = read_unseen
