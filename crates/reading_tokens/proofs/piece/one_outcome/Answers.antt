use Rattle.reading_tokens.proofs.Cuts as cuts
use Rattle.reading_tokens.proofs.piece.one_outcome.Goals as goal

pub returns-clause-one : goal.returns-clause-one
returns-clause-one c = cuts.one_outcome

pub returns-clause-some : goal.returns-clause-some
returns-clause-some c = cuts.some_outcome
