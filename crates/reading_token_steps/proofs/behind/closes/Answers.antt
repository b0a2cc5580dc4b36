use Rattle.reading_token_steps.proofs.KeptCloses.{nothing_waits}
use Rattle.reading_token_steps.proofs.behind.closes.Goals as goal

pub returns-in-None : goal.returns-in-None
returns-in-None c = nothing_waits _ _ _ c.in-None.ensures.0
