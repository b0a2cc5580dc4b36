use Rattle.reading_token_steps.proofs.KeptFollows.{behind_settled}
use Rattle.reading_token_steps.proofs.SameDoes.{does_same}
use Rattle.reading_token_steps.proofs.behind.behind.Goals as goal

pub returns : goal.returns
returns c = does_same _ _ _ _ (behind_settled _ _ _ _ _ _ c.is_case_mark.ensures c.in_ok-whole.ensures) c.closes.ensures
