use Rattle.reading_token_steps.proofs.KeptFollows.{symbol_goes_on, no_symbol}
use Rattle.reading_token_steps.proofs.SameDoes.{does_same}
use Rattle.reading_token_steps.proofs.behind.follows.Goals as goal

pub returns-in-Some : goal.returns-in-Some
returns-in-Some c = does_same _ _ _ _ (symbol_goes_on _ _ _ _ _ c.in-Some.ensures) c.symbol_follows.ensures

pub returns-in-None : goal.returns-in-None
returns-in-None c = does_same _ _ _ _ (no_symbol _ _ _ c.in-None.ensures) c.behind.ensures
