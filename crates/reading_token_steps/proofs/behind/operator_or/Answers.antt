use Rattle.reading_token_steps.proofs.KeptFollows.{some_operator, no_operator}
use Rattle.reading_token_steps.proofs.SameDoes.{does_same}
use Rattle.reading_token_steps.proofs.behind.operator_or.Goals as goal

pub returns-in-Some : goal.returns-in-Some
returns-in-Some c = does_same _ _ _ _ (some_operator _ _ _ _ _ _ c.in-Some.ensures) c.infix_step.ensures

pub returns-in-None : goal.returns-in-None
returns-in-None c = does_same _ _ _ _ (no_operator _ _ _ _ _ c.in-None.ensures) c.behind.ensures
