use Rattle.reading_token_steps.proofs.KeptFollows.{other_follows}
use Rattle.reading_token_steps.proofs.SameDoes.{does_same}
use Rattle.reading_token_steps.proofs.behind.symbol_follows.Goals as goal

pub returns-in_default : goal.returns-in_default
returns-in_default c = does_same _ _ _ _ (other_follows _ _ _ _ _ c.in_default.not-Prime c.in_default.not-OpenBracket c.in_default.not-Dot c.in_default.not-OpenParenthesis c.in_default.not-Exclamation) c.operator_or.ensures
