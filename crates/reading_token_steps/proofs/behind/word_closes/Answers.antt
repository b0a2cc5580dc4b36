use Rattle.reading_token_steps.proofs.KeptCloses.{other_word}
use Rattle.reading_token_steps.proofs.behind.word_closes.Goals as goal

pub returns-in_default : goal.returns-in_default
returns-in_default c = other_word _ _ _ _ c.in_default.not-Then c.in_default.not-Else c.in_default.not-Except c.in_default.not-In
