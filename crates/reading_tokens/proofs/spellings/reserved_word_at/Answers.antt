use Rattle.std.proofs.Common.{arith}
use Rattle.reading_tokens.specs.Spellings.{words}
use Rattle.reading_tokens.proofs.spellings.reserved_word_at.Goals as goal

pub returns-in_default : goal.returns-in_default
unfolding words
returns-in_default c = absurd (omega arith)
