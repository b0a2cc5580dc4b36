use Rattle.std.proofs.Common.{arith}
use Rattle.reading_tokens.specs.Spellings.{signs}
use Rattle.reading_tokens.proofs.spellings.mark_at.Goals as goal

pub returns-in_default : goal.returns-in_default
unfolding signs
returns-in_default c = absurd (omega arith)
