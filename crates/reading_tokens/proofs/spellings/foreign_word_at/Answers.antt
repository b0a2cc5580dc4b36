use Rattle.std.proofs.Common.{◌≤◌, arith}
use Rattle.std.proofs.lemmas.Option.{slice_get_past}
use Rattle.reading_tokens.specs.Spellings.{words}
use Rattle.reading_tokens.proofs.spellings.foreign_word_at.Goals as goal

pub returns-in_default : goal.returns-in_default
unfolding words
returns-in_default c = let past : 43 ≤ c.args.i = omega arith in slice_get_past words c.args.i past
