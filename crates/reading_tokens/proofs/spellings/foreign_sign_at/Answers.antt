use Rattle.std.proofs.Common.{◌≤◌, arith}
use Rattle.std.proofs.lemmas.Option.{slice_get_past}
use Rattle.reading_tokens.specs.Spellings.{signs}
use Rattle.reading_tokens.proofs.spellings.foreign_sign_at.Goals as goal

pub returns-in_default : goal.returns-in_default
unfolding signs
returns-in_default c = let past : 70 ≤ c.args.i = omega arith in slice_get_past signs c.args.i past
