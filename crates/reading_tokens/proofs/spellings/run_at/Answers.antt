use Rattle.std.proofs.Common.{◌≤◌, arith}
use Rattle.std.proofs.lemmas.Option.{slice_get_past}
use Rattle.reading_tokens.specs.Spellings.{runs}
use Rattle.reading_tokens.proofs.spellings.run_at.Goals as goal

pub returns-in_default : goal.returns-in_default
unfolding runs
returns-in_default c = let past : 24 ≤ c.args.i = omega arith in slice_get_past runs c.args.i past
