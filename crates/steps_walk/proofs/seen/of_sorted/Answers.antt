use Rattle.std.proofs.Common.{refl}
use Rattle.steps_walk.proofs.Seeing.{cut_tells}
use Rattle.steps_walk.proofs.seen.of_sorted.Goals as goal

pub returns : goal.returns
returns c =
    cut_tells c.args.number.0 c.args.sees.now _ c.from_variable-first.result c.up_to_variable-count.result refl c.from_variable-first.ensures.within c.up_to_variable-count.ensures.within c.from_variable-first.ensures.before c.up_to_variable-count.ensures.behind
