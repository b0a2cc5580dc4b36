use Rattle.std.proofs.Common.{arith}
use Rattle.values_set_bounds.proofs.Listed.{value_within}
use Rattle.values_set_bounds.proofs.sizes.of_value.Goals as goal

pub returns : goal.returns
returns c = value_within c.args.all.now c.len.result c.levels.result c.is_value.ensures c.requires (omega (arith, c.len.ensures)) (omega (arith, c.levels.ensures))
