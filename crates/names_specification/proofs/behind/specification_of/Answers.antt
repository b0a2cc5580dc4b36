use Rattle.std.proofs.Common.{ap}
use Rattle.names_specification.specs.Behind.{deepest, last_from}
use Rattle.names_specification.proofs.Lasts.{last_in_the_end}
use Rattle.names_specification.proofs.behind.specification_of.Goals as goal

pub loop-left-init : goal.loop-left-init
loop-left-init c = ap (last_from deepest c.args.program.now c.args.config.now) c.in_ok-last.ensures

pub returns : goal.returns
returns c = last_in_the_end c.loop-left.left c.args.program.now c.args.config.now c.loop-left.last _ c.loop-left-test.false c.loop-left.invariant
