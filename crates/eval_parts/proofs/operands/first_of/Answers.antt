use Rattle.eval_parts.proofs.Loops.{first_is}
use Rattle.eval_parts.proofs.operands.first_of.Goals as goal

pub returns : goal.returns
returns c = first_is c.parts.result.0.now c.parts.result.1.now c.args.operands.now c.parts.ensures
