use Rattle.eval_parts.proofs.Loops.{others_are}
use Rattle.eval_parts.proofs.operands.others_of.Goals as goal

pub returns : goal.returns
returns c = others_are c.parts.result.0.now c.parts.result.1.now c.args.operands.now c.parts.ensures
