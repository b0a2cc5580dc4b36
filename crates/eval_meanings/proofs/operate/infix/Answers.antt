use Rattle.eval_meanings.specs.Operations.{InfixAnswers}
use Rattle.eval_meanings.proofs.Placing.{tells_placed}
use Rattle.eval_meanings.proofs.operate.infix.Goals as goal

pub returns : goal.returns
returns c = tells_placed (InfixAnswers c.args.operator c.args.left.now c.args.right.now) _ _ _ c.located.ensures c.infix_answer.ensures
