use Rattle.eval_meanings.specs.Operations.{StandardAnswers}
use Rattle.eval_meanings.proofs.Placing.{tells_placed}
use Rattle.eval_meanings.proofs.operate.standard.Goals as goal

pub returns : goal.returns
returns c = tells_placed (StandardAnswers c.args.operator c.args.arguments.now) _ _ _ c.located.ensures c.standard_answer.ensures
