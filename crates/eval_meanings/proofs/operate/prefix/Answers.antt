use Rattle.eval_meanings.specs.Operations.{PrefixAnswers}
use Rattle.eval_meanings.proofs.Placing.{tells_placed}
use Rattle.eval_meanings.proofs.operate.prefix.Goals as goal

pub returns : goal.returns
returns c = tells_placed (PrefixAnswers c.args.operator c.args.value.now) _ _ _ c.located.ensures c.prefix_answer.ensures
