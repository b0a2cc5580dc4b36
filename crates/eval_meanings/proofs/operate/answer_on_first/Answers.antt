use Rattle.eval_meanings.proofs.Placing.{answers_one}
use Rattle.eval_meanings.proofs.operate.answer_on_first.Goals as goal

pub returns : goal.returns
returns c = answers_one _ _ _ _ c.requires.arguments c.argument-value.ensures c.answer_on_one.ensures
