use Rattle.names_terms.specs.declared.standard.StandardOperator.TheVariants.{Append}
use Rattle.eval_meanings.proofs.Placing.{answers_two}
use Rattle.eval_meanings.proofs.operate.append_answer.Goals as goal

pub returns : goal.returns
returns c = answers_two Append _ _ _ _ c.requires c.argument-sequence.ensures c.argument-value.ensures c.append.ensures
