use Rattle.names_terms.specs.declared.standard.StandardOperator.TheVariants.{SubSeq}
use Rattle.eval_meanings.proofs.Placing.{answers_three}
use Rattle.eval_meanings.proofs.operate.part_answer.Goals as goal

pub returns : goal.returns
returns c = answers_three SubSeq _ _ _ _ _ c.requires c.argument-sequence.ensures c.argument-from.ensures c.argument-to.ensures c.subseq.ensures
