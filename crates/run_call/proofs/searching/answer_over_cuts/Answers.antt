use Rattle.run_call.proofs.searching.answer_over_cuts.Goals as goal

pub returns-clause-answer : goal.returns-clause-answer
returns-clause-answer c = record { is_true = c.in_ok-answer.ensures }
