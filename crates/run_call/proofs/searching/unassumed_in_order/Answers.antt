use Rattle.run_call.proofs.searching.unassumed_in_order.Goals as goal

pub returns-clause-assumed : goal.returns-clause-assumed
returns-clause-assumed c = record { told = c.in_ok-answer.ensures }
