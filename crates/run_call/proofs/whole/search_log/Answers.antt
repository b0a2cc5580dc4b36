use Rattle.run_call.proofs.whole.search_log.Goals as goal

pub returns-clause-searched : goal.returns-clause-searched
returns-clause-searched c = record { is_true = c.in_ok-searched.ensures.answer; last = c.in_ok-searched.ensures.last }
