use Rattle.twice_calls.proofs.call.run_ends.Goals as goal

pub returns-clause-ends : goal.returns-clause-ends
returns-clause-ends g c = record { report = c.run.ensures.report; part = c.run.ensures.part; device = c.run.ensures.device }
