use Rattle.run_call.proofs.CallLemmas.{unassumed_told}
use Rattle.run_call.proofs.given.answer_given.Goals as goal

pub returns-in-Some-clause-answers : goal.returns-in-Some-clause-answers
returns-in-Some-clause-answers c =
    let a = c.args.given.now.accepted in
    let is = rw c.in-Some.is at c.in_ok-first.ensures.assumed.told in
    unassumed_told c.args.job.now a.program a.config a.spec a.lined c.args.given.now.states c.in-Some.answer c.told.result is c.told.ensures.status c.told.ensures.report

pub judge_states-requires-clause-assumed : goal.judge_states-requires-clause-assumed
judge_states-requires-clause-assumed c = record { assumed = rw c.in-None.is at c.in_ok-first.ensures.assumed.told }
