use Rattle.run_call.proofs.CallLemmas.{told_ties}
use Rattle.run_call.proofs.judge.told_of_ties.Goals as goal

pub returns-clause-answers : goal.returns-clause-answers
returns-clause-answers c =
    let a = c.args.accepted.now in
    told_ties c.args.job.now a.program a.config a.spec a.lined c.requires.ties.0 c.in_ok-answer.answer c.told.result c.requires.ties.1 c.in_ok-answer.ensures.answer.is_true
    c.told.ensures.status c.told.ensures.report
