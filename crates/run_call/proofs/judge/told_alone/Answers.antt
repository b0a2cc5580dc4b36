use Rattle.run_call.proofs.CallLemmas.{answered_beside}
use Rattle.run_call.proofs.judge.told_alone.Goals as goal

pub returns-clause-answers : goal.returns-clause-answers
returns-clause-answers c =
    let a = c.args.accepted in
    answered_beside c.args.job.now a.program a.config a.spec a.lined _ c.in_ok-answer.answer c.told_beside.result c.line_count-lines.ensures c.requires.unasked c.requires.no_near
    c.in_ok-answer.ensures.answer.is_true c.told_beside.ensures.status c.told_beside.ensures.report
