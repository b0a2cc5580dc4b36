use Rattle.run_call.proofs.CallLemmas.{answered_whole}
use Rattle.run_call.proofs.whole.told_whole.Goals as goal

pub returns-clause-answers : goal.returns-clause-answers
returns-clause-answers c =
    let a = c.args.accepted.now in
    answered_whole c.args.job.now a.program a.config a.spec a.lined c.args.log.now _ _ c.in_ok-searched.searched.answer _ _ c.requires.lined c.in_ok-files.ensures c.len.ensures
    c.in_ok-searched.ensures.searched.is_true c.status_of-status.ensures c.in_ok-report.ensures
