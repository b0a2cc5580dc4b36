use Rattle.run_call.proofs.CallLemmas.{counted_told}
use Rattle.run_call.proofs.judge.told.Goals as goal

pub returns-clause-report : goal.returns-clause-report
returns-clause-report c =
    let a = c.args.accepted.now in
    counted_told c.args.job.now a.program a.config a.spec a.lined _ c.args.answer.now c.told_beside.result c.line_count.ensures c.told_beside.ensures.report
