use Rattle.run_call.proofs.CallLemmas.{report_told}
use Rattle.run_call.proofs.judge.told_beside.Goals as goal

pub returns-clause-report : goal.returns-clause-report
returns-clause-report c =
    let h = c.args.heading in
    report_told c.args.job.now h.program.now h.config.now h.spec.now h.lines c.args.answer.now _ _ c.in_ok-files.ensures c.in_ok-answer_text.ensures
