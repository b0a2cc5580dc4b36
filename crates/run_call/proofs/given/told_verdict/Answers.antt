use Rattle.run_call.proofs.CallLemmas.{verdict_told}
use Rattle.run_call.proofs.given.told_verdict.Goals as goal

pub returns-clause-report : goal.returns-clause-report
returns-clause-report c =
    let a = c.args.given.now.accepted in
    verdict_told a.program a.config c.args.given.now.states c.args.verdict _ _ _ c.in_ok-files.ensures c.len-count.ensures c.in_ok-verdict_text.ensures
