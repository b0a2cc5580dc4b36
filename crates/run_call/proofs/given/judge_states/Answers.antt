use Rattle.run_call.proofs.CallLemmas.{judged_told}
use Rattle.run_call.proofs.given.judge_states.Goals as goal

pub returns-clause-answers : goal.returns-clause-answers
returns-clause-answers c =
    let a = c.args.given.now.accepted in
    judged_told c.args.job.now a.program a.config a.spec a.lined c.args.given.now.states c.in_ok-verdict.verdict c.told_verdict.result c.requires.assumed.assumed c.in_ok-verdict.ensures
    c.told_verdict.ensures.status c.told_verdict.ensures.report
