use Rattle.run_call.proofs.SmokeLemmas.{is_explained, tested_otherwise}
use Rattle.run_call.proofs.smoke.answer_smoke.Goals as goal

pub told_valid-requires-clause-explained : goal.told_valid-requires-clause-explained
told_valid-requires-clause-explained c =
    let a = c.args.accepted.now in
    record { is_true = is_explained a.spec a.lined c.args.job.now c.in_ok-answer.answer _ _ c.in-Some.ensures c.in_ok-answer.ensures.answer.is_true }

pub returns-clause-tested : goal.returns-clause-tested
returns-clause-tested c =
    let a = c.args.accepted.now in
    tested_otherwise c.args.lines c.args.job.now a.program a.config a.spec a.lined c.in_ok-answer.answer c.told.result c.requires.unasked c.requires.no_near c.in_ok-answer.ensures.answer.is_true c.in-None.ensures
    c.told.ensures.status c.told.ensures.report
