use Rattle.run_call.specs.Calls.{asked_by}
use Rattle.run_call.proofs.SmokeLemmas.{is_valid, not_fault, not_invalid, tested_surely}
use Rattle.run_call.proofs.smoke.told_valid.Goals as goal

pub verdict_over-requires-clause-states : goal.verdict_over-requires-clause-states
verdict_over-requires-clause-states c = c.lined_laws.ensures.states (asked_by c.args.job.now.options) c.args.behaviour.now c.args.widest c.requires.explained.is_true

pub unreachable-requires : goal.unreachable-requires
unreachable-requires c =
    let a = c.args.accepted.now in
    let valid = is_valid a.spec a.lined (asked_by c.args.job.now.options) c.args.behaviour.now c.args.widest c.in_ok-verdict.verdict (c.lined_laws.ensures.valid (asked_by c.args.job.now.options))
    (c.lined_laws.ensures.one (asked_by c.args.job.now.options)) c.requires.one_order c.requires.explained.is_true c.in_ok-verdict.ensures in
    not_invalid c.in_ok-verdict.verdict _ _ valid c.in-Invalid.is

pub unreachable-requires-in-Fault : goal.unreachable-requires-in-Fault
unreachable-requires-in-Fault c =
    let a = c.args.accepted.now in
    let valid = is_valid a.spec a.lined (asked_by c.args.job.now.options) c.args.behaviour.now c.args.widest c.in_ok-verdict.verdict (c.lined_laws.ensures.valid (asked_by c.args.job.now.options))
    (c.lined_laws.ensures.one (asked_by c.args.job.now.options)) c.requires.one_order c.requires.explained.is_true c.in_ok-verdict.ensures in
    not_fault c.in_ok-verdict.verdict _ _ _ valid c.in-Fault.is

pub returns-clause-tested : goal.returns-clause-tested
returns-clause-tested c =
    let a = c.args.accepted.now in
    tested_surely c.args.lines c.args.job.now a.program a.config a.spec a.lined c.args.behaviour.now c.args.widest c.tell_smoke.result c.requires.explained.is_true
    (c.lined_laws.ensures.valid (asked_by c.args.job.now.options) c.args.behaviour.now c.args.widest c.requires.explained.is_true) c.tell_smoke.ensures.status c.tell_smoke.ensures.report
