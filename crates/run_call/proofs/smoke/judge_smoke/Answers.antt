use Rattle.std.proofs.Common.{ap, rules, ◌≡◌, IfErr, Some, subst, sym}
use Rattle.run_words.specs.declared.job.Job.{Job}
use Rattle.run_stages.specs.Stops.{StopsBy}
use Rattle.run_stages.specs.declared.stop.Stop.TheVariants.{NoMemory}
use Rattle.run_stages.proofs.Stopping.{err_mapped}
use Rattle.run_call.specs.Smoke.{IsSmokeStop}
use Rattle.run_call.proofs.SmokeLemmas.{ring_in_order, smoke_stop, smoke_tested}
use Rattle.run_call.proofs.smoke.judge_smoke.Goals as goal

pub returns-in_err-accepted-clause-stopped : goal.returns-in_err-accepted-clause-stopped
returns-in_err-accepted-clause-stopped c =
    let r = c.from_residual-in_err-accepted in
    let by = StopsBy (Some c.in_ok-files.files.files) 0 0 c.in_ok-job.job in
    let stopped : IfErr r.result by = search (rules, r.ensures, c.in_err-accepted.ensures.stopped, c.in_err-accepted.is) in
    err_mapped by (IsSmokeStop c.args.lines) r.result (λ stop why. smoke_stop _ _ _ stop c.in_ok-files.ensures c.in_ok-job.ensures.job why) stopped

pub answer_smoke-requires-clause-one_order : goal.answer_smoke-requires-clause-one_order
answer_smoke-requires-clause-one_order c =
    let a = c.in_ok-accepted.accepted in
    ring_in_order c.args.lines _ _ a.program a.config a.spec a.lined c.in_ok-job.ensures.job c.in_ok-accepted.ensures.accepted

pub answer_smoke-requires-clause-unasked : goal.answer_smoke-requires-clause-unasked
answer_smoke-requires-clause-unasked c = ap (λ (job : Job). job.why) c.in_ok-job.ensures.job

pub answer_smoke-requires-clause-no_near : goal.answer_smoke-requires-clause-no_near
answer_smoke-requires-clause-no_near c = ap (λ (job : Job). job.near) c.in_ok-job.ensures.job

pub returns-clause-runs : goal.returns-clause-runs
returns-clause-runs c =
    smoke_tested _ _ _ _ _ _ _ c.answer_smoke.result c.in_ok-files.ensures c.in_ok-job.ensures.job c.in_ok-accepted.ensures.accepted c.held_so.ensures c.answer_smoke.ensures.tested

pub returns-clause-stopped : goal.returns-clause-stopped
returns-clause-stopped c =
    let stops = IsSmokeStop c.args.lines in
    err_mapped (λ stop. stop ≡ NoMemory) stops c.answer_smoke.result (λ stop e. subst stops (sym e) tt) c.answer_smoke.ensures.stopped
