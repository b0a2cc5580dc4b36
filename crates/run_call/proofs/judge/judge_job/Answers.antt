use Rattle.std.proofs.Common.{◌≡◌, subst, sym}
use Rattle.run_stages.specs.Stops.{StopsBy}
use Rattle.run_stages.specs.declared.stop.Stop.TheVariants.{NoMemory}
use Rattle.run_stages.proofs.Stopping.{err_mapped}
use Rattle.run_stages.proofs.Told.{on_ok, wanting_told}
use Rattle.run_call.proofs.CallLemmas.{calls_answered}
use Rattle.run_call.proofs.judge.judge_job.Goals as goal

pub returns-clause-calls : goal.returns-clause-calls
returns-clause-calls g c = calls_answered _ _ _ _ _ _ _ _ c.answer.result c.in_ok-accepted.ensures.accepted c.held_so.ensures c.answer.ensures.answers

pub returns-clause-stopped : goal.returns-clause-stopped
returns-clause-stopped g c =
    let stops = StopsBy (g.F.Files.holds c.args.files.now) (g.F.Files.faults c.args.files.now) (g.F.Files.faults c.read_all.new.files) c.args.job.now in
    err_mapped (λ stop. stop ≡ NoMemory) stops c.answer.result (λ stop e. subst stops (sym e) tt) c.answer.ensures.stopped

pub returns-clause-quiet : goal.returns-clause-quiet
returns-clause-quiet g c = on_ok c.answer.result c.in_ok-accepted.ensures.quiet

pub returns-clause-told : goal.returns-clause-told
returns-clause-told g c = wanting_told (g.F.Files.failures c.args.files.now) (g.F.Files.failures c.read_all.new.files) c.answer.result c.answer.ensures.stopped
