use Rattle.std.proofs.Common.{◌≡◌, subst, sym}
use Rattle.run_stages.specs.GivenStops.{GivenStopsBy}
use Rattle.run_stages.specs.declared.stop.Stop.TheVariants.{NoMemory}
use Rattle.run_stages.proofs.Stopping.{err_mapped}
use Rattle.run_stages.proofs.Told.{on_ok, wanting_told}
use Rattle.run_call.proofs.CallLemmas.{given_answered}
use Rattle.run_call.proofs.given.judge_given.Goals as goal

pub returns-clause-calls : goal.returns-clause-calls
returns-clause-calls g c = given_answered _ _ _ _ _ _ _ _ _ _ c.answer_given.result c.in_ok-given.ensures.accepted c.answer_given.ensures.answers

pub returns-clause-stopped : goal.returns-clause-stopped
returns-clause-stopped g c =
    let stops = GivenStopsBy (g.F.Files.holds c.args.files.now) (g.F.Files.faults c.args.files.now) (g.F.Files.faults c.read_given.new.files) c.args.job.now c.args.witness.now in
    err_mapped (λ stop. stop ≡ NoMemory) stops c.answer_given.result (λ stop e. subst stops (sym e) tt) c.answer_given.ensures.stopped

pub returns-clause-quiet : goal.returns-clause-quiet
returns-clause-quiet g c = on_ok c.answer_given.result c.in_ok-given.ensures.quiet

pub returns-clause-told : goal.returns-clause-told
returns-clause-told g c = wanting_told (g.F.Files.failures c.args.files.now) (g.F.Files.failures c.read_given.new.files) c.answer_given.result c.answer_given.ensures.stopped
