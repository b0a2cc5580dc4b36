use Rattle.steps_ready_defs.specs.Beside.{asked}
use Rattle.steps_cut_source.proofs.Beginning.{first_given, first_stop}
use Rattle.steps_cut_source.proofs.steps.CutStepsSteps.initial.Goals as goal

pub initial-requires-clause-ready : goal.initial-requires-clause-ready
initial-requires-clause-ready c = c.requires.ready.spec

pub initial-requires-clause-sees : goal.initial-requires-clause-sees
initial-requires-clause-sees c = c.requires.ready.first

pub returns-in_ok-first-in-Ok : goal.returns-in_ok-first-in-Ok
returns-in_ok-first-in-Ok c =
    let s = c.args.self.now in
    first_given s.spec.now s.logs.now (asked s.stutter s.within s.limit) c.args.bound c.in-Ok.states c.in_ok-first-in-Ok.first c.in_ok-cut-in-Ok.cut c.in-Ok.ensures c.in_ok-cut-in-Ok.ensures
    c.in_ok-first-in-Ok.ensures

pub returns-in-Err : goal.returns-in-Err
returns-in-Err c =
    let s = c.args.self.now in
    first_stop s.spec.now s.logs.now (asked s.stutter s.within s.limit) c.args.bound c.in-Err.stop c.in-Err.ensures
