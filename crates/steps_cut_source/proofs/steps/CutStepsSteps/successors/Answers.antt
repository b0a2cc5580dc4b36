use Rattle.steps_ready_defs.specs.Beside.{asked}
use Rattle.steps_cut_source.proofs.Adding.{listed}
use Rattle.steps_cut_source.proofs.Reaching.{reached_cut, reached_state}
use Rattle.steps_cut_source.proofs.Untied.{untied}
use Rattle.steps_cut_source.proofs.steps.CutStepsSteps.successors.Goals as goal

pub ready_steps-requires-clause-ready : goal.ready_steps-requires-clause-ready
ready_steps-requires-clause-ready c = c.requires.ready

pub ready_steps-requires-clause-cut : goal.ready_steps-requires-clause-cut
ready_steps-requires-clause-cut c =
    let s = c.args.self.now in
    (reached_cut s.spec.now s.logs.now (asked s.stutter s.within s.limit) (untied s.logs.now s.tied) c.args._line c.args.from.now c.requires.reached).0

pub ready_steps-requires-clause-state : goal.ready_steps-requires-clause-state
ready_steps-requires-clause-state c =
    let s = c.args.self.now in
    reached_state s.spec.now s.logs.now (asked s.stutter s.within s.limit) c.args._line c.args.from.now c.requires.reached

pub returns : goal.returns
returns c =
    let s = c.args.self.now in
    listed s (untied s.logs.now s.tied).made c.args.from.now c.args.bound c.ready_steps.result c.ready_steps.ensures.all c.ready_steps.ensures.stopped
