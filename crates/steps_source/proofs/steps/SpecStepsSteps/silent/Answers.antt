use Rattle.steps_ready_defs.specs.Beside.{asked}
use Rattle.steps_source.proofs.Reaching.{reached_state}
use Rattle.steps_source.proofs.steps.SpecStepsSteps.silent.Goals as goal

pub silent_steps-requires-clause-ready : goal.silent_steps-requires-clause-ready
silent_steps-requires-clause-ready c = c.requires.ready.spec

pub silent_steps-requires-clause-state : goal.silent_steps-requires-clause-state
silent_steps-requires-clause-state c =
    let s = c.args.self.now in
    reached_state s.spec.now s.log.now (asked s.stutter s.within s.limit) c.requires.reached.0 c.args.from.now c.requires.reached.1

pub returns : goal.returns
returns c = c.silent_steps.ensures
