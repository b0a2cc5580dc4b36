use Rattle.steps_lines_defs.specs.Asks.{AreSeen, asks, updated}
use Rattle.steps_lines_defs.specs.Steps.{FaultStep, Step}
use Rattle.steps_ready_defs.specs.Ready.{IsReadyLine}
use Rattle.steps_ready_defs.specs.Beside.{asked}
use Rattle.steps_source.proofs.Given.{gives_of_line, line_has}
use Rattle.steps_source.proofs.Reaching.{reached_state}
use Rattle.steps_source.proofs.steps.SpecStepsSteps.successors.Goals as goal

pub successors-requires-clause-ready : goal.successors-requires-clause-ready
successors-requires-clause-ready c = c.requires.ready.spec

pub successors-requires-clause-fits : goal.successors-requires-clause-fits
successors-requires-clause-fits c =
    let s = c.args.self.now in
    line_has s.log.now.lines c.args.line c.line_of-line.result.now c.line_of-line.ensures (IsReadyLine s.spec.now) c.requires.ready.lines

pub successors-requires-clause-state : goal.successors-requires-clause-state
successors-requires-clause-state c =
    let s = c.args.self.now in
    reached_state s.spec.now s.log.now (asked s.stutter s.within s.limit) c.args.line c.args.from.now c.requires.reached

pub returns : goal.returns
returns c =
    let s = c.args.self.now in
    gives_of_line s.log.now.lines c.args.line c.line_of-line.result.now c.line_of-line.ensures (λ m. Step (asks s.spec.now s.stutter m) c.args.from.now)
    (λ m. FaultStep (asks s.spec.now s.stutter m) (updated m.updates) c.args.from.now) (λ m. AreSeen m.sees) c.args.bound c.successors.result c.successors.ensures
