use Rattle.std.proofs.Common.{ap, length, sym, subst}
use Rattle.steps_lines_defs.specs.Says.{IsState}
use Rattle.steps_ready_defs.specs.Beside.{asked}
use Rattle.steps_tied.specs.Tied.{CutState}
use Rattle.steps_cut_source.proofs.Beginning.{silent_given, silent_stop}
use Rattle.steps_cut_source.proofs.Reaching.{reached_state}
use Rattle.steps_cut_source.proofs.steps.CutStepsSteps.silent.Goals as goal

pub silent_steps-requires-clause-ready : goal.silent_steps-requires-clause-ready
silent_steps-requires-clause-ready c = c.requires.ready.spec

pub silent_steps-requires-clause-state : goal.silent_steps-requires-clause-state
silent_steps-requires-clause-state c =
    let s = c.args.self.now in
    subst (IsState (length s.spec.now.variables)) (sym (ap (λ (x : CutState). x.state) c.from.view_is))
    (reached_state s.spec.now s.logs.now (asked s.stutter s.within s.limit) c.requires.reached.0 c.args.from.now c.requires.reached.1)

pub returns-in_ok-next-in-Ok : goal.returns-in_ok-next-in-Ok
returns-in_ok-next-in-Ok c =
    let s = c.args.self.now in
    silent_given s.spec.now s.logs.now (asked s.stutter s.within s.limit) c.args.bound c.from.inside.cut c.from.inside.state c.args.from.now c.from.view_is c.in-Ok.states c.in_ok-next-in-Ok.next
    c.in-Ok.ensures c.in_ok-next-in-Ok.ensures

pub returns-in-Err : goal.returns-in-Err
returns-in-Err c =
    let s = c.args.self.now in
    silent_stop s.spec.now s.logs.now (asked s.stutter s.within s.limit) c.args.bound c.from.inside.cut c.from.inside.state c.args.from.now c.from.view_is c.in-Err.stop c.in-Err.ensures
