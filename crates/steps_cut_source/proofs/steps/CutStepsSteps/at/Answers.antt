use Rattle.std.proofs.Common.{ap, length, ◌∙◌}
use Rattle.steps_ready_defs.specs.Beside.{asked}
use Rattle.steps_tied.specs.Tied.{CutState}
use Rattle.steps_cut_source.proofs.Reaching.{reached_long, step_long}
use Rattle.steps_cut_source.proofs.Taking.{at_same}
use Rattle.steps_cut_source.proofs.Untied.{untied}
use Rattle.steps_cut_source.proofs.steps.CutStepsSteps.at.Goals as goal

pub taken_at-requires-clause-from : goal.taken_at-requires-clause-from
taken_at-requires-clause-from c =
    let s = c.args.self.now in
    ap (λ (x : CutState). length x.cut) c.from.view_is
    ∙ reached_long s.spec.now s.logs.now (asked s.stutter s.within s.limit) (untied s.logs.now s.tied) c.args._line c.args.from.now c.requires.reached

pub taken_at-requires-clause-to : goal.taken_at-requires-clause-to
taken_at-requires-clause-to c =
    let s = c.args.self.now in
    ap (λ (x : CutState). length x.cut) c.to.view_is
    ∙ step_long s.spec.now s.logs.now (asked s.stutter s.within s.limit) (untied s.logs.now s.tied) c.args._line c.args.from.now c.args.to.now c.requires.reached c.requires.step

pub returns : goal.returns
returns c =
    at_same c.args.self.now.logs.now.files.items c.from.inside.cut c.to.inside.cut c.args.from.now.cut c.args.to.now.cut c.taken_at.result (ap (λ (x : CutState). x.cut) c.from.view_is)
    (ap (λ (x : CutState). x.cut) c.to.view_is) c.taken_at.ensures
