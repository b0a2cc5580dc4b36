use Rattle.std.proofs.Common.{◌≡◌, ◌∙◌, ◌<◌, ap, sym, subst, arith}
use Rattle.base_cuts.specs.Cuts.{Cut, total}
use Rattle.base_cuts.specs.Orders.{IsCut, sizes}
use Rattle.steps_ready_defs.specs.Beside.{asked}
use Rattle.steps_tied.specs.Tied.{CutState, IsFirstReady}
use Rattle.steps_cut_source.proofs.Reaching.{reached_cut}
use Rattle.steps_cut_source.proofs.Untied.{untied}
use Rattle.steps_cut_source.proofs.steps.CutStepsSteps.expected.Goals as goal

pub first_ready_at-requires-clause-tied : goal.first_ready_at-requires-clause-tied
first_ready_at-requires-clause-tied c = untied c.args.self.now.logs.now c.args.self.now.tied

pub first_ready_at-requires-clause-cut : goal.first_ready_at-requires-clause-cut
first_ready_at-requires-clause-cut c =
    let s = c.args.self.now in
    subst (IsCut s.logs.now.order) (sym (ap (λ (x : CutState). x.cut) c.from.view_is))
    (reached_cut s.spec.now s.logs.now (asked s.stutter s.within s.limit) (untied s.logs.now s.tied) c.args._line c.args.from.now c.requires.reached).0

pub first_ready_at-requires-clause-left : goal.first_ready_at-requires-clause-left
first_ready_at-requires-clause-left c =
    let s = c.args.self.now in
    let left : c.args._line < total (sizes s.logs.now.order) = c.requires.left in
    let all : total c.from.inside.cut ≡ c.args._line =
    ap (λ (x : CutState). total x.cut) c.from.view_is
    ∙ (reached_cut s.spec.now s.logs.now (asked s.stutter s.within s.limit) (untied s.logs.now s.tied) c.args._line c.args.from.now c.requires.reached).1 in
    omega (arith, left, all)

pub returns : goal.returns
returns c =
    let logs = c.args.self.now.logs.now in
    subst (λ (d : Cut). IsFirstReady logs.files.items logs.order d c.first_ready_at.result) (ap (λ (x : CutState). x.cut) c.from.view_is) c.first_ready_at.ensures
