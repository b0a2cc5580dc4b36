use Rattle.std.proofs.Common.{ap, sym, subst}
use Rattle.base_cuts.specs.Cuts.{Cut, next}
use Rattle.base_cuts.specs.Orders.{IsCut, IsReadyAt}
use Rattle.logs_tied.specs.Lines.{StandsIn}
use Rattle.steps_tied.specs.Tied.{CutState}
use Rattle.steps_cut_source.specs.Spoken.{spoken}
use Rattle.steps_cut_source.proofs.Adding.{not_ready}
use Rattle.steps_cut_source.proofs.Untied.{untied}
use Rattle.steps_cut_source.proofs.listing.add_steps.Goals as goal

pub ready_line-requires-clause-tied : goal.ready_line-requires-clause-tied
ready_line-requires-clause-tied c = untied c.args.steps.now.logs.now c.args.steps.now.tied

pub ready_line-requires-clause-cut : goal.ready_line-requires-clause-cut
ready_line-requires-clause-cut c = subst (IsCut c.args.steps.now.logs.now.order) (sym (ap (λ (x : CutState). x.cut) c.from.view_is)) c.requires.cut

pub add_line-requires-clause-next : goal.add_line-requires-clause-next
add_line-requires-clause-next c =
    subst (λ (d : Cut). IsReadyAt c.args.steps.now.logs.now.order d (next d c.args.file)) (ap (λ (x : CutState). x.cut) c.from.view_is) c.in-Some.ensures.0

pub add_line-requires-clause-stands : goal.add_line-requires-clause-stands
add_line-requires-clause-stands c =
    subst (λ (d : Cut). StandsIn c.args.steps.now.logs.now.files.items (next d c.args.file) c.in-Some.line.now) (ap (λ (x : CutState). x.cut) c.from.view_is) c.in-Some.ensures.1

pub returns-in-None-clause-all : goal.returns-in-None-clause-all
returns-in-None-clause-all c =
    let logs = c.args.steps.now.logs.now in
    record {
      gives = not_ready (spoken c.args.steps.now) logs.files.items logs.order (untied logs c.args.steps.now.tied).made c.args.from.now c.args.file c.args.made.items
          (subst (λ (d : Cut). IsReadyAt logs.order d (next d c.args.file) → ⊥) (ap (λ (x : CutState). x.cut) c.from.view_is) c.in-None.ensures) c.requires.below.gives;
    }
