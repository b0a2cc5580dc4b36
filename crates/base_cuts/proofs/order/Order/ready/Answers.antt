use Rattle.std.proofs.Common.{ap, sym, ◌∙◌, subst}
use Rattle.base_cuts.specs.Orders.{IsCut, IsMade, Order}
use Rattle.base_cuts.specs.Views.{logs_of, order_of}
use Rattle.base_cuts.proofs.Answered.{ready_by_clock, ready_by_vectors, ready_in_sequence}
use Rattle.base_cuts.proofs.Starting.{total_short}
use Rattle.base_cuts.proofs.order.Order.ready.Goals as goal

pub stands_next-requires : goal.stands_next-requires
stands_next-requires c =
    let same = sym c.self.view_is ∙ ap order_of c.in-InSequence.is in
    total_short c.in-InSequence.field-0 c.in-InSequence.lines.items (subst IsMade same c.requires.made) c.args.cut.now (subst (λ (o : Order). IsCut o c.args.cut.now) same c.requires.cut)

pub returns-in-InSequence : goal.returns-in-InSequence
returns-in-InSequence c =
    ready_in_sequence c.args.self.now c.in-InSequence.field-0 c.in-InSequence.lines.items (ap order_of (sym c.in-InSequence.is) ∙ c.self.view_is) c.requires.made c.args.cut.now c.requires.cut c.args.file
    c.stands_next.result c.stands_next.ensures

pub returns-in-ByClock : goal.returns-in-ByClock
returns-in-ByClock c =
    ready_by_clock c.args.self.now (logs_of c.in-ByClock.clocks.items) (ap order_of (sym c.in-ByClock.is) ∙ c.self.view_is) c.requires.made c.args.cut.now c.requires.cut c.args.file
    c.is_least.result c.is_least.ensures

pub returns-in-ByVectors : goal.returns-in-ByVectors
returns-in-ByVectors c =
    ready_by_vectors c.args.self.now (logs_of c.in-ByVectors.vectors.items) (ap order_of (sym c.in-ByVectors.is) ∙ c.self.view_is) c.requires.made c.args.cut.now c.requires.cut c.args.file
    c.is_least-in-ByVectors.result c.is_least-in-ByVectors.ensures
