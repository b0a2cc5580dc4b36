use Rattle.std.proofs.Common.{ap, sym, ◌∙◌}
use Rattle.base_cuts.specs.Orders.{by_clock, by_vectors, in_sequence, none_of}
use Rattle.base_cuts.specs.Views.{logs_of, order_of}
use Rattle.base_cuts.proofs.Answered.{starts}
use Rattle.base_cuts.proofs.Starting.{start_by_clock, start_by_vectors, start_in_sequence}
use Rattle.base_cuts.proofs.order.Order.start.Goals as goal

pub returns-in-InSequence : goal.returns-in-InSequence
returns-in-InSequence c =
    starts c.none.result (none_of c.in-InSequence.files) (in_sequence c.in-InSequence.files c.in-InSequence.field-1.items) c.args.self.now c.none.ensures
    (start_in_sequence c.in-InSequence.files c.in-InSequence.field-1.items) (ap order_of (sym c.in-InSequence.is) ∙ c.self.view_is)

pub returns-in-ByClock : goal.returns-in-ByClock
returns-in-ByClock c =
    starts c.none-in-ByClock.result (none_of c.len.result) (by_clock (logs_of c.in-ByClock.clocks.items)) c.args.self.now c.none-in-ByClock.ensures
    (ap none_of (c.len.ensures ∙ c.in-ByClock.clocks.ok.0) ∙ start_by_clock c.in-ByClock.clocks.items) (ap order_of (sym c.in-ByClock.is) ∙ c.self.view_is)

pub returns-in-ByVectors : goal.returns-in-ByVectors
returns-in-ByVectors c =
    starts c.none-in-ByVectors.result (none_of c.len-in-ByVectors.result) (by_vectors (logs_of c.in-ByVectors.vectors.items)) c.args.self.now c.none-in-ByVectors.ensures
    (ap none_of (c.len-in-ByVectors.ensures ∙ c.in-ByVectors.vectors.ok.0) ∙ start_by_vectors c.in-ByVectors.vectors.items) (ap order_of (sym c.in-ByVectors.is) ∙ c.self.view_is)
