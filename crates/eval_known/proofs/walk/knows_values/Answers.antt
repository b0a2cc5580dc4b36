use Rattle.std.proofs.Common.{◌∙◌, ap, sym}
use Rattle.names_terms.specs.Terms.{Placed}
use Rattle.names_terms.specs.TermViews.{node_view}
use Rattle.names_term_parts.specs.Parts.{part}
use Rattle.names_term_parts.specs.Waiting.{waiting}
use Rattle.names_term_parts.proofs.Lists.{waiting-push}
use Rattle.eval_known.proofs.Way.{way-on, way-less}
use Rattle.eval_known.proofs.walk.knows_values.Goals as goal

pub loop-pending-smaller : goal.loop-pending-smaller
loop-pending-smaller c =
    let p = c.in-Some.pending in
    way-less (part p.primed p.term.now) c.part.inside.at c.part.inside.level (node_view c.deref-node.result.now) (waiting c.loop-pending.stack.items) (waiting c.pop.new.self.items) (waiting c.push_parts.new.stack.items) (sym (ap (λ n. Placed c.part.inside.at c.part.inside.level (node_view n)) c.deref-node.ensures ∙ c.part.view_is)) (ap waiting c.in-Some.ensures.items ∙ waiting-push c.pop.new.self.items p) c.in_ok-push_parts.ensures

pub loop-pending-preserved : goal.loop-pending-preserved
loop-pending-preserved c =
    let p = c.in-Some.pending in
    way-on c.args.term.now (part p.primed p.term.now) c.part.inside.at c.part.inside.level (node_view c.deref-node.result.now) (waiting c.loop-pending.stack.items) (waiting c.pop.new.self.items) (waiting c.push_parts.new.stack.items) (sym (ap (λ n. Placed c.part.inside.at c.part.inside.level (node_view n)) c.deref-node.ensures ∙ c.part.view_is)) (ap waiting c.in-Some.ensures.items ∙ waiting-push c.pop.new.self.items p) c.knows_own.ensures c.in_ok-push_parts.ensures c.loop-pending.invariant
