use Rattle.std.proofs.Common.{◌≡◌, ◌∙◌, ap, sym, [], false, true}
use Rattle.names_terms.specs.Terms.{Placed}
use Rattle.names_terms.specs.TermViews.{node_view}
use Rattle.names_term_parts.specs.Parts.{part}
use Rattle.names_term_parts.specs.Waiting.{waiting}
use Rattle.names_term_parts.proofs.Below.{below_off, below_less, below_on}
use Rattle.names_term_parts.proofs.Lists.{waiting-push}
use Rattle.names_term_parts.proofs.ordered.mentions_below.Goals as goal

pub returns-then-not-is_own_below : goal.returns-then-not-is_own_below
returns-then-not-is_own_below c =
    let p = c.in-Some.pending in
    ((λ h. absurd (let q : false ≡ true = h in cc)), (λ w. absurd (below_off c.args.count c.args.term.now (part p.primed p.term.now) c.part.inside.at c.part.inside.level (node_view c.deref-node.result.now) (waiting c.loop-pending.stack.items) (waiting c.pop.new.self.items) [] (ap (λ n. Placed c.part.inside.at c.part.inside.level (node_view n)) c.deref-node.ensures ∙ c.part.view_is) (ap waiting c.in-Some.ensures.items ∙ waiting-push c.pop.new.self.items p) c.loop-pending.invariant (λ own. let q : false ≡ true = sym c.if-not-is_own_below.true ∙ c.is_own_below.ensures.1 own in absurd (cc)) w)))

pub loop-pending-smaller : goal.loop-pending-smaller
loop-pending-smaller c =
    let p = c.in-Some.pending in
    below_less c.args.count c.args.term.now (part p.primed p.term.now) c.part.inside.at c.part.inside.level (node_view c.deref-node.result.now) (waiting c.loop-pending.stack.items) (waiting c.pop.new.self.items) (waiting c.push_parts.new.stack.items) (ap (λ n. Placed c.part.inside.at c.part.inside.level (node_view n)) c.deref-node.ensures ∙ c.part.view_is) (ap waiting c.in-Some.ensures.items ∙ waiting-push c.pop.new.self.items p) c.loop-pending.invariant c.in_ok-push_parts.ensures

pub loop-pending-preserved : goal.loop-pending-preserved
loop-pending-preserved c =
    let p = c.in-Some.pending in
    below_on c.args.count c.args.term.now (part p.primed p.term.now) c.part.inside.at c.part.inside.level (node_view c.deref-node.result.now) (waiting c.loop-pending.stack.items) (waiting c.pop.new.self.items) (waiting c.push_parts.new.stack.items) (ap (λ n. Placed c.part.inside.at c.part.inside.level (node_view n)) c.deref-node.ensures ∙ c.part.view_is) (ap waiting c.in-Some.ensures.items ∙ waiting-push c.pop.new.self.items p) c.loop-pending.invariant c.in_ok-push_parts.ensures (c.is_own_below.ensures.0 c.if-not-is_own_below.false)
