use Rattle.std.proofs.Common.{◌∙◌, ap, sym, rules}
use Rattle.names_terms.specs.Terms.{Placed}
use Rattle.names_terms.specs.TermViews.{node_view}
use Rattle.names_term_parts.specs.Parts.{part}
use Rattle.names_term_parts.specs.Waiting.{waiting}
use Rattle.names_term_parts.proofs.Lists.{waiting-push}
use Rattle.actions_early_reads.specs.Sets.{shown}
use Rattle.actions_early_reads.proofs.Found.{left-lighter, way-passes, way-lighter, way-goes, way-ends}
use Rattle.actions_early_reads.proofs.reading.reads_all.Goals as goal

pub loop-pending-smaller-then-is_constant : goal.loop-pending-smaller-then-is_constant
loop-pending-smaller-then-is_constant c =
    let p = c.in-Some.pending in
    left-lighter c.args.kept.now (waiting c.args.stack.items) (part p.primed p.term.now) c.part.inside.at c.part.inside.level (node_view c.part.inside.node.value) (shown c.loop-pending.found) (waiting c.loop-pending.stack.items) (waiting c.pop.new.self.items) c.part.view_is (ap waiting c.in-Some.ensures.items ∙ waiting-push c.pop.new.self.items p) c.loop-pending.invariant

pub loop-pending-preserved-then-is_constant : goal.loop-pending-preserved-then-is_constant
loop-pending-preserved-then-is_constant c =
    let p = c.in-Some.pending in
    way-passes c.args.kept.now (waiting c.args.stack.items) (part p.primed p.term.now) c.part.inside.at c.part.inside.level (node_view c.part.inside.node.value) (shown c.loop-pending.found) (waiting c.loop-pending.stack.items) (waiting c.pop.new.self.items) c.part.view_is (ap waiting c.in-Some.ensures.items ∙ waiting-push c.pop.new.self.items p) c.loop-pending.invariant (sym c.is_constant.ensures ∙ c.if-is_constant.true)

pub loop-pending-smaller : goal.loop-pending-smaller
loop-pending-smaller c =
    let p = c.in-Some.pending in
    way-lighter c.args.kept.now (waiting c.args.stack.items) (part p.primed p.term.now) c.part.inside.at c.part.inside.level (node_view c.deref-node.result.now) (shown c.loop-pending.found) (waiting c.loop-pending.stack.items) (waiting c.pop.new.self.items) (ap (λ n. Placed c.part.inside.at c.part.inside.level (node_view n)) c.deref-node.ensures ∙ c.part.view_is) (ap waiting c.in-Some.ensures.items ∙ waiting-push c.pop.new.self.items p) c.loop-pending.invariant (shown c.own_reads-own.result) (shown c.united-found.result) (waiting c.push_parts.new.stack.items) (sym c.is_constant.ensures ∙ c.if-is_constant.false) c.own_reads-own.ensures c.united-found.ensures c.in_ok-push_parts.ensures

pub loop-pending-preserved : goal.loop-pending-preserved
loop-pending-preserved c =
    let p = c.in-Some.pending in
    way-goes c.args.kept.now (waiting c.args.stack.items) (part p.primed p.term.now) c.part.inside.at c.part.inside.level (node_view c.deref-node.result.now) (shown c.loop-pending.found) (waiting c.loop-pending.stack.items) (waiting c.pop.new.self.items) (ap (λ n. Placed c.part.inside.at c.part.inside.level (node_view n)) c.deref-node.ensures ∙ c.part.view_is) (ap waiting c.in-Some.ensures.items ∙ waiting-push c.pop.new.self.items p) c.loop-pending.invariant (shown c.own_reads-own.result) (shown c.united-found.result) (waiting c.push_parts.new.stack.items) (sym c.is_constant.ensures ∙ c.if-is_constant.false) c.own_reads-own.ensures c.united-found.ensures c.in_ok-push_parts.ensures

pub returns : goal.returns
returns c = way-ends c.args.kept.now (waiting c.args.stack.items) (shown c.loop-pending.found) (waiting c.loop-pending.stack.items) (search rules) c.loop-pending.invariant
