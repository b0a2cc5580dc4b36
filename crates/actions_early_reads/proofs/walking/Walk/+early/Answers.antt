use Rattle.std.proofs.Common.{◌≡◌, ◌∙◌, ◌∷◌, [], ap, sym, rules, false}
use Rattle.names_terms.specs.Terms.{Placed}
use Rattle.names_terms.specs.TermViews.{node_view}
use Rattle.names_term_parts.specs.Parts.{part}
use Rattle.names_term_parts.specs.Waiting.{waiting}
use Rattle.names_term_parts.proofs.Lists.{waiting-push}
use Rattle.actions_early_reads.specs.Sets.{shown}
use Rattle.actions_early_reads.specs.Opened.{TellsFirst}
use Rattle.actions_early_reads.specs.Ready.{TellsEarly}
use Rattle.actions_early_reads.proofs.Found.{if-ok}
use Rattle.actions_early_reads.proofs.Opening.{opens-plain, opens-variable, opens-unchanged, opens-use, opens-box, opens-angle, opens-except}
use Rattle.actions_early_reads.proofs.Way.{body-some, early-begins, early-ends, early-one, early-left-lighter, early-passes, early-lighter, early-goes}
use Rattle.actions_early_reads.proofs.Walked.{body-anywhere, body-noted, noted-known}
use Rattle.actions_early_reads.proofs.walking.Walk.+early.Goals as goal

pub early_rest-loop-pending-smaller-then-not-is_taken : goal.early_rest-loop-pending-smaller-then-not-is_taken
early_rest-loop-pending-smaller-then-not-is_taken t c =
    let p = c.in-Some.pending in
    early-left-lighter c.args.self.now c.args.bound (shown c.args.before) (waiting c.args.stack.items) (part p.primed p.term.now) c.part.inside.at c.part.inside.level (node_view c.part.inside.node.value) c.loop-pending.found (waiting c.loop-pending.stack.items) (waiting c.pop.new.self.items) c.part.view_is (ap waiting c.in-Some.ensures.items ∙ waiting-push c.pop.new.self.items p) c.loop-pending.invariant.0

pub early_rest-loop-pending-preserved-then-not-is_taken : goal.early_rest-loop-pending-preserved-then-not-is_taken
early_rest-loop-pending-preserved-then-not-is_taken t c =
    let p = c.in-Some.pending in
    (early-passes c.args.self.now c.args.bound (shown c.args.before) (waiting c.args.stack.items) (part p.primed p.term.now) c.part.inside.at c.part.inside.level (node_view c.part.inside.node.value) c.loop-pending.found (waiting c.loop-pending.stack.items) (waiting c.pop.new.self.items) c.part.view_is (ap waiting c.in-Some.ensures.items ∙ waiting-push c.pop.new.self.items p) c.loop-pending.invariant.0 (sym c.is_taken.ensures ∙ c.if-not-is_taken.true), c.loop-pending.invariant.1)

pub early_rest-loop-pending-smaller : goal.early_rest-loop-pending-smaller
early_rest-loop-pending-smaller t c =
    let p = c.in-Some.pending in
    early-lighter c.args.self.now c.args.bound (shown c.args.before) (waiting c.args.stack.items) (part p.primed p.term.now) c.part.inside.at c.part.inside.level (node_view c.deref.result.now) c.loop-pending.found (waiting c.loop-pending.stack.items) (waiting c.pop.new.self.items) (ap (λ n. Placed c.part.inside.at c.part.inside.level (node_view n)) c.deref.ensures ∙ c.part.view_is) (ap waiting c.in-Some.ensures.items ∙ waiting-push c.pop.new.self.items p) c.loop-pending.invariant.0 c.in_ok-found.found (waiting c.early_row.new.stack.items) (sym c.is_taken.ensures ∙ c.if-not-is_taken.false) c.in_ok-found.ensures.tells

pub early_rest-loop-pending-preserved : goal.early_rest-loop-pending-preserved
early_rest-loop-pending-preserved t c =
    let p = c.in-Some.pending in
    (early-goes c.args.self.now c.args.bound (shown c.args.before) (waiting c.args.stack.items) (part p.primed p.term.now) c.part.inside.at c.part.inside.level (node_view c.deref.result.now) c.loop-pending.found (waiting c.loop-pending.stack.items) (waiting c.pop.new.self.items) (ap (λ n. Placed c.part.inside.at c.part.inside.level (node_view n)) c.deref.ensures ∙ c.part.view_is) (ap waiting c.in-Some.ensures.items ∙ waiting-push c.pop.new.self.items p) c.loop-pending.invariant.0 c.in_ok-found.found (waiting c.early_row.new.stack.items) (sym c.is_taken.ensures ∙ c.if-not-is_taken.false) c.in_ok-found.ensures.tells, c.in_ok-found.ensures.known)

pub early_rest-loop-pending-init : goal.early_rest-loop-pending-init
early_rest-loop-pending-init t c = (early-begins c.args.self.now c.args.bound (shown c.args.before) (waiting c.args.stack.items), c.requires.known)

pub early_rest-returns-clause-tells : goal.early_rest-returns-clause-tells
early_rest-returns-clause-tells t c = early-ends c.args.self.now c.args.bound (shown c.args.before) (waiting c.args.stack.items) c.loop-pending.found (waiting c.loop-pending.stack.items) (search rules) c.loop-pending.invariant.0

pub early_in-returns-clause-tells : goal.early_in-returns-clause-tells
early_in-returns-clause-tells t c =
    let pushed : waiting c.push.new.stack.items ≡ part false c.args.term.now ∷ [] = search rules in
    if-ok c.early_rest.result (λ o. TellsFirst c.args.self.now c.args.bound (shown c.args.before) (waiting c.push.new.stack.items) o) (λ o. TellsEarly c.args.self.now c.args.bound (shown c.args.before) c.args.term.now o)
    (λ o h. early-one c.args.self.now c.args.bound (shown c.args.before) c.args.term.now (waiting c.push.new.stack.items) o pushed h) c.early_rest.ensures.tells

pub early_row-returns-in-Variable-clause-tells : goal.early_row-returns-in-Variable-clause-tells
early_row-returns-in-Variable-clause-tells t c = opens-variable c.args.self.now c.args.bound (shown c.args.before) c.args.at (node_view c.args.node.now) c.in-Variable.variable c.early_variable-own.result c.args.found c.or_else.result (waiting c.args.stack.now.items) c.in-Variable.ensures c.early_variable-own.ensures c.or_else.ensures

pub early_row-returns-in_ok-push_terms-in-Use-clause-tells : goal.early_row-returns-in_ok-push_terms-in-Use-clause-tells
early_row-returns-in_ok-push_terms-in-Use-clause-tells t c = opens-use c.args.self.now c.args.bound (shown c.args.before) c.args.at (node_view c.args.node.now) c.in-Use.number c.in-Use.terms.now c.in_ok-own-in-Use.own c.args.found c.or_else-in-Use.result (waiting c.args.stack.now.items) (waiting c.push_terms.new.stack.items) c.in-Use.ensures c.in_ok-own-in-Use.ensures.tells c.in_ok-push_terms-in-Use.ensures c.or_else-in-Use.ensures

pub early_row-returns-in_ok-own-in-Unchanged-clause-tells : goal.early_row-returns-in_ok-own-in-Unchanged-clause-tells
early_row-returns-in_ok-own-in-Unchanged-clause-tells t c = opens-unchanged c.args.self.now c.args.bound (shown c.args.before) c.args.at (node_view c.args.node.now) c.in-Unchanged.term.now c.in_ok-own-in-Unchanged.own c.args.found c.or_else-in-Unchanged.result (waiting c.args.stack.now.items) c.in-Unchanged.ensures c.in_ok-own-in-Unchanged.ensures c.or_else-in-Unchanged.ensures

pub early_row-returns-in_ok-push_except-in-Except-clause-tells : goal.early_row-returns-in_ok-push_except-in-Except-clause-tells
early_row-returns-in_ok-push_except-in-Except-clause-tells t c = opens-except c.args.self.now c.args.bound (shown c.args.before) c.args.at (node_view c.args.node.now) c.in-Except.base.now c.in-Except.changes.now c.args.found (waiting c.args.stack.now.items) (waiting c.push_except.new.stack.items) c.in-Except.ensures c.in_ok-push_except-in-Except.ensures

pub early_row-returns-in_ok-push-in-BoxAction-clause-tells : goal.early_row-returns-in_ok-push-in-BoxAction-clause-tells
early_row-returns-in_ok-push-in-BoxAction-clause-tells t c = opens-box c.args.self.now c.args.bound (shown c.args.before) c.args.at (node_view c.args.node.now) c.in-BoxAction.action.now c.in-BoxAction.subscript.now c.in_ok-own-in-BoxAction.own c.args.found c.or_else-in-BoxAction.result (waiting c.args.stack.now.items) (waiting c.push.new.stack.items) c.in-BoxAction.ensures c.in_ok-own-in-BoxAction.ensures c.in_ok-push-in-BoxAction.ensures c.or_else-in-BoxAction.ensures

pub early_row-returns-in_ok-push-in-AngleAction-clause-tells : goal.early_row-returns-in_ok-push-in-AngleAction-clause-tells
early_row-returns-in_ok-push-in-AngleAction-clause-tells t c = opens-angle c.args.self.now c.args.bound (shown c.args.before) c.args.at (node_view c.args.node.now) c.in-AngleAction.action.now c.in-AngleAction.subscript.now c.in_ok-variable-in-AngleAction.variable c.too_early.result c.args.found c.or_else-in-AngleAction.result (waiting c.args.stack.now.items) (waiting c.push-in-AngleAction.new.stack.items) c.in-AngleAction.ensures (c.in_ok-variable-in-AngleAction.ensures c.args.bound) c.too_early.ensures c.in_ok-push-in-AngleAction.ensures c.or_else-in-AngleAction.ensures

pub early_row-returns-in_ok-push_parts-in-Plain-clause-tells : goal.early_row-returns-in_ok-push_parts-in-Plain-clause-tells
early_row-returns-in_ok-push_parts-in-Plain-clause-tells t c = opens-plain c.args.self.now c.args.bound (shown c.args.before) c.args.at (node_view c.args.node.now) c.args.found (waiting c.args.stack.now.items) (waiting c.push_parts.new.stack.items) c.in-Plain.ensures c.in_ok-push_parts-in-Plain.ensures

pub early_body-returns-in-Some-clause-tells : goal.early_body-returns-in-Some-clause-tells
early_body-returns-in-Some-clause-tells t c = c.requires.known.each c.args.number c.in-Some.found (sym c.of.ensures ∙ c.in-Some.is) c.args.bound

pub unknown_body-returns-in-Ok-clause-tells : goal.unknown_body-returns-in-Ok-clause-tells
unknown_body-returns-in-Ok-clause-tells t c =
    body-noted c.args.self.now c.args.bound (shown c.args.before) c.args.number c.in-Ok.found c.noted.result (body-some c.args.self.now c.args.bound (shown c.args.before) c.args.number c.in-Some.operator.now c.in-Ok.found c.requires.below (sym c.in-Some.ensures.item) c.in-Ok.ensures.tells) c.noted.ensures.given

pub unknown_body-returns-in-Ok-clause-known : goal.unknown_body-returns-in-Ok-clause-known
unknown_body-returns-in-Ok-clause-known t c =
    noted-known c.args.self.now (shown c.args.before) c.args.number c.in-Ok.found c.early_in.new.known c.noted.new.self c.noted.result c.noted.ensures.noted c.in-Ok.ensures.known (body-anywhere c.args.self.now (shown c.args.before) c.args.number c.in-Some.operator.now c.in-Ok.found (sym c.in-Some.ensures.item) c.in-Ok.ensures.tells)
