use Rattle.std.proofs.Common.{◌≡◌, ◌∙◌, ap, false, true, subst}
use Rattle.names_terms.specs.Terms.{Placed}
use Rattle.names_terms.specs.TermViews.{node_view}
use Rattle.names_term_parts.specs.Parts.{part}
use Rattle.names_term_parts.specs.Waiting.{waiting}
use Rattle.names_term_levels.specs.Fairness.{Splits, fair_in, split}
use Rattle.names_term_levels.proofs.Fair.{fair_on, fair_less, fair_off}
use Rattle.names_term_parts.proofs.Lists.{waiting-push}
use Rattle.names_term_levels.proofs.fairness.fair_by.Goals as goal

pub returns-then-not-branch : goal.returns-then-not-branch
returns-then-not-branch c =
    let p = c.in-Some.pending in
    let b : c.in_ok-split.field-0 ≡ false = c.if-not-branch.true in
    ((λ h. absurd (let q : false ≡ true = h in cc)), (λ w. absurd (fair_off c.args.notes.now c.args.term.now (part p.primed p.term.now) c.part.inside.at c.part.inside.level (node_view c.deref.result.now) (waiting c.loop-pending.stack.items) (waiting c.pop.new.self.items) (waiting c.split.new.stack.items) (ap (λ n. Placed c.part.inside.at c.part.inside.level (node_view n)) c.deref.ensures ∙ c.part.view_is) (ap waiting c.in-Some.ensures.items ∙ waiting-push c.pop.new.self.items p) c.loop-pending.invariant (subst (λ y. Splits (split (fair_in c.args.notes.now) (node_view c.deref.result.now)) y (waiting c.pop.new.self.items) (waiting c.split.new.stack.items)) b c.in_ok-split.ensures) w)))

pub loop-pending-smaller : goal.loop-pending-smaller
loop-pending-smaller c =
    let p = c.in-Some.pending in
    let b : c.in_ok-split.field-0 ≡ true = c.if-not-branch.false in
    fair_less c.args.notes.now c.args.term.now (part p.primed p.term.now) c.part.inside.at c.part.inside.level (node_view c.deref.result.now) (waiting c.loop-pending.stack.items) (waiting c.pop.new.self.items) (waiting c.split.new.stack.items) (ap (λ n. Placed c.part.inside.at c.part.inside.level (node_view n)) c.deref.ensures ∙ c.part.view_is) (ap waiting c.in-Some.ensures.items ∙ waiting-push c.pop.new.self.items p) c.loop-pending.invariant (subst (λ y. Splits (split (fair_in c.args.notes.now) (node_view c.deref.result.now)) y (waiting c.pop.new.self.items) (waiting c.split.new.stack.items)) b c.in_ok-split.ensures)

pub loop-pending-preserved : goal.loop-pending-preserved
loop-pending-preserved c =
    let p = c.in-Some.pending in
    let b : c.in_ok-split.field-0 ≡ true = c.if-not-branch.false in
    fair_on c.args.notes.now c.args.term.now (part p.primed p.term.now) c.part.inside.at c.part.inside.level (node_view c.deref.result.now) (waiting c.loop-pending.stack.items) (waiting c.pop.new.self.items) (waiting c.split.new.stack.items) (ap (λ n. Placed c.part.inside.at c.part.inside.level (node_view n)) c.deref.ensures ∙ c.part.view_is) (ap waiting c.in-Some.ensures.items ∙ waiting-push c.pop.new.self.items p) c.loop-pending.invariant (subst (λ y. Splits (split (fair_in c.args.notes.now) (node_view c.deref.result.now)) y (waiting c.pop.new.self.items) (waiting c.split.new.stack.items)) b c.in_ok-split.ensures)
