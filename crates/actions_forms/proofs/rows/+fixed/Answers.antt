use Rattle.std.proofs.Common.{◌≤◌, ◌+◌, ◌∙◌, Err, List, Ok, ap, arith, map, rules, subst, sym}
use Rattle.names_terms.specs.Terms.{Placed}
use Rattle.reading_trees.specs.declared.operators.PrefixOperator.TheVariants as prefix
use Rattle.reading_trees.specs.declared.operators.Quantifier.TheVariants as quantifier
use Rattle.names_terms.specs.Terms as term
use Rattle.names_terms.specs.TermViews.{node_view}
use Rattle.names_term_parts.specs.Weights.{weight, in_terms, in_arms}
use Rattle.actions_meanings.specs.Outcomes.{together}
use Rattle.actions_early_reads.specs.Weight.{weights}
use Rattle.actions_early_reads.specs.Ready.{table_of}
use Rattle.actions_early_reads.specs.Sets.{shown}
use Rattle.actions_early_reads.proofs.Heights.{weights-fall}
use Rattle.actions_early_reads.proofs.Staying.{item-weight}
use Rattle.actions_forms.specs.declared.arms.Arm.{Arm as Ended}
use Rattle.actions_forms.specs.Arms.{arm_of}
use Rattle.actions_forms.specs.Says.{ForkStops, IsFork, Says}
use Rattle.actions_forms.proofs.Opened.{given-row, kind-fixed, test-fixed}
use Rattle.actions_forms.proofs.Ordering.{body-some, call-row, call-stop, exists-row, exists-stop, order-begin, order-end, order-next, order-stop, parenthesized-row, scoped-row}
use Rattle.actions_forms.proofs.Armed.{angle-read, angle-row, arms-begin, arms-next, arms-stop, box-row, box-second}
use Rattle.actions_forms.proofs.Cased.{arm-weight, case-begin, case-early, case-next, case-row, case-row-stop, case-stop, other-last, other-row, other-stop}
use Rattle.actions_forms.proofs.Forked.{branch-end, branch-next, branch-stop, last-closed, last-stops}
use Rattle.actions_forms.proofs.Kept.{unchanged-row}
use Rattle.actions_forms.proofs.Known.{body-known, body-noted, noted-remembers}
use Rattle.actions_forms.proofs.rows.+fixed.Goals as goal

pub fixed_in-returns-in-Test-clause-says : goal.fixed_in-returns-in-Test-clause-says
fixed_in-returns-in-Test-clause-says t c =
    test-fixed c.args.walk.now c.args.bound (shown c.args.before) c.args.term.now c.term.inside.at c.term.inside.level (node_view c.deref.result.now) c.tested-in-Test.result (ap (λ n. Placed c.term.inside.at c.term.inside.level (node_view n)) c.deref.ensures ∙ c.term.view_is) c.in-Test.ensures c.tested-in-Test.ensures

pub fixed_in-returns-in-Given-clause-says : goal.fixed_in-returns-in-Given-clause-says
fixed_in-returns-in-Given-clause-says t c =
    kind-fixed c.args.walk.now c.args.bound (shown c.args.before) c.args.term.now c.term.inside.at c.term.inside.level (node_view c.deref.result.now) (term.Infix c.in-Given.operator (term.First c.in-Given.left.now) c.in-Given.value.now) c.given.result (ap (λ n. Placed c.term.inside.at c.term.inside.level (node_view n)) c.deref.ensures ∙ c.term.view_is) (sym c.is_taken.ensures ∙ c.if-not-is_taken.false) c.in-Given.ensures.0 (given-row c.args.walk.now c.args.bound (shown c.args.before) c.in-Given.operator c.in-Given.variable c.in-Given.left.now c.in-Given.value.now c.given.result c.in-Given.ensures.1 c.in-Given.ensures.2 c.given.ensures c.term.inside.at)

pub fixed_in-returns-in-Both-clause-says : goal.fixed_in-returns-in-Both-clause-says
fixed_in-returns-in-Both-clause-says t c =
    kind-fixed c.args.walk.now c.args.bound (shown c.args.before) c.args.term.now c.term.inside.at c.term.inside.level (node_view c.deref.result.now) (term.All c.in-Both.terms.now) c.in_order.result (ap (λ n. Placed c.term.inside.at c.term.inside.level (node_view n)) c.deref.ensures ∙ c.term.view_is) (sym c.is_taken.ensures ∙ c.if-not-is_taken.false) c.in-Both.ensures (c.in_order.ensures.says c.term.inside.at)

pub fixed_in-returns-in-OneOf-clause-says : goal.fixed_in-returns-in-OneOf-clause-says
fixed_in-returns-in-OneOf-clause-says t c =
    kind-fixed c.args.walk.now c.args.bound (shown c.args.before) c.args.term.now c.term.inside.at c.term.inside.level (node_view c.deref.result.now) (term.Any c.in-OneOf.terms.now) c.one_of.result (ap (λ n. Placed c.term.inside.at c.term.inside.level (node_view n)) c.deref.ensures ∙ c.term.view_is) (sym c.is_taken.ensures ∙ c.if-not-is_taken.false) c.in-OneOf.ensures (c.one_of.ensures.says c.term.inside.at)

pub fixed_in-returns-in-Exists-clause-says : goal.fixed_in-returns-in-Exists-clause-says
fixed_in-returns-in-Exists-clause-says t c =
    kind-fixed c.args.walk.now c.args.bound (shown c.args.before) c.args.term.now c.term.inside.at c.term.inside.level (node_view c.deref.result.now) (term.Quantified quantifier.Exists c.in-Exists.bounds.now c.in-Exists.body.now) c.exists.result (ap (λ n. Placed c.term.inside.at c.term.inside.level (node_view n)) c.deref.ensures ∙ c.term.view_is) (sym c.is_taken.ensures ∙ c.if-not-is_taken.false) c.in-Exists.ensures (c.exists.ensures.says c.term.inside.at)

pub fixed_in-returns-in-Branch-clause-says : goal.fixed_in-returns-in-Branch-clause-says
fixed_in-returns-in-Branch-clause-says t c =
    kind-fixed c.args.walk.now c.args.bound (shown c.args.before) c.args.term.now c.term.inside.at c.term.inside.level (node_view c.deref.result.now) (term.If c.in-Branch.test.now c.in-Branch.then.now c.in-Branch.other.now) c.conditional.result (ap (λ n. Placed c.term.inside.at c.term.inside.level (node_view n)) c.deref.ensures ∙ c.term.view_is) (sym c.is_taken.ensures ∙ c.if-not-is_taken.false) c.in-Branch.ensures (c.conditional.ensures.says c.term.inside.at)

pub fixed_in-returns-in-Case-clause-says : goal.fixed_in-returns-in-Case-clause-says
fixed_in-returns-in-Case-clause-says t c =
    kind-fixed c.args.walk.now c.args.bound (shown c.args.before) c.args.term.now c.term.inside.at c.term.inside.level (node_view c.deref.result.now) (term.Case c.in-Case.arms.now) c.case.result (ap (λ n. Placed c.term.inside.at c.term.inside.level (node_view n)) c.deref.ensures ∙ c.term.view_is) (sym c.is_taken.ensures ∙ c.if-not-is_taken.false) c.in-Case.ensures (c.case.ensures.says c.term.inside.at)

pub fixed_in-returns-in-CaseOther-clause-says : goal.fixed_in-returns-in-CaseOther-clause-says
fixed_in-returns-in-CaseOther-clause-says t c =
    kind-fixed c.args.walk.now c.args.bound (shown c.args.before) c.args.term.now c.term.inside.at c.term.inside.level (node_view c.deref.result.now) (term.CaseOther c.in-CaseOther.arms.now c.in-CaseOther.other.now) c.case_other.result (ap (λ n. Placed c.term.inside.at c.term.inside.level (node_view n)) c.deref.ensures ∙ c.term.view_is) (sym c.is_taken.ensures ∙ c.if-not-is_taken.false) c.in-CaseOther.ensures (c.case_other.ensures.says c.term.inside.at)

pub fixed_in-returns-in-Scoped-clause-says : goal.fixed_in-returns-in-Scoped-clause-says
fixed_in-returns-in-Scoped-clause-says t c =
    kind-fixed c.args.walk.now c.args.bound (shown c.args.before) c.args.term.now c.term.inside.at c.term.inside.level (node_view c.deref.result.now) (term.Scoped c.in-Scoped.definitions.now c.in-Scoped.inner.now) c.fixed_in.result (ap (λ n. Placed c.term.inside.at c.term.inside.level (node_view n)) c.deref.ensures ∙ c.term.view_is) (sym c.is_taken.ensures ∙ c.if-not-is_taken.false) c.in-Scoped.ensures (scoped-row c.args.walk.now c.args.bound (shown c.args.before) c.in-Scoped.definitions.now c.in-Scoped.inner.now c.fixed_in.result c.fixed_in.ensures.says c.term.inside.at)

pub fixed_in-returns-in-Parenthesized-clause-says : goal.fixed_in-returns-in-Parenthesized-clause-says
fixed_in-returns-in-Parenthesized-clause-says t c =
    kind-fixed c.args.walk.now c.args.bound (shown c.args.before) c.args.term.now c.term.inside.at c.term.inside.level (node_view c.deref.result.now) (term.Parenthesized c.in-Parenthesized.inner.now) c.fixed_in-in-Parenthesized.result (ap (λ n. Placed c.term.inside.at c.term.inside.level (node_view n)) c.deref.ensures ∙ c.term.view_is) (sym c.is_taken.ensures ∙ c.if-not-is_taken.false) c.in-Parenthesized.ensures (parenthesized-row c.args.walk.now c.args.bound (shown c.args.before) c.in-Parenthesized.inner.now c.fixed_in-in-Parenthesized.result c.fixed_in-in-Parenthesized.ensures.says c.term.inside.at)

pub fixed_in-returns-in-Call-clause-says : goal.fixed_in-returns-in-Call-clause-says
fixed_in-returns-in-Call-clause-says t c =
    kind-fixed c.args.walk.now c.args.bound (shown c.args.before) c.args.term.now c.term.inside.at c.term.inside.level (node_view c.deref.result.now) (term.Use c.in-Call.number c.in-Call.terms.now) c.call.result (ap (λ n. Placed c.term.inside.at c.term.inside.level (node_view n)) c.deref.ensures ∙ c.term.view_is) (sym c.is_taken.ensures ∙ c.if-not-is_taken.false) c.in-Call.ensures (c.call.ensures.says c.term.inside.at)

pub fixed_in-returns-in-BoxAction-clause-says : goal.fixed_in-returns-in-BoxAction-clause-says
fixed_in-returns-in-BoxAction-clause-says t c =
    kind-fixed c.args.walk.now c.args.bound (shown c.args.before) c.args.term.now c.term.inside.at c.term.inside.level (node_view c.deref.result.now) (term.BoxAction c.in-BoxAction.action.now c.in-BoxAction.subscript.now) c.box_action.result (ap (λ n. Placed c.term.inside.at c.term.inside.level (node_view n)) c.deref.ensures ∙ c.term.view_is) (sym c.is_taken.ensures ∙ c.if-not-is_taken.false) c.in-BoxAction.ensures c.box_action.ensures.says

pub fixed_in-returns-in-AngleAction-clause-says : goal.fixed_in-returns-in-AngleAction-clause-says
fixed_in-returns-in-AngleAction-clause-says t c =
    kind-fixed c.args.walk.now c.args.bound (shown c.args.before) c.args.term.now c.term.inside.at c.term.inside.level (node_view c.deref.result.now) (term.AngleAction c.in-AngleAction.action.now c.in-AngleAction.subscript.now) c.angle_action.result (ap (λ n. Placed c.term.inside.at c.term.inside.level (node_view n)) c.deref.ensures ∙ c.term.view_is) (sym c.is_taken.ensures ∙ c.if-not-is_taken.false) c.in-AngleAction.ensures c.angle_action.ensures.says

pub fixed_in-returns-in-Unchanged-clause-says : goal.fixed_in-returns-in-Unchanged-clause-says
fixed_in-returns-in-Unchanged-clause-says t c =
    kind-fixed c.args.walk.now c.args.bound (shown c.args.before) c.args.term.now c.term.inside.at c.term.inside.level (node_view c.deref.result.now) (term.Prefix prefix.Unchanged c.in-Unchanged.inner.now) c.unchanged.result (ap (λ n. Placed c.term.inside.at c.term.inside.level (node_view n)) c.deref.ensures ∙ c.term.view_is) (sym c.is_taken.ensures ∙ c.if-not-is_taken.false) c.in-Unchanged.ensures (unchanged-row c.args.walk.now c.args.bound (shown c.args.before) c.term.inside.at c.in-Unchanged.inner.now c.unchanged.result c.unchanged.ensures)

pub in_order-loop-item-init : goal.in_order-loop-item-init
in_order-loop-item-init t c =
    (order-begin c.args.walk.now c.args.bound (shown c.args.before) c.args.terms.now c.items-items.result.now c.items-items.ensures, c.requires.known)

pub in_order-fixed_in-requires : goal.in_order-fixed_in-requires
in_order-fixed_in-requires t c =
    let lighter : weight c.item-item.result ≤ in_terms c.args.terms.now = item-weight c.items-items.result.now c.args.terms.now c.loop-item.item-index c.item-item.result c.items-items.ensures c.loop-item-test.true c.item-item.is in
    (omega (arith, c.decreases), c.loop-item.invariant.1)

pub in_order-loop-item-preserved : goal.in_order-loop-item-preserved
in_order-loop-item-preserved t c =
    (order-next c.args.walk.now c.args.bound (shown c.args.before) (shown c.loop-item.set) c.args.terms.now c.items-items.result.now c.loop-item.item-index c.item-item.result c.items-items.ensures c.loop-item-test.true c.item-item.is c.loop-item.invariant.0 c.in-Ok.more c.in-Ok.ensures.says, c.in-Ok.ensures.known)

pub in_order-returns-in-Err-clause-says : goal.in_order-returns-in-Err-clause-says
in_order-returns-in-Err-clause-says t c =
    order-stop c.args.walk.now c.args.bound (shown c.args.before) (shown c.loop-item.set) c.args.terms.now c.items-items.result.now c.loop-item.item-index c.item-item.result c.items-items.ensures c.loop-item-test.true c.item-item.is c.loop-item.invariant.0 c.in-Err.fault c.in-Err.ensures.says

pub in_order-returns-clause-says : goal.in_order-returns-clause-says
in_order-returns-clause-says t c =
    order-end c.args.walk.now c.args.bound (shown c.args.before) c.args.terms.now c.items-items.result.now c.loop-item.item-index c.loop-item.set (omega (arith, c.loop-item-test.false)) c.loop-item.invariant.0

pub arms_of-loop-item-init : goal.arms_of-loop-item-init
arms_of-loop-item-init t c =
    (arms-begin c.args.walk.now c.args.bound (shown c.args.before) c.args.terms.now c.items-items.result.now c.new-arms.result.items c.new-arms.ensures.items c.items-items.ensures, c.requires.known)

pub arms_of-fixed_in-requires : goal.arms_of-fixed_in-requires
arms_of-fixed_in-requires t c =
    let lighter : weight c.item-item.result ≤ in_terms c.args.terms.now = item-weight c.items-items.result.now c.args.terms.now c.loop-item.item-index c.item-item.result c.items-items.ensures c.loop-item-test.true c.item-item.is in
    (omega (arith, c.decreases), c.loop-item.invariant.1)

pub arms_of-loop-item-preserved : goal.arms_of-loop-item-preserved
arms_of-loop-item-preserved t c =
    (arms-next c.args.walk.now c.args.bound (shown c.args.before) c.args.terms.now c.items-items.result.now c.loop-item.arms.items c.loop-item.item-index c.item-item.result c.items-items.ensures c.loop-item-test.true c.item-item.is c.loop-item.invariant.0 c.push_arm.new.arms.items c.in-Ok.set c.in_ok-push_arm-in-Ok.ensures c.in-Ok.ensures.says, c.in-Ok.ensures.known)

pub arms_of-returns-in-Err-clause-says : goal.arms_of-returns-in-Err-clause-says
arms_of-returns-in-Err-clause-says t c =
    arms-stop c.args.walk.now c.args.bound (shown c.args.before) c.args.terms.now c.items-items.result.now c.loop-item.arms.items c.loop-item.item-index c.item-item.result c.items-items.ensures c.loop-item-test.true c.item-item.is c.loop-item.invariant.0 c.in-Err.fault c.in-Err.ensures.says

pub exists-returns-in-Ok-clause-says : goal.exists-returns-in-Ok-clause-says
exists-returns-in-Ok-clause-says t c =
    exists-row c.args.walk.now c.args.bound (shown c.args.before) c.args.bounds.now c.args.body.now c.fixed_in.result c.in-Ok.ensures c.fixed_in.ensures.says

pub exists-returns-in-Err-clause-says : goal.exists-returns-in-Err-clause-says
exists-returns-in-Err-clause-says t c =
    exists-stop c.args.walk.now c.args.bound (shown c.args.before) c.args.bounds.now c.args.body.now c.in-Err.fault c.in-Err.ensures

pub call-returns-in-Ok-clause-says : goal.call-returns-in-Ok-clause-says
call-returns-in-Ok-clause-says t c =
    call-row c.args.walk.now c.args.bound (shown c.args.before) c.args.number c.args.terms.now c.body.result c.in-Ok.ensures c.body.ensures.says

pub call-returns-in-Err-clause-says : goal.call-returns-in-Err-clause-says
call-returns-in-Err-clause-says t c =
    call-stop c.args.walk.now c.args.bound (shown c.args.before) c.args.number c.args.terms.now c.in-Err.fault c.in-Err.ensures

pub body-returns-in-Some-clause-says : goal.body-returns-in-Some-clause-says
body-returns-in-Some-clause-says t c = c.requires.known.each (record { number = c.args.number; before = c.args.before; after = c.in-Some.set }) c.in-Some.ensures c.args.bound

pub unknown_body-fixed_in-requires : goal.unknown_body-fixed_in-requires
unknown_body-fixed_in-requires t c =
    let falls : weight c.in-Some.operator.now.body + weights (table_of c.args.walk.now) c.args.number ≤ weights (table_of c.args.walk.now) c.args.bound = weights-fall (table_of c.args.walk.now) c.args.bound c.args.number c.in-Some.operator.now (sym c.in-Some.ensures.item) c.requires.below in
    (omega (arith, c.decreases), c.requires.known)

pub unknown_body-returns-in-Ok-clause-says : goal.unknown_body-returns-in-Ok-clause-says
unknown_body-returns-in-Ok-clause-says t c =
    body-noted c.args.walk.now c.args.bound (shown c.args.before) c.args.number c.in-Ok.after c.noted.result (body-some c.args.walk.now c.args.bound (shown c.args.before) c.args.number c.in-Some.operator.now (Ok c.in-Ok.after) c.requires.below (sym c.in-Some.ensures.item) c.in-Ok.ensures.says) c.noted.ensures.given

pub unknown_body-returns-in-Ok-clause-known : goal.unknown_body-returns-in-Ok-clause-known
unknown_body-returns-in-Ok-clause-known t c =
    noted-remembers c.args.walk.now c.args.number c.args.before c.in-Ok.after c.fixed_in.new.endings c.noted.new.self c.noted.result c.noted.ensures.noted c.in-Ok.ensures.known (body-known c.args.walk.now (shown c.args.before) c.args.number c.in-Some.operator.now (Ok c.in-Ok.after) (sym c.in-Some.ensures.item) c.in-Ok.ensures.says)

pub unknown_body-returns-in-Err-clause-says : goal.unknown_body-returns-in-Err-clause-says
unknown_body-returns-in-Err-clause-says t c =
    body-some c.args.walk.now c.args.bound (shown c.args.before) c.args.number c.in-Some.operator.now (Err c.in-Err.fault) c.requires.below (sym c.in-Some.ensures.item) c.in-Err.ensures.says

pub case-returns-in-Ok-clause-says : goal.case-returns-in-Ok-clause-says
case-returns-in-Ok-clause-says t c =
    case-row c.args.walk.now c.args.bound (shown c.args.before) c.args.arms.now c.in-Ok.ended.items c.together.result c.in-Ok.ensures.says (subst (λ (xs : List Ended). Says c.together.result (together c.args.walk.now.variables (shown c.args.before) (map arm_of xs))) c.deref.ensures.value c.together.ensures)

pub case-returns-in-Err-clause-says : goal.case-returns-in-Err-clause-says
case-returns-in-Err-clause-says t c =
    case-row-stop c.args.walk.now c.args.bound (shown c.args.before) c.args.arms.now c.in-Err.fault c.in-Err.ensures.says

pub case_other-returns-in-Ok-fixed_in-clause-says : goal.case_other-returns-in-Ok-fixed_in-clause-says
case_other-returns-in-Ok-fixed_in-clause-says t c =
    other-row c.args.walk.now c.args.bound (shown c.args.before) c.args.arms.now c.args.other.now c.in-Ok.ended.items c.in-Ok-fixed_in.set c.together_with.result c.in-Ok.ensures.says c.in-Ok-fixed_in.ensures.says c.together_with.ensures

pub case_other-returns-in-Err-fixed_in-clause-says : goal.case_other-returns-in-Err-fixed_in-clause-says
case_other-returns-in-Err-fixed_in-clause-says t c =
    other-last c.args.walk.now c.args.bound (shown c.args.before) c.args.arms.now c.args.other.now c.in-Ok.ended.items c.in-Err-fixed_in.fault c.in-Ok.ensures.says c.in-Err-fixed_in.ensures.says

pub case_other-returns-in-Err-clause-says : goal.case_other-returns-in-Err-clause-says
case_other-returns-in-Err-clause-says t c =
    other-stop c.args.walk.now c.args.bound (shown c.args.before) c.args.arms.now c.args.other.now c.in-Err.fault c.in-Err.ensures.says

pub case_arms-loop-arm-init : goal.case_arms-loop-arm-init
case_arms-loop-arm-init t c =
    (case-begin c.args.walk.now c.args.bound (shown c.args.before) c.args.arms.now c.items-items.result.now c.new-ended.result.items c.new-ended.ensures.items c.items-items.ensures, c.requires.known)

pub case_arms-fixed_in-requires : goal.case_arms-fixed_in-requires
case_arms-fixed_in-requires t c =
    let lighter : weight c.arm-item.result.value ≤ in_arms c.args.arms.now = arm-weight c.items-items.result.now c.args.arms.now c.loop-arm.arm-index c.arm-item.result c.items-items.ensures c.loop-arm-test.true c.arm-item.is in
    (omega (arith, c.decreases), c.loop-arm.invariant.1)

pub case_arms-loop-arm-preserved : goal.case_arms-loop-arm-preserved
case_arms-loop-arm-preserved t c =
    (case-next c.args.walk.now c.args.bound (shown c.args.before) c.args.arms.now c.items-items.result.now c.loop-arm.ended.items c.loop-arm.arm-index c.arm-item.result c.items-items.ensures c.loop-arm-test.true c.arm-item.is c.loop-arm.invariant.0 c.push_arm.new.arms.items c.in-Ok-fixed_in.set c.in-Ok.ensures c.in-Ok-fixed_in.ensures.says c.in_ok-push_arm-in-Ok-fixed_in.ensures, c.in-Ok-fixed_in.ensures.known)

pub case_arms-returns-in-Err-clause-says : goal.case_arms-returns-in-Err-clause-says
case_arms-returns-in-Err-clause-says t c =
    case-early c.args.walk.now c.args.bound (shown c.args.before) c.args.arms.now c.items-items.result.now c.loop-arm.ended.items c.loop-arm.arm-index c.arm-item.result c.items-items.ensures c.loop-arm-test.true c.arm-item.is c.loop-arm.invariant.0 c.in-Err.fault c.in-Err.ensures

pub case_arms-returns-in-Err-fixed_in-clause-says : goal.case_arms-returns-in-Err-fixed_in-clause-says
case_arms-returns-in-Err-fixed_in-clause-says t c =
    case-stop c.args.walk.now c.args.bound (shown c.args.before) c.args.arms.now c.items-items.result.now c.loop-arm.ended.items c.loop-arm.arm-index c.arm-item.result c.items-items.ensures c.loop-arm-test.true c.arm-item.is c.loop-arm.invariant.0 c.in-Err-fixed_in.fault c.in-Ok.ensures c.in-Err-fixed_in.ensures.says

pub box_action-returns-in-Ok-unchanged-clause-says : goal.box_action-returns-in-Ok-unchanged-clause-says
box_action-returns-in-Ok-unchanged-clause-says t c =
    box-row c.args.walk.now c.args.bound (shown c.args.before) c.args.at c.args.action.now c.args.subscript.now c.in-Ok.set c.in-Ok-unchanged.same c.boxed.result c.in-Ok.ensures.says c.in-Ok-unchanged.ensures c.boxed.ensures

pub box_action-returns-in-Err-unchanged-clause-says : goal.box_action-returns-in-Err-unchanged-clause-says
box_action-returns-in-Err-unchanged-clause-says t c =
    box-second c.args.walk.now c.args.bound (shown c.args.before) c.args.at c.args.action.now c.args.subscript.now c.in-Ok.set c.in-Err-unchanged.fault c.in-Ok.ensures.says c.in-Err-unchanged.ensures

pub angle_action-returns-in-Ok-unless_primed-clause-says : goal.angle_action-returns-in-Ok-unless_primed-clause-says
angle_action-returns-in-Ok-unless_primed-clause-says t c =
    angle-row c.args.walk.now c.args.bound (shown c.args.before) c.args.at c.args.action.now c.args.subscript.now c.in-Ok.set c.in-Ok.ensures.says (c.in-Ok-unless_primed.ensures c.args.bound)

pub angle_action-returns-in-Err-unless_primed-clause-says : goal.angle_action-returns-in-Err-unless_primed-clause-says
angle_action-returns-in-Err-unless_primed-clause-says t c =
    angle-read c.args.walk.now c.args.bound (shown c.args.before) c.args.at c.args.action.now c.args.subscript.now c.in-Ok.set c.in-Err-unless_primed.fault c.in-Ok.ensures.says (c.in-Err-unless_primed.ensures c.args.bound)

pub last_arm-returns-in-Ok-clause-says : goal.last_arm-returns-in-Ok-clause-says
last_arm-returns-in-Ok-clause-says t c =
    last-closed c.args.walk.now c.args.bound (shown c.args.before) c.args.forks.items c.args.last.now c.in-Ok.set c.closed.result c.in-Ok.ensures.says c.closed.ensures

pub last_arm-returns-in-Err-clause-says : goal.last_arm-returns-in-Err-clause-says
last_arm-returns-in-Err-clause-says t c =
    last-stops c.args.walk.now c.args.bound (shown c.args.before) c.args.forks.items c.args.last.now c.in-Err.fault c.in-Err.ensures.says

pub conditional-returns-in-Err-clause-says : goal.conditional-returns-in-Err-clause-says
conditional-returns-in-Err-clause-says t c =
    let split = c.in-Some.ensures in
    let stops : ForkStops c.args.walk.now c.args.bound (shown c.args.before) c.in-Some.inner.test.now c.in-Some.inner.then.now c.in-Some.inner.other.now c.in-Err.fault = search rules in
    branch-stop c.args.walk.now c.args.bound (shown c.args.before) c.args.test.now c.args.then.now c.args.other.now c.loop-inner.forks.items c.loop-inner.last.now c.loop-inner.invariant.0 split.0 split.1 c.in-Some.inner.test.now c.in-Some.inner.then.now c.in-Some.inner.other.now split.2 split.3 c.in-Err.fault stops

pub conditional-loop-inner-preserved : goal.conditional-loop-inner-preserved
conditional-loop-inner-preserved t c =
    let split = c.in-Some.ensures in
    let fork : IsFork c.args.walk.now c.args.bound (shown c.args.before) c.in-Some.inner.test.now c.in-Some.inner.then.now c.in-Some.inner.other.now c.in-Ok.next = search rules in
    (branch-next c.args.walk.now c.args.bound (shown c.args.before) c.args.test.now c.args.then.now c.args.other.now c.loop-inner.forks.items c.loop-inner.last.now c.loop-inner.invariant.0 split.0 split.1 c.in-Some.inner.test.now c.in-Some.inner.then.now c.in-Some.inner.other.now split.2 split.3 c.push_fork.new.forks.items c.in-Ok.next c.in_ok-push_fork-in-Ok.ensures fork, omega (arith, ap weight split.3, c.loop-inner.invariant.1), c.in-Ok.ensures.known)

pub conditional-returns-clause-says : goal.conditional-returns-clause-says
conditional-returns-clause-says t c =
    branch-end c.args.walk.now c.args.bound (shown c.args.before) c.args.test.now c.args.then.now c.args.other.now c.loop-inner.forks.items c.loop-inner.last.now c.loop-inner.invariant.0 c.last_arm.result c.last_arm.ensures.says
