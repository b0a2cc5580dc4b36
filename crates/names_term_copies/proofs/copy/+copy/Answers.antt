use Rattle.std.proofs.Common.{◌≡◌, ◌∙◌, ◌<◌, ap, arith}
use Rattle.names_terms.specs.TermSizes.{term_size}
use Rattle.names_terms.specs.TermViews.{node_view}
use Rattle.names_term_copies.specs.Rows.{begun_meaning}
use Rattle.names_term_copies.proofs.Copied.{term_below, first_below, operand_below, step_below, set_below, field_below, path_below, change_below, test_below, arm_below, step_falls}
use Rattle.names_term_copies.proofs.Closing.{opened_same, opened_below}
use Rattle.names_term_copies.proofs.copy.+copy.Goals as goal

pub copy_terms-copy_term-requires : goal.copy_terms-copy_term-requires
copy_terms-copy_term-requires t c =
    (omega (arith, term_below c.loop-term.copy c.args.terms.now c.items-term-items.result.now c.loop-term.term-index c.term-item.result c.loop-term-test.true c.term-item.is c.loop-term.invariant, c.decreases), tt)

pub copy_operands-copy_term-requires : goal.copy_operands-copy_term-requires
copy_operands-copy_term-requires t c = (omega (arith, first_below c.parts.result.0.now c.parts.result.1.now c.args.operands.now c.parts.ensures, c.decreases), tt)

pub copy_operands-copy_term-requires-in-loop-operand : goal.copy_operands-copy_term-requires-in-loop-operand
copy_operands-copy_term-requires-in-loop-operand t c =
    (omega (arith, operand_below c.loop-operand.copy c.args.operands.now c.parts.result.1.now c.loop-operand.operand-index c.operand-item.result c.loop-operand-test.true c.operand-item.is c.loop-operand.invariant, c.decreases), tt)

pub copy_steps-copy_step-requires : goal.copy_steps-copy_step-requires
copy_steps-copy_step-requires t c =
    (omega (arith, step_below c.loop-item.copy c.args.steps.now c.items-item-items.result.now c.loop-item.item-index c.item-item.result c.loop-item-test.true c.item-item.is c.loop-item.invariant, step_falls c.item-item.result.step, c.decreases), tt)

pub copy_bounds-copy_term-requires : goal.copy_bounds-copy_term-requires
copy_bounds-copy_term-requires t c =
    (omega (arith, set_below c.loop-bound.copy c.args.bounds.now c.items-bound-items.result.now c.loop-bound.bound-index c.bound-item.result c.loop-bound-test.true c.bound-item.is c.loop-bound.invariant, c.decreases), tt)

pub copy_fields-copy_term-requires : goal.copy_fields-copy_term-requires
copy_fields-copy_term-requires t c =
    (omega (arith, field_below c.loop-field.copy c.args.fields.now c.items-field-items.result.now c.loop-field.field-index c.field-item.result c.loop-field-test.true c.field-item.is c.loop-field.invariant, c.decreases), tt)

pub copy_changes-copy_steps-requires : goal.copy_changes-copy_steps-requires
copy_changes-copy_steps-requires t c =
    (omega (arith, path_below c.loop-change.copy c.args.changes.now c.items-change-items.result.now c.loop-change.change-index c.change-item.result c.loop-change-test.true c.change-item.is c.loop-change.invariant, c.decreases), tt)

pub copy_changes-copy_term-requires : goal.copy_changes-copy_term-requires
copy_changes-copy_term-requires t c =
    (omega (arith, change_below c.loop-change.copy c.args.changes.now c.items-change-items.result.now c.loop-change.change-index c.change-item.result c.loop-change-test.true c.change-item.is c.loop-change.invariant, c.decreases), tt)

pub copy_arms-copy_term-requires : goal.copy_arms-copy_term-requires
copy_arms-copy_term-requires t c =
    (omega (arith, test_below c.loop-arm.copy c.args.arms.now c.items-arm-items.result.now c.loop-arm.arm-index c.arm-item.result c.loop-arm-test.true c.arm-item.is c.loop-arm.invariant, c.decreases), tt)

pub copy_arms-copy_term-requires-in-loop-arm : goal.copy_arms-copy_term-requires-in-loop-arm
copy_arms-copy_term-requires-in-loop-arm t c =
    (omega (arith, arm_below c.loop-arm.copy c.args.arms.now c.items-arm-items.result.now c.loop-arm.arm-index c.arm-item.result c.loop-arm-test.true c.arm-item.is c.loop-arm.invariant, c.decreases), tt)

pub copy_term-loop-rows-preserved : goal.copy_term-loop-rows-preserved
copy_term-loop-rows-preserved t c =
    let met : begun_meaning c.in_ok-begun.begun ≡ node_view c.rest.inside.node.value = c.in_ok-begun.ensures ∙ ap (λ n. node_view n) c.deref.ensures in
    let below : term_size c.in-Open.last.now < term_size c.loop-rows.rest.now = opened_below c.in_ok-begun.begun c.in-Open.opening c.in-Open.last c.rest.inside.at c.rest.inside.level c.rest.inside.node.value c.loop-rows.rest.now c.in-Open.is met c.rest.view_is in
    record {
      same = opened_same c.loop-rows.rows.items c.push.new.self.items c.in_ok-begun.begun c.in-Open.opening c.in-Open.last c.rest.inside.at c.rest.inside.level c.rest.inside.node.value c.loop-rows.rest.now c.args.term.now c.in_ok-push-in-Open.ensures.items c.in-Open.is met c.rest.view_is c.loop-rows.invariant.same;
      within = omega (arith, below, c.loop-rows.invariant.within);
    }
