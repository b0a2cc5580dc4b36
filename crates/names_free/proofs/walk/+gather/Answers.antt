use Rattle.std.proofs.Common.{◌≡◌, ◌<◌, ap, arith}
use Rattle.reading_trees.specs.Trees as tree
use Rattle.reading_trees.specs.Trees.{Tree}
use Rattle.reading_trees.specs.TreeSizes.{tree_size, trees_size, operands_size, step_size, steps_size, bounds_size, fields_size, changes_size, arms_size, definitions_size}
use Rattle.reading_trees.specs.TreeViews.{step_view, trees_of, operands_of, steps_of, bounds_of, fields_of, changes_of, arms_of, definitions_of}
use Rattle.names_scopes.proofs.Below.{tree_below, others_below, first_below, step_below, set_below, field_below, path_below, change_below, test_below, arm_below, body_below, step_falls}
use Rattle.names_free.proofs.Items.{each_end, operands_walked, steps_end, bounds_end, fields_end, changes_end, arms_end, definitions_end, defined_end}
use Rattle.names_free.proofs.walk.+gather.Goals as goal

pub gather_each-gather-requires : goal.gather_each-gather-requires
gather_each-gather-requires t c =
    let below : tree_size c.tree-item.result < trees_size (trees_of c.items-tree-items.result.now) = tree_below tree.NoTrees c.items-tree-items.result.now c.loop-tree.tree-index c.tree-item.result c.loop-tree-test.true c.tree-item.is in
    let whole : trees_size (trees_of c.items-tree-items.result.now) ≡ trees_size c.args.trees.now = ap trees_size c.items-tree-items.ensures in
    omega (arith, below, whole, c.decreases)

pub gather_each-returns-clause-found : goal.gather_each-returns-clause-found
gather_each-returns-clause-found t c =
    each_end c.args.hidden.now c.loop-tree.found c.args.found.now c.items-tree-items.result.now c.loop-tree.tree-index c.args.trees.now c.loop-tree-test.false c.items-tree-items.ensures c.loop-tree.invariant.0

pub gather_steps-gather_step-requires : goal.gather_steps-gather_step-requires
gather_steps-gather_step-requires t c =
    let below : step_size (step_view c.step-item.result.step) < steps_size (steps_of c.items-step-items.result.now) = step_below tree.NoSteps c.items-step-items.result.now c.loop-step.step-index c.step-item.result c.loop-step-test.true c.step-item.is in
    let whole : steps_size (steps_of c.items-step-items.result.now) ≡ steps_size c.args.steps.now = ap steps_size c.items-step-items.ensures in
    omega (arith, below, whole, c.decreases, step_falls c.step-item.result.step)

pub gather_steps-returns-clause-found : goal.gather_steps-returns-clause-found
gather_steps-returns-clause-found t c =
    steps_end c.args.hidden.now c.loop-step.found c.args.found.now c.items-step-items.result.now c.loop-step.step-index c.args.steps.now c.loop-step-test.false c.items-step-items.ensures c.loop-step.invariant.0

pub gather_bounds-gather-requires : goal.gather_bounds-gather-requires
gather_bounds-gather-requires t c =
    let below : tree_size c.bound-item.result.set < bounds_size (bounds_of c.items-bound-items.result.now) = set_below tree.NoBounds c.items-bound-items.result.now c.loop-bound.bound-index c.bound-item.result c.loop-bound-test.true c.bound-item.is in
    let whole : bounds_size (bounds_of c.items-bound-items.result.now) ≡ bounds_size c.args.bounds.now = ap bounds_size c.items-bound-items.ensures in
    omega (arith, below, whole, c.decreases)

pub gather_bounds-returns-clause-found : goal.gather_bounds-returns-clause-found
gather_bounds-returns-clause-found t c =
    bounds_end c.args.hidden.now c.loop-bound.found c.args.found.now c.items-bound-items.result.now c.loop-bound.bound-index c.args.bounds.now c.loop-bound-test.false c.items-bound-items.ensures c.loop-bound.invariant.0

pub gather_fields-gather-requires : goal.gather_fields-gather-requires
gather_fields-gather-requires t c =
    let below : tree_size c.field-item.result.value < fields_size (fields_of c.items-field-items.result.now) = field_below tree.NoFields c.items-field-items.result.now c.loop-field.field-index c.field-item.result c.loop-field-test.true c.field-item.is in
    let whole : fields_size (fields_of c.items-field-items.result.now) ≡ fields_size c.args.fields.now = ap fields_size c.items-field-items.ensures in
    omega (arith, below, whole, c.decreases)

pub gather_fields-returns-clause-found : goal.gather_fields-returns-clause-found
gather_fields-returns-clause-found t c =
    fields_end c.args.hidden.now c.loop-field.found c.args.found.now c.items-field-items.result.now c.loop-field.field-index c.args.fields.now c.loop-field-test.false c.items-field-items.ensures c.loop-field.invariant.0

pub gather_changes-gather_steps-requires : goal.gather_changes-gather_steps-requires
gather_changes-gather_steps-requires t c =
    let below : steps_size c.change-item.result.path < changes_size (changes_of c.items-change-items.result.now) = path_below tree.NoChanges c.items-change-items.result.now c.loop-change.change-index c.change-item.result c.loop-change-test.true c.change-item.is in
    let whole : changes_size (changes_of c.items-change-items.result.now) ≡ changes_size c.args.changes.now = ap changes_size c.items-change-items.ensures in
    omega (arith, below, whole, c.decreases)

pub gather_changes-gather_under-requires : goal.gather_changes-gather_under-requires
gather_changes-gather_under-requires t c =
    let below : tree_size c.change-item.result.value < changes_size (changes_of c.items-change-items.result.now) = change_below tree.NoChanges c.items-change-items.result.now c.loop-change.change-index c.change-item.result c.loop-change-test.true c.change-item.is in
    let whole : changes_size (changes_of c.items-change-items.result.now) ≡ changes_size c.args.changes.now = ap changes_size c.items-change-items.ensures in
    omega (arith, below, whole, c.decreases)

pub gather_changes-returns-clause-found : goal.gather_changes-returns-clause-found
gather_changes-returns-clause-found t c =
    changes_end c.args.hidden.now c.loop-change.found c.args.found.now c.items-change-items.result.now c.loop-change.change-index c.args.changes.now c.loop-change-test.false c.items-change-items.ensures c.loop-change.invariant.0

pub gather_arms-gather-requires : goal.gather_arms-gather-requires
gather_arms-gather-requires t c =
    let below : tree_size c.arm-item.result.test < arms_size (arms_of c.items-arm-items.result.now) = test_below tree.NoArms c.items-arm-items.result.now c.loop-arm.arm-index c.arm-item.result c.loop-arm-test.true c.arm-item.is in
    let whole : arms_size (arms_of c.items-arm-items.result.now) ≡ arms_size c.args.arms.now = ap arms_size c.items-arm-items.ensures in
    omega (arith, below, whole, c.decreases)

pub gather_arms-gather-requires-in-loop-arm : goal.gather_arms-gather-requires-in-loop-arm
gather_arms-gather-requires-in-loop-arm t c =
    let below : tree_size c.arm-item.result.value < arms_size (arms_of c.items-arm-items.result.now) = arm_below tree.NoArms c.items-arm-items.result.now c.loop-arm.arm-index c.arm-item.result c.loop-arm-test.true c.arm-item.is in
    let whole : arms_size (arms_of c.items-arm-items.result.now) ≡ arms_size c.args.arms.now = ap arms_size c.items-arm-items.ensures in
    omega (arith, below, whole, c.decreases)

pub gather_arms-returns-clause-found : goal.gather_arms-returns-clause-found
gather_arms-returns-clause-found t c =
    arms_end c.args.hidden.now c.loop-arm.found c.args.found.now c.items-arm-items.result.now c.loop-arm.arm-index c.args.arms.now c.loop-arm-test.false c.items-arm-items.ensures c.loop-arm.invariant.0

pub gather_definitions-gather-requires : goal.gather_definitions-gather-requires
gather_definitions-gather-requires t c =
    let below : tree_size c.definition-item.result.body < definitions_size (definitions_of c.items-definition-items.result.now) = body_below tree.NoDefinitions c.items-definition-items.result.now c.loop-definition.definition-index c.definition-item.result c.loop-definition-test.true c.definition-item.is in
    let whole : definitions_size (definitions_of c.items-definition-items.result.now) ≡ definitions_size c.args.definitions.now = ap definitions_size c.items-definition-items.ensures in
    omega (arith, below, whole, c.decreases)

pub gather_definitions-returns-clause-found : goal.gather_definitions-returns-clause-found
gather_definitions-returns-clause-found t c =
    definitions_end c.loop-definition.hidden c.loop-definition.found c.args.hidden.now c.args.found.now c.items-definition-items.result.now c.loop-definition.definition-index c.args.definitions.now c.loop-definition-test.false c.items-definition-items.ensures c.loop-definition.invariant.0

pub gather_definitions-returns-clause-hidden : goal.gather_definitions-returns-clause-hidden
gather_definitions-returns-clause-hidden t c =
    defined_end c.loop-definition.hidden c.args.hidden.now c.items-definition-items.result.now c.loop-definition.definition-index c.args.definitions.now c.loop-definition-test.false c.items-definition-items.ensures c.loop-definition.invariant.1

pub gather_operands-gather-requires : goal.gather_operands-gather-requires
gather_operands-gather-requires t c =
    let below : tree_size c.parts.result.0.now < operands_size (operands_of c.parts.result.0.now c.parts.result.1.now) = first_below c.parts.result.0.now c.parts.result.1.now in
    let whole : operands_size (operands_of c.parts.result.0.now c.parts.result.1.now) ≡ operands_size c.args.operands.now = ap operands_size c.parts.ensures in
    omega (arith, below, whole, c.decreases)

pub gather_operands-gather-requires-in-loop-operand : goal.gather_operands-gather-requires-in-loop-operand
gather_operands-gather-requires-in-loop-operand t c =
    let below : tree_size c.operand-item.result.value < operands_size (operands_of c.parts.result.0.now c.parts.result.1.now) = others_below c.parts.result.0.now c.parts.result.1.now c.loop-operand.operand-index c.operand-item.result c.loop-operand-test.true c.operand-item.is in
    let whole : operands_size (operands_of c.parts.result.0.now c.parts.result.1.now) ≡ operands_size c.args.operands.now = ap operands_size c.parts.ensures in
    omega (arith, below, whole, c.decreases)

pub gather_operands-returns-clause-found : goal.gather_operands-returns-clause-found
gather_operands-returns-clause-found t c =
    operands_walked c.args.hidden.now c.gather.new.hidden c.args.found.now c.gather.new.found c.loop-operand.found c.parts.result.0.now c.parts.result.1.now c.loop-operand.operand-index c.args.operands.now c.loop-operand-test.false c.parts.ensures c.in_ok-gather.ensures.hidden c.in_ok-gather.ensures.found c.loop-operand.invariant.0
