use Rattle.std.proofs.Common.{◌≡◌, ◌∙◌, ◌<◌, sym, ap, arith}
use Rattle.reading_trees.specs.Trees as tree
use Rattle.reading_trees.specs.TreeSizes.{tree_size, trees_size, operands_size, step_size, steps_size, bounds_size, fields_size, changes_size, arms_size, definitions_size}
use Rattle.reading_trees.specs.TreeViews.{node_view, step_view, trees_of, operands_of, steps_of, bounds_of, fields_of, changes_of, arms_of, definitions_of}
use Rattle.names_scopes.proofs.Below.{tree_below, others_below, first_below, step_below, set_below, field_below, path_below, change_below, test_below, arm_below, body_below, step_falls}
use Rattle.names_found_levels.proofs.Items.{each_end, operands_walked, steps_end, bounds_end, fields_end, changes_end, arms_end}
use Rattle.names_found_levels.proofs.Defining.{defined_end}
use Rattle.names_found_levels.proofs.Stepping.{arms_on, bounds_on, changes_on, define_on, each_on, fields_on, operands_on, walk_choose, walk_if, walk_let, walk_quantified}
use Rattle.names_least_levels.specs.Levels.{names_rise}
use Rattle.names_found_levels.proofs.walk.+raise.Goals as goal

pub raise_each-raise-requires : goal.raise_each-raise-requires
raise_each-raise-requires t c =
    let below : tree_size c.tree-item.result < trees_size (trees_of c.items-tree-items.result.now) = tree_below tree.NoTrees c.items-tree-items.result.now c.loop-tree.tree-index c.tree-item.result c.loop-tree-test.true c.tree-item.is in
    let whole : trees_size (trees_of c.items-tree-items.result.now) ≡ trees_size c.args.trees.now = ap trees_size c.items-tree-items.ensures in
    omega (arith, below, whole, c.decreases)

pub raise_each-returns-clause-found : goal.raise_each-returns-clause-found
raise_each-returns-clause-found t c =
    each_end (names_rise c.args.names.now c.args.marks.now) c.args.around.now c.loop-tree.found c.args.found.now c.items-tree-items.result.now c.loop-tree.tree-index c.args.trees.now c.loop-tree-test.false c.items-tree-items.ensures c.loop-tree.invariant.0

pub raise_steps-raise_step-requires : goal.raise_steps-raise_step-requires
raise_steps-raise_step-requires t c =
    let below : step_size (step_view c.step-item.result.step) < steps_size (steps_of c.items-step-items.result.now) = step_below tree.NoSteps c.items-step-items.result.now c.loop-step.step-index c.step-item.result c.loop-step-test.true c.step-item.is in
    let whole : steps_size (steps_of c.items-step-items.result.now) ≡ steps_size c.args.steps.now = ap steps_size c.items-step-items.ensures in
    omega (arith, below, whole, c.decreases, step_falls c.step-item.result.step)

pub raise_steps-returns-clause-found : goal.raise_steps-returns-clause-found
raise_steps-returns-clause-found t c =
    steps_end (names_rise c.args.names.now c.args.marks.now) c.args.around.now c.loop-step.found c.args.found.now c.items-step-items.result.now c.loop-step.step-index c.args.steps.now c.loop-step-test.false c.items-step-items.ensures c.loop-step.invariant.0

pub raise_bounds-raise-requires : goal.raise_bounds-raise-requires
raise_bounds-raise-requires t c =
    let below : tree_size c.bound-item.result.set < bounds_size (bounds_of c.items-bound-items.result.now) = set_below tree.NoBounds c.items-bound-items.result.now c.loop-bound.bound-index c.bound-item.result c.loop-bound-test.true c.bound-item.is in
    let whole : bounds_size (bounds_of c.items-bound-items.result.now) ≡ bounds_size c.args.bounds.now = ap bounds_size c.items-bound-items.ensures in
    omega (arith, below, whole, c.decreases)

pub raise_bounds-returns-clause-found : goal.raise_bounds-returns-clause-found
raise_bounds-returns-clause-found t c =
    bounds_end (names_rise c.args.names.now c.args.marks.now) c.args.around.now c.loop-bound.found c.args.found.now c.items-bound-items.result.now c.loop-bound.bound-index c.args.bounds.now c.loop-bound-test.false c.items-bound-items.ensures c.loop-bound.invariant.0

pub raise_fields-raise-requires : goal.raise_fields-raise-requires
raise_fields-raise-requires t c =
    let below : tree_size c.field-item.result.value < fields_size (fields_of c.items-field-items.result.now) = field_below tree.NoFields c.items-field-items.result.now c.loop-field.field-index c.field-item.result c.loop-field-test.true c.field-item.is in
    let whole : fields_size (fields_of c.items-field-items.result.now) ≡ fields_size c.args.fields.now = ap fields_size c.items-field-items.ensures in
    omega (arith, below, whole, c.decreases)

pub raise_fields-returns-clause-found : goal.raise_fields-returns-clause-found
raise_fields-returns-clause-found t c =
    fields_end (names_rise c.args.names.now c.args.marks.now) c.args.around.now c.loop-field.found c.args.found.now c.items-field-items.result.now c.loop-field.field-index c.args.fields.now c.loop-field-test.false c.items-field-items.ensures c.loop-field.invariant.0

pub raise_changes-raise_steps-requires : goal.raise_changes-raise_steps-requires
raise_changes-raise_steps-requires t c =
    let below : steps_size c.change-item.result.path < changes_size (changes_of c.items-change-items.result.now) = path_below tree.NoChanges c.items-change-items.result.now c.loop-change.change-index c.change-item.result c.loop-change-test.true c.change-item.is in
    let whole : changes_size (changes_of c.items-change-items.result.now) ≡ changes_size c.args.changes.now = ap changes_size c.items-change-items.ensures in
    omega (arith, below, whole, c.decreases)

pub raise_changes-raise_under-requires : goal.raise_changes-raise_under-requires
raise_changes-raise_under-requires t c =
    let below : tree_size c.change-item.result.value < changes_size (changes_of c.items-change-items.result.now) = change_below tree.NoChanges c.items-change-items.result.now c.loop-change.change-index c.change-item.result c.loop-change-test.true c.change-item.is in
    let whole : changes_size (changes_of c.items-change-items.result.now) ≡ changes_size c.args.changes.now = ap changes_size c.items-change-items.ensures in
    omega (arith, below, whole, c.decreases)

pub raise_changes-returns-clause-found : goal.raise_changes-returns-clause-found
raise_changes-returns-clause-found t c =
    changes_end (names_rise c.args.names.now c.args.marks.now) c.args.around.now c.loop-change.found c.args.found.now c.items-change-items.result.now c.loop-change.change-index c.args.changes.now c.loop-change-test.false c.items-change-items.ensures c.loop-change.invariant.0

pub raise_arms-raise-requires : goal.raise_arms-raise-requires
raise_arms-raise-requires t c =
    let below : tree_size c.arm-item.result.test < arms_size (arms_of c.items-arm-items.result.now) = test_below tree.NoArms c.items-arm-items.result.now c.loop-arm.arm-index c.arm-item.result c.loop-arm-test.true c.arm-item.is in
    let whole : arms_size (arms_of c.items-arm-items.result.now) ≡ arms_size c.args.arms.now = ap arms_size c.items-arm-items.ensures in
    omega (arith, below, whole, c.decreases)

pub raise_arms-raise-requires-in-loop-arm : goal.raise_arms-raise-requires-in-loop-arm
raise_arms-raise-requires-in-loop-arm t c =
    let below : tree_size c.arm-item.result.value < arms_size (arms_of c.items-arm-items.result.now) = arm_below tree.NoArms c.items-arm-items.result.now c.loop-arm.arm-index c.arm-item.result c.loop-arm-test.true c.arm-item.is in
    let whole : arms_size (arms_of c.items-arm-items.result.now) ≡ arms_size c.args.arms.now = ap arms_size c.items-arm-items.ensures in
    omega (arith, below, whole, c.decreases)

pub raise_arms-returns-clause-found : goal.raise_arms-returns-clause-found
raise_arms-returns-clause-found t c =
    arms_end (names_rise c.args.names.now c.args.marks.now) c.args.around.now c.loop-arm.found c.args.found.now c.items-arm-items.result.now c.loop-arm.arm-index c.args.arms.now c.loop-arm-test.false c.items-arm-items.ensures c.loop-arm.invariant.0

pub define-raise-requires : goal.define-raise-requires
define-raise-requires t c =
    let below : tree_size c.definition-item.result.body < definitions_size (definitions_of c.items-definition-items.result.now) = body_below tree.NoDefinitions c.items-definition-items.result.now c.loop-definition.definition-index c.definition-item.result c.loop-definition-test.true c.definition-item.is in
    let whole : definitions_size (definitions_of c.items-definition-items.result.now) ≡ definitions_size c.args.definitions.now = ap definitions_size c.items-definition-items.ensures in
    omega (arith, below, whole, c.decreases)

pub define-returns : goal.define-returns
define-returns t c =
    defined_end (names_rise c.args.names.now c.args.marks.now) c.loop-definition.around c.args.around.now c.items-definition-items.result.now c.loop-definition.definition-index c.args.definitions.now c.loop-definition-test.false c.items-definition-items.ensures c.loop-definition.invariant

pub raise_operands-raise-requires : goal.raise_operands-raise-requires
raise_operands-raise-requires t c =
    let below : tree_size c.parts.result.0.now < operands_size (operands_of c.parts.result.0.now c.parts.result.1.now) = first_below c.parts.result.0.now c.parts.result.1.now in
    let whole : operands_size (operands_of c.parts.result.0.now c.parts.result.1.now) ≡ operands_size c.args.operands.now = ap operands_size c.parts.ensures in
    omega (arith, below, whole, c.decreases)

pub raise_operands-raise-requires-in-loop-operand : goal.raise_operands-raise-requires-in-loop-operand
raise_operands-raise-requires-in-loop-operand t c =
    let below : tree_size c.operand-item.result.value < operands_size (operands_of c.parts.result.0.now c.parts.result.1.now) = others_below c.parts.result.0.now c.parts.result.1.now c.loop-operand.operand-index c.operand-item.result c.loop-operand-test.true c.operand-item.is in
    let whole : operands_size (operands_of c.parts.result.0.now c.parts.result.1.now) ≡ operands_size c.args.operands.now = ap operands_size c.parts.ensures in
    omega (arith, below, whole, c.decreases)

pub raise_operands-returns-clause-found : goal.raise_operands-returns-clause-found
raise_operands-returns-clause-found t c =
    operands_walked (names_rise c.args.names.now c.args.marks.now) c.args.around.now c.raise.new.around c.args.found.now c.raise.new.found c.loop-operand.found c.parts.result.0.now c.parts.result.1.now c.loop-operand.operand-index c.args.operands.now c.loop-operand-test.false c.parts.ensures c.in_ok-raise.ensures.around c.in_ok-raise.ensures.found c.loop-operand.invariant.0

pub raise_each-loop-tree-preserved : goal.raise_each-loop-tree-preserved
raise_each-loop-tree-preserved t c =
    each_on (names_rise c.args.names.now c.args.marks.now) c.args.around.now c.loop-tree.around c.raise.new.around c.loop-tree.found c.raise.new.found _ c.items-tree-items.result.now c.loop-tree.tree-index c.tree-item.result c.loop-tree-test.true c.tree-item.is c.in_ok-raise.ensures.found c.in_ok-raise.ensures.around c.loop-tree.invariant

pub raise_operands-loop-operand-preserved : goal.raise_operands-loop-operand-preserved
raise_operands-loop-operand-preserved t c =
    operands_on (names_rise c.args.names.now c.args.marks.now) c.raise.new.around c.loop-operand.around c.raise-in-loop-operand.new.around c.loop-operand.found c.raise-in-loop-operand.new.found _ c.parts.result.1.now c.loop-operand.operand-index c.operand-item.result c.loop-operand-test.true c.operand-item.is c.in_ok-raise-2.ensures.found c.in_ok-raise-2.ensures.around c.loop-operand.invariant

pub raise_bounds-loop-bound-preserved : goal.raise_bounds-loop-bound-preserved
raise_bounds-loop-bound-preserved t c =
    bounds_on (names_rise c.args.names.now c.args.marks.now) c.args.around.now c.loop-bound.around c.raise.new.around c.loop-bound.found c.raise.new.found _ c.items-bound-items.result.now c.loop-bound.bound-index c.bound-item.result c.loop-bound-test.true c.bound-item.is c.in_ok-raise.ensures.found c.in_ok-raise.ensures.around c.loop-bound.invariant

pub raise_fields-loop-field-preserved : goal.raise_fields-loop-field-preserved
raise_fields-loop-field-preserved t c =
    fields_on (names_rise c.args.names.now c.args.marks.now) c.args.around.now c.loop-field.around c.raise.new.around c.loop-field.found c.raise.new.found _ c.items-field-items.result.now c.loop-field.field-index c.field-item.result c.loop-field-test.true c.field-item.is c.in_ok-raise.ensures.found c.in_ok-raise.ensures.around c.loop-field.invariant

pub raise_arms-loop-arm-preserved : goal.raise_arms-loop-arm-preserved
raise_arms-loop-arm-preserved t c =
    arms_on (names_rise c.args.names.now c.args.marks.now) c.args.around.now c.loop-arm.around c.raise.new.around c.raise-in-loop-arm.new.around c.loop-arm.found c.raise.new.found c.raise-in-loop-arm.new.found _ c.items-arm-items.result.now c.loop-arm.arm-index c.arm-item.result c.loop-arm-test.true c.arm-item.is c.in_ok-raise.ensures.found c.in_ok-raise.ensures.around c.in_ok-raise-2.ensures.found c.in_ok-raise-2.ensures.around c.loop-arm.invariant

pub raise_changes-loop-change-preserved : goal.raise_changes-loop-change-preserved
raise_changes-loop-change-preserved t c =
    changes_on (names_rise c.args.names.now c.args.marks.now) c.args.around.now c.loop-change.around c.raise_steps.new.around c.raise_under.new.around c.loop-change.found c.raise_steps.new.found c.raise_under.new.found _ c.in_ok-at_sign.at_sign c.items-change-items.result.now c.loop-change.change-index c.change-item.result c.in_ok-at_sign.ensures c.loop-change-test.true c.change-item.is c.in_ok-raise_steps.ensures.found c.in_ok-raise_steps.ensures.around c.in_ok-raise_under.ensures.found c.in_ok-raise_under.ensures.around c.loop-change.invariant

pub define-loop-definition-preserved : goal.define-loop-definition-preserved
define-loop-definition-preserved t c =
    define_on (names_rise c.args.names.now c.args.marks.now) c.loop-definition.around c.push_own.new.self c.push_all.new.self c.raise.new.around c.cut.new.self c.push.new.self _ c.len-depth.result c.items.result.now c.raise.new.found c.items-definition-items.result.now c.loop-definition.definition-index c.definition-item.result c.loop-definition-test.true c.definition-item.is c.len-depth.ensures c.in_ok-push_own.ensures c.items.ensures c.in_ok-push_all.ensures c.in_ok-raise.ensures.found c.in_ok-raise.ensures.around c.cut.ensures c.in_ok-push.ensures c.loop-definition.invariant

pub raise-loop-test-preserved-in-If : goal.raise-loop-test-preserved-in-If
raise-loop-test-preserved-in-If t c =
    walk_if (names_rise c.args.names.now c.args.marks.now) c.args.around.now c.loop-test.around c.raise.new.around c.raise-in-If.new.around c.args.found.now c.loop-test.found c.raise.new.found c.raise-in-If.new.found c.args.tree.now c.loop-test.tree.now c.tree.inside.at c.in-If.test c.in-If.then c.in-If.last (ap (node_view c.tree.inside.at) (sym c.in-If.is ∙ c.deref.ensures) ∙ c.tree.view_is)
    c.in_ok-raise-in-If.ensures.found c.in_ok-raise-in-If.ensures.around c.in_ok-raise-in-If-2.ensures.found c.in_ok-raise-in-If-2.ensures.around c.loop-test.invariant

pub raise-loop-test-preserved-in-Quantified : goal.raise-loop-test-preserved-in-Quantified
raise-loop-test-preserved-in-Quantified t c =
    walk_quantified (names_rise c.args.names.now c.args.marks.now) c.args.around.now c.loop-test.around c.raise_bounds.new.around c.push_bounds.new.self c.args.found.now c.loop-test.found c.raise_bounds.new.found c.args.tree.now c.loop-test.tree.now c.tree.inside.at c.in-Quantified.field-0 c.in-Quantified.bounds c.in-Quantified.body (ap (node_view c.tree.inside.at) (sym c.in-Quantified.is ∙ c.deref.ensures) ∙ c.tree.view_is)
    c.in_ok-raise_bounds-in-Quantified.ensures.found c.in_ok-raise_bounds-in-Quantified.ensures.around c.in_ok-push_bounds-in-Quantified.ensures c.loop-test.invariant

pub raise-loop-test-preserved-in-Choose : goal.raise-loop-test-preserved-in-Choose
raise-loop-test-preserved-in-Choose t c =
    walk_choose (names_rise c.args.names.now c.args.marks.now) c.args.around.now c.loop-test.around c.raise-in-Choose.new.around c.push.new.self c.args.found.now c.loop-test.found c.raise-in-Choose.new.found c.args.tree.now c.loop-test.tree.now c.tree.inside.at c.in-Choose.bound c.in-Choose.set c.in-Choose.body (ap (node_view c.tree.inside.at) (sym c.in-Choose.is ∙ c.deref.ensures) ∙ c.tree.view_is)
    c.in_ok-raise-in-Choose.ensures.found c.in_ok-raise-in-Choose.ensures.around c.in_ok-push-in-Choose.ensures c.loop-test.invariant

pub raise-loop-test-preserved : goal.raise-loop-test-preserved
raise-loop-test-preserved t c =
    walk_let (names_rise c.args.names.now c.args.marks.now) c.args.around.now c.loop-test.around c.define.new.around c.args.found.now c.loop-test.found c.args.tree.now c.loop-test.tree.now c.tree.inside.at c.in-Let.definitions c.in-Let.body (ap (node_view c.tree.inside.at) (sym c.in-Let.is ∙ c.deref.ensures) ∙ c.tree.view_is) c.in_ok-define-in-Let.ensures c.loop-test.invariant
