use Rattle.std.proofs.Common.{◌≡◌, ◌∙◌, ◌<◌, ap, sym, arith}
use Rattle.reading_trees.specs.Trees as tree
use Rattle.reading_trees.specs.TreeSizes.{tree_size, trees_size, operands_size, step_size, steps_size, bounds_size, fields_size, changes_size, arms_size, definitions_size}
use Rattle.reading_trees.specs.TreeViews.{node_view, step_view, trees_of, operands_of, steps_of, bounds_of, fields_of, changes_of, arms_of, definitions_of}
use Rattle.names_scopes.proofs.Below.{tree_below, others_below, first_below, step_below, set_below, field_below, path_below, change_below, test_below, arm_below, body_below, step_falls}
use Rattle.names_instances.specs.Renamed.{renamed}
use Rattle.names_instances.proofs.Items.{each_end, operands_end, steps_end, bounds_end, fields_end, changes_end, arms_end, definitions_end, defined_end, each_on, operands_on, steps_on, bounds_on, fields_on, changes_on, arms_on, definitions_on}
use Rattle.names_instances.proofs.Rewriting.{if_opened, quantified_opened, choose_opened, let_opened}
use Rattle.names_instances.proofs.making.+made.Goals as goal

pub made_each-made-requires : goal.made_each-made-requires
made_each-made-requires t c =
    let below : tree_size c.tree-item.result < trees_size (trees_of c.items-tree-items.result.now) = tree_below tree.NoTrees c.items-tree-items.result.now c.loop-tree.tree-index c.tree-item.result c.loop-tree-test.true c.tree-item.is in
    let whole : trees_size (trees_of c.items-tree-items.result.now) ≡ trees_size c.args.trees.now = ap trees_size c.items-tree-items.ensures in
    omega (arith, below, whole, c.decreases)

pub made_steps-made_step-requires : goal.made_steps-made_step-requires
made_steps-made_step-requires t c =
    let below : step_size (step_view c.item-item.result.step) < steps_size (steps_of c.items-item-items.result.now) = step_below tree.NoSteps c.items-item-items.result.now c.loop-item.item-index c.item-item.result c.loop-item-test.true c.item-item.is in
    let whole : steps_size (steps_of c.items-item-items.result.now) ≡ steps_size c.args.steps.now = ap steps_size c.items-item-items.ensures in
    omega (arith, below, whole, c.decreases, step_falls c.item-item.result.step)

pub made_bounds-made-requires : goal.made_bounds-made-requires
made_bounds-made-requires t c =
    let below : tree_size c.item-item.result.set < bounds_size (bounds_of c.items-item-items.result.now) = set_below tree.NoBounds c.items-item-items.result.now c.loop-item.item-index c.item-item.result c.loop-item-test.true c.item-item.is in
    let whole : bounds_size (bounds_of c.items-item-items.result.now) ≡ bounds_size c.args.bounds.now = ap bounds_size c.items-item-items.ensures in
    omega (arith, below, whole, c.decreases)

pub made_fields-made-requires : goal.made_fields-made-requires
made_fields-made-requires t c =
    let below : tree_size c.field-item.result.value < fields_size (fields_of c.items-field-items.result.now) = field_below tree.NoFields c.items-field-items.result.now c.loop-field.field-index c.field-item.result c.loop-field-test.true c.field-item.is in
    let whole : fields_size (fields_of c.items-field-items.result.now) ≡ fields_size c.args.fields.now = ap fields_size c.items-field-items.ensures in
    omega (arith, below, whole, c.decreases)

pub made_changes-made_steps-requires : goal.made_changes-made_steps-requires
made_changes-made_steps-requires t c =
    let below : steps_size c.change-item.result.path < changes_size (changes_of c.items-change-items.result.now) = path_below tree.NoChanges c.items-change-items.result.now c.loop-change.change-index c.change-item.result c.loop-change-test.true c.change-item.is in
    let whole : changes_size (changes_of c.items-change-items.result.now) ≡ changes_size c.args.changes.now = ap changes_size c.items-change-items.ensures in
    omega (arith, below, whole, c.decreases)

pub made_changes-made-requires : goal.made_changes-made-requires
made_changes-made-requires t c =
    let below : tree_size c.change-item.result.value < changes_size (changes_of c.items-change-items.result.now) = change_below tree.NoChanges c.items-change-items.result.now c.loop-change.change-index c.change-item.result c.loop-change-test.true c.change-item.is in
    let whole : changes_size (changes_of c.items-change-items.result.now) ≡ changes_size c.args.changes.now = ap changes_size c.items-change-items.ensures in
    omega (arith, below, whole, c.decreases)

pub made_arms-made-requires : goal.made_arms-made-requires
made_arms-made-requires t c =
    let below : tree_size c.arm-item.result.test < arms_size (arms_of c.items-arm-items.result.now) = test_below tree.NoArms c.items-arm-items.result.now c.loop-arm.arm-index c.arm-item.result c.loop-arm-test.true c.arm-item.is in
    let whole : arms_size (arms_of c.items-arm-items.result.now) ≡ arms_size c.args.arms.now = ap arms_size c.items-arm-items.ensures in
    omega (arith, below, whole, c.decreases)

pub made_arms-made-requires-in-loop-arm : goal.made_arms-made-requires-in-loop-arm
made_arms-made-requires-in-loop-arm t c =
    let below : tree_size c.arm-item.result.value < arms_size (arms_of c.items-arm-items.result.now) = arm_below tree.NoArms c.items-arm-items.result.now c.loop-arm.arm-index c.arm-item.result c.loop-arm-test.true c.arm-item.is in
    let whole : arms_size (arms_of c.items-arm-items.result.now) ≡ arms_size c.args.arms.now = ap arms_size c.items-arm-items.ensures in
    omega (arith, below, whole, c.decreases)

pub made_definitions-made_body-requires : goal.made_definitions-made_body-requires
made_definitions-made_body-requires t c =
    let below : tree_size c.definition-item.result.body < definitions_size (definitions_of c.items-definition-items.result.now) = body_below tree.NoDefinitions c.items-definition-items.result.now c.loop-definition.definition-index c.definition-item.result c.loop-definition-test.true c.definition-item.is in
    let whole : definitions_size (definitions_of c.items-definition-items.result.now) ≡ definitions_size c.args.definitions.now = ap definitions_size c.items-definition-items.ensures in
    omega (arith, below, whole, c.decreases)

pub made_each-returns-clause-made : goal.made_each-returns-clause-made
made_each-returns-clause-made t c =
    each_end (renamed c.args.renaming.now) c.args.bound.now c.loop-tree.copy c.items-tree-items.result.now c.loop-tree.tree-index c.args.trees.now c.loop-tree-test.false c.items-tree-items.ensures c.loop-tree.invariant.0

pub made_steps-returns-clause-made : goal.made_steps-returns-clause-made
made_steps-returns-clause-made t c =
    steps_end (renamed c.args.renaming.now) c.args.bound.now c.loop-item.copy c.items-item-items.result.now c.loop-item.item-index c.args.steps.now c.loop-item-test.false c.items-item-items.ensures c.loop-item.invariant.0

pub made_bounds-returns-clause-made : goal.made_bounds-returns-clause-made
made_bounds-returns-clause-made t c =
    bounds_end (renamed c.args.renaming.now) c.args.bound.now c.loop-item.copy c.items-item-items.result.now c.loop-item.item-index c.args.bounds.now c.loop-item-test.false c.items-item-items.ensures c.loop-item.invariant.0

pub made_fields-returns-clause-made : goal.made_fields-returns-clause-made
made_fields-returns-clause-made t c =
    fields_end (renamed c.args.renaming.now) c.args.bound.now c.loop-field.copy c.items-field-items.result.now c.loop-field.field-index c.args.fields.now c.loop-field-test.false c.items-field-items.ensures c.loop-field.invariant.0

pub made_changes-returns-clause-made : goal.made_changes-returns-clause-made
made_changes-returns-clause-made t c =
    changes_end (renamed c.args.renaming.now) c.args.bound.now c.loop-change.copy c.items-change-items.result.now c.loop-change.change-index c.args.changes.now c.loop-change-test.false c.items-change-items.ensures c.loop-change.invariant.0

pub made_arms-returns-clause-made : goal.made_arms-returns-clause-made
made_arms-returns-clause-made t c =
    arms_end (renamed c.args.renaming.now) c.args.bound.now c.loop-arm.copy c.items-arm-items.result.now c.loop-arm.arm-index c.args.arms.now c.loop-arm-test.false c.items-arm-items.ensures c.loop-arm.invariant.0

pub made_definitions-returns-clause-made : goal.made_definitions-returns-clause-made
made_definitions-returns-clause-made t c =
    definitions_end (renamed c.args.renaming.now) c.loop-definition.bound c.args.bound.now c.loop-definition.copy c.items-definition-items.result.now c.loop-definition.definition-index c.args.definitions.now c.loop-definition-test.false c.items-definition-items.ensures c.loop-definition.invariant.0

pub made_definitions-returns-clause-bound : goal.made_definitions-returns-clause-bound
made_definitions-returns-clause-bound t c =
    defined_end c.loop-definition.bound c.args.bound.now c.items-definition-items.result.now c.loop-definition.definition-index c.args.definitions.now c.loop-definition-test.false c.items-definition-items.ensures c.loop-definition.invariant.1

pub made_operands-made-requires : goal.made_operands-made-requires
made_operands-made-requires t c =
    let below : tree_size c.parts.result.0.now < operands_size (operands_of c.parts.result.0.now c.parts.result.1.now) = first_below c.parts.result.0.now c.parts.result.1.now in
    let whole : operands_size (operands_of c.parts.result.0.now c.parts.result.1.now) ≡ operands_size c.args.operands.now = ap operands_size c.parts.ensures in
    omega (arith, below, whole, c.decreases)

pub made_operands-made-requires-in-loop-operand : goal.made_operands-made-requires-in-loop-operand
made_operands-made-requires-in-loop-operand t c =
    let below : tree_size c.operand-item.result.value < operands_size (operands_of c.parts.result.0.now c.parts.result.1.now) = others_below c.parts.result.0.now c.parts.result.1.now c.loop-operand.operand-index c.operand-item.result c.loop-operand-test.true c.operand-item.is in
    let whole : operands_size (operands_of c.parts.result.0.now c.parts.result.1.now) ≡ operands_size c.args.operands.now = ap operands_size c.parts.ensures in
    omega (arith, below, whole, c.decreases)

pub made_each-loop-tree-preserved : goal.made_each-loop-tree-preserved
made_each-loop-tree-preserved t c =
    each_on (renamed c.args.renaming.now) c.args.bound.now c.loop-tree.bound c.made.new.bound c.loop-tree.copy c.push.new.self _ c.items-tree-items.result.now c.loop-tree.tree-index c.tree-item.result c.in_ok-item.item c.loop-tree-test.true c.tree-item.is c.in_ok-item.ensures.made c.in_ok-item.ensures.bound c.in_ok-push.ensures.pushed c.loop-tree.invariant

pub made_operands-loop-operand-preserved : goal.made_operands-loop-operand-preserved
made_operands-loop-operand-preserved t c =
    operands_on (renamed c.args.renaming.now) c.made.new.bound c.loop-operand.bound c.made-in-loop-operand.new.bound c.loop-operand.copy c.push.new.self _ c.parts.result.1.now c.loop-operand.operand-index c.operand-item.result c.in_ok-value.value c.loop-operand-test.true c.operand-item.is c.in_ok-value.ensures.made c.in_ok-value.ensures.bound c.in_ok-push.ensures.pushed c.loop-operand.invariant

pub made_steps-loop-item-preserved : goal.made_steps-loop-item-preserved
made_steps-loop-item-preserved t c =
    steps_on (renamed c.args.renaming.now) c.args.bound.now c.loop-item.bound c.made_step.new.bound c.loop-item.copy c.push.new.self _ c.items-item-items.result.now c.loop-item.item-index c.item-item.result (step_view c.in_ok-step.step) c.loop-item-test.true c.item-item.is c.in_ok-step.ensures.made c.in_ok-step.ensures.bound c.in_ok-push.ensures.pushed c.loop-item.invariant

pub made_bounds-loop-item-preserved : goal.made_bounds-loop-item-preserved
made_bounds-loop-item-preserved t c =
    bounds_on (renamed c.args.renaming.now) c.args.bound.now c.loop-item.bound c.made.new.bound c.loop-item.copy c.push.new.self _ c.items-item-items.result.now c.loop-item.item-index c.item-item.result c.in_ok-set.set c.in_ok-names.names c.loop-item-test.true c.item-item.is c.in_ok-set.ensures.made c.in_ok-set.ensures.bound c.in_ok-names.ensures c.in_ok-push.ensures.pushed c.loop-item.invariant

pub made_fields-loop-field-preserved : goal.made_fields-loop-field-preserved
made_fields-loop-field-preserved t c =
    fields_on (renamed c.args.renaming.now) c.args.bound.now c.loop-field.bound c.made.new.bound c.loop-field.copy c.push.new.self _ c.items-field-items.result.now c.loop-field.field-index c.field-item.result c.in_ok-value.value c.in_ok-name.name c.loop-field-test.true c.field-item.is c.in_ok-value.ensures.made c.in_ok-value.ensures.bound c.in_ok-name.ensures c.in_ok-push.ensures.pushed c.loop-field.invariant

pub made_changes-loop-change-preserved : goal.made_changes-loop-change-preserved
made_changes-loop-change-preserved t c =
    changes_on (renamed c.args.renaming.now) c.args.bound.now c.loop-change.bound c.made_steps.new.bound c.made.new.bound c.loop-change.copy c.push.new.self _ c.items-change-items.result.now c.loop-change.change-index c.change-item.result c.in_ok-path.path c.in_ok-value.value c.loop-change-test.true c.change-item.is c.in_ok-path.ensures.made c.in_ok-path.ensures.bound c.in_ok-value.ensures.made c.in_ok-value.ensures.bound c.in_ok-push.ensures.pushed c.loop-change.invariant

pub made_arms-loop-arm-preserved : goal.made_arms-loop-arm-preserved
made_arms-loop-arm-preserved t c =
    arms_on (renamed c.args.renaming.now) c.args.bound.now c.loop-arm.bound c.made.new.bound c.made-in-loop-arm.new.bound c.loop-arm.copy c.push.new.self _ c.items-arm-items.result.now c.loop-arm.arm-index c.arm-item.result c.in_ok-test.test c.in_ok-value.value c.loop-arm-test.true c.arm-item.is c.in_ok-test.ensures.made c.in_ok-test.ensures.bound c.in_ok-value.ensures.made c.in_ok-value.ensures.bound c.in_ok-push.ensures.pushed c.loop-arm.invariant

pub made_definitions-loop-definition-preserved : goal.made_definitions-loop-definition-preserved
made_definitions-loop-definition-preserved t c =
    definitions_on (renamed c.args.renaming.now) c.args.bound.now c.loop-definition.bound c.push.new.self c.made_body.new.bound c.loop-definition.copy c.push-in-loop-definition.new.self _ c.items-definition-items.result.now c.loop-definition.definition-index c.definition-item.result c.in_ok-name.name c.in_ok-params.params c.in_ok-body.body c.loop-definition-test.true c.definition-item.is c.in_ok-push.ensures c.in_ok-body.ensures.made c.in_ok-body.ensures.bound c.in_ok-name.ensures c.in_ok-params.ensures c.in_ok-push-2.ensures.pushed c.loop-definition.invariant

pub made_operands-returns-clause-made : goal.made_operands-returns-clause-made
made_operands-returns-clause-made t c =
    operands_end (renamed c.args.renaming.now) c.args.bound.now c.made.new.bound c.loop-operand.copy c.in_ok-copy.copy c.parts.result.0.now c.in_ok-first.first c.parts.result.1.now c.loop-operand.operand-index c.args.operands.now c.loop-operand-test.false c.parts.ensures c.in_ok-first.ensures.bound c.in_ok-first.ensures.made c.in_ok-copy.ensures c.loop-operand.invariant.0

pub made-loop-test-preserved-in-If : goal.made-loop-test-preserved-in-If
made-loop-test-preserved-in-If t c =
    if_opened (renamed c.args.renaming.now) c.args.bound.now c.args.tree.now c.loop-test.bound c.loop-test.rows.items c.loop-test.rest.now c.loop-test.invariant c.made.new.bound c.made-in-If.new.bound c.push.new.self.items c.rest.inside.at c.in-If.test c.in-If.then c.in-If.last c.in_ok-made_test-in-If.made_test c.in_ok-made_then-in-If.made_then (ap (node_view c.rest.inside.at) (sym c.in-If.is ∙ c.deref.ensures) ∙ c.rest.view_is)
    c.in_ok-made_test-in-If.ensures.bound c.in_ok-made_then-in-If.ensures.bound c.in_ok-made_test-in-If.ensures.made c.in_ok-made_then-in-If.ensures.made c.in_ok-push-in-If.ensures.items

pub made-loop-test-preserved-in-Quantified : goal.made-loop-test-preserved-in-Quantified
made-loop-test-preserved-in-Quantified t c =
    quantified_opened (renamed c.args.renaming.now) c.args.bound.now c.args.tree.now c.loop-test.bound c.loop-test.rows.items c.loop-test.rest.now c.loop-test.invariant c.made_bounds.new.bound c.push_bounds.new.self c.push-in-Quantified.new.self.items c.rest.inside.at c.in-Quantified.quantifier c.in-Quantified.bounds c.in_ok-sets-in-Quantified.sets c.in-Quantified.body (ap (node_view c.rest.inside.at) (sym c.in-Quantified.is ∙ c.deref.ensures) ∙ c.rest.view_is)
    c.in_ok-sets-in-Quantified.ensures.bound c.in_ok-push_bounds-in-Quantified.ensures c.in_ok-sets-in-Quantified.ensures.made c.in_ok-push-in-Quantified.ensures.items

pub made-loop-test-preserved-in-Choose : goal.made-loop-test-preserved-in-Choose
made-loop-test-preserved-in-Choose t c =
    choose_opened (renamed c.args.renaming.now) c.args.bound.now c.args.tree.now c.loop-test.bound c.loop-test.rows.items c.loop-test.rest.now c.loop-test.invariant c.made-in-Choose.new.bound c.push-in-Choose.new.self c.push-in-Choose-2.new.self.items c.rest.inside.at c.in-Choose.name c.in_ok-same_name-in-Choose.same_name c.in-Choose.set c.in_ok-made_set-in-Choose.made_set c.in-Choose.body (ap (node_view c.rest.inside.at) (sym c.in-Choose.is ∙ c.deref.ensures) ∙ c.rest.view_is)
    c.in_ok-made_set-in-Choose.ensures.bound c.in_ok-push-in-Choose.ensures c.in_ok-same_name-in-Choose.ensures c.in_ok-made_set-in-Choose.ensures.made c.in_ok-push-in-Choose-2.ensures.items

pub made-loop-test-preserved : goal.made-loop-test-preserved
made-loop-test-preserved t c =
    let_opened (renamed c.args.renaming.now) c.args.bound.now c.args.tree.now c.loop-test.bound c.loop-test.rows.items c.loop-test.rest.now c.loop-test.invariant c.made_definitions.new.bound c.push-in-Let.new.self.items c.rest.inside.at c.in-Let.definitions c.in_ok-made-in-Let.made c.in-Let.body (ap (node_view c.rest.inside.at) (sym c.in-Let.is ∙ c.deref.ensures) ∙ c.rest.view_is)
    c.in_ok-made-in-Let.ensures.bound c.in_ok-made-in-Let.ensures.made c.in_ok-push-in-Let.ensures.items
