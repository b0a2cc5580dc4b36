use Rattle.std.proofs.Common.{◌≡◌, ◌<◌, ◌∙◌, refl, ap, sym, arith, true, false}
use Rattle.reading_trees.specs.Trees as tree
use Rattle.reading_trees.specs.Trees.{Tree}
use Rattle.reading_trees.specs.TreeSizes.{tree_size, trees_size, operands_size, step_size, steps_size, bounds_size, fields_size, changes_size, arms_size, definitions_size}
use Rattle.reading_trees.specs.TreeViews.{step_view, trees_of, operands_of, steps_of, bounds_of, fields_of, changes_of, arms_of, definitions_of}
use Rattle.names_scopes.specs.Mentions.{is_one_of, mentions, mentions_each, mentions_operands, mentions_step, mentions_steps, mentions_bounds, mentions_fields, mentions_changes, mentions_arms, mentions_definitions}
use Rattle.names_scopes.proofs.Below.{tree_below, first_below, operand_below, step_below, set_below, field_below, path_below, change_below, test_below, arm_below, body_below, step_falls}
use Rattle.names_scopes.specs.FirstOperands.{first_of}
use Rattle.names_scopes.proofs.FirstLemmas.{first_is}
use Rattle.names_scopes.proofs.MentionLoops as loops
use Rattle.names_scopes.proofs.free_names.+mentions.Goals as goal

pub mentions_each-mentions-requires : goal.mentions_each-mentions-requires
mentions_each-mentions-requires t c =
    let below : tree_size c.tree-item.result < trees_size (trees_of c.items-tree-items.result.now) = tree_below tree.NoTrees c.items-tree-items.result.now c.loop-tree.tree-index c.tree-item.result c.loop-tree-test.true c.tree-item.is in
    let whole : trees_size (trees_of c.items-tree-items.result.now) ≡ trees_size c.args.trees.now = ap trees_size c.items-tree-items.ensures in
    (omega (arith, below, whole, c.decreases), tt)

pub mentions_each-returns-then-mentions : goal.mentions_each-returns-then-mentions
mentions_each-returns-then-mentions t c =
    sym (ap (λ (l : tree.Trees). mentions_each c.args.name.now l) (sym c.items-tree-items.ensures) ∙ loops.Each_found c.args.name.now c.items-tree-items.result.now c.loop-tree.tree-index c.tree-item.result c.loop-tree-test.true c.tree-item.is c.loop-tree.invariant (sym c.mentions.ensures ∙ c.if-mentions.true))

pub mentions_each-loop-tree-preserved : goal.mentions_each-loop-tree-preserved
mentions_each-loop-tree-preserved t c =
    loops.Each_on c.args.name.now c.items-tree-items.result.now c.loop-tree.tree-index c.tree-item.result c.loop-tree-test.true c.tree-item.is c.loop-tree.invariant (sym c.mentions.ensures ∙ c.if-mentions.false)

pub mentions_each-loop-tree-init : goal.mentions_each-loop-tree-init
mentions_each-loop-tree-init t c = record { so_far = tree.NoTrees; whole = refl; none = refl }

pub mentions_each-returns : goal.mentions_each-returns
mentions_each-returns t c =
    sym (ap (λ (l : tree.Trees). mentions_each c.args.name.now l) (sym c.items-tree-items.ensures) ∙ loops.Each_end c.args.name.now c.items-tree-items.result.now c.loop-tree.tree-index c.loop-tree-test.false c.loop-tree.invariant)

pub mentions_steps-mentions_step-requires : goal.mentions_steps-mentions_step-requires
mentions_steps-mentions_step-requires t c =
    let below : step_size (step_view c.step-item.result.step) < steps_size (steps_of c.items-step-items.result.now) = step_below tree.NoSteps c.items-step-items.result.now c.loop-step.step-index c.step-item.result c.loop-step-test.true c.step-item.is in
    let whole : steps_size (steps_of c.items-step-items.result.now) ≡ steps_size c.args.steps.now = ap steps_size c.items-step-items.ensures in
    (omega (arith, below, whole, c.decreases, step_falls c.step-item.result.step), tt)

pub mentions_steps-returns-then-mentions_step : goal.mentions_steps-returns-then-mentions_step
mentions_steps-returns-then-mentions_step t c =
    sym (ap (λ (l : tree.Steps). mentions_steps c.args.name.now l) (sym c.items-step-items.ensures) ∙ loops.Steps_found c.args.name.now c.items-step-items.result.now c.loop-step.step-index c.step-item.result c.loop-step-test.true c.step-item.is c.loop-step.invariant (sym c.mentions_step.ensures ∙ c.if-mentions_step.true))

pub mentions_steps-loop-step-preserved : goal.mentions_steps-loop-step-preserved
mentions_steps-loop-step-preserved t c =
    loops.Steps_on c.args.name.now c.items-step-items.result.now c.loop-step.step-index c.step-item.result c.loop-step-test.true c.step-item.is c.loop-step.invariant (sym c.mentions_step.ensures ∙ c.if-mentions_step.false)

pub mentions_steps-loop-step-init : goal.mentions_steps-loop-step-init
mentions_steps-loop-step-init t c = record { so_far = tree.NoSteps; whole = refl; none = refl }

pub mentions_steps-returns : goal.mentions_steps-returns
mentions_steps-returns t c =
    sym (ap (λ (l : tree.Steps). mentions_steps c.args.name.now l) (sym c.items-step-items.ensures) ∙ loops.Steps_end c.args.name.now c.items-step-items.result.now c.loop-step.step-index c.loop-step-test.false c.loop-step.invariant)

pub mentions_bounds-mentions-requires : goal.mentions_bounds-mentions-requires
mentions_bounds-mentions-requires t c =
    let below : tree_size c.bound-item.result.set < bounds_size (bounds_of c.items-bound-items.result.now) = set_below tree.NoBounds c.items-bound-items.result.now c.loop-bound.bound-index c.bound-item.result c.loop-bound-test.true c.bound-item.is in
    let whole : bounds_size (bounds_of c.items-bound-items.result.now) ≡ bounds_size c.args.bounds.now = ap bounds_size c.items-bound-items.ensures in
    (omega (arith, below, whole, c.decreases), tt)

pub mentions_bounds-returns-then-mentions : goal.mentions_bounds-returns-then-mentions
mentions_bounds-returns-then-mentions t c =
    sym (ap (λ (l : tree.Bounds). mentions_bounds c.args.name.now l) (sym c.items-bound-items.ensures) ∙ loops.Bounds_found c.args.name.now c.items-bound-items.result.now c.loop-bound.bound-index c.bound-item.result c.loop-bound-test.true c.bound-item.is c.loop-bound.invariant (sym c.mentions.ensures ∙ c.if-mentions.true))

pub mentions_bounds-loop-bound-preserved : goal.mentions_bounds-loop-bound-preserved
mentions_bounds-loop-bound-preserved t c =
    loops.Bounds_on c.args.name.now c.items-bound-items.result.now c.loop-bound.bound-index c.bound-item.result c.loop-bound-test.true c.bound-item.is c.loop-bound.invariant (sym c.mentions.ensures ∙ c.if-mentions.false)

pub mentions_bounds-loop-bound-init : goal.mentions_bounds-loop-bound-init
mentions_bounds-loop-bound-init t c = record { so_far = tree.NoBounds; whole = refl; none = refl }

pub mentions_bounds-returns : goal.mentions_bounds-returns
mentions_bounds-returns t c =
    sym (ap (λ (l : tree.Bounds). mentions_bounds c.args.name.now l) (sym c.items-bound-items.ensures) ∙ loops.Bounds_end c.args.name.now c.items-bound-items.result.now c.loop-bound.bound-index c.loop-bound-test.false c.loop-bound.invariant)

pub mentions_fields-mentions-requires : goal.mentions_fields-mentions-requires
mentions_fields-mentions-requires t c =
    let below : tree_size c.field-item.result.value < fields_size (fields_of c.items-field-items.result.now) = field_below tree.NoFields c.items-field-items.result.now c.loop-field.field-index c.field-item.result c.loop-field-test.true c.field-item.is in
    let whole : fields_size (fields_of c.items-field-items.result.now) ≡ fields_size c.args.fields.now = ap fields_size c.items-field-items.ensures in
    (omega (arith, below, whole, c.decreases), tt)

pub mentions_fields-returns-then-mentions : goal.mentions_fields-returns-then-mentions
mentions_fields-returns-then-mentions t c =
    sym (ap (λ (l : tree.Fields). mentions_fields c.args.name.now l) (sym c.items-field-items.ensures) ∙ loops.Fields_found c.args.name.now c.items-field-items.result.now c.loop-field.field-index c.field-item.result c.loop-field-test.true c.field-item.is c.loop-field.invariant (sym c.mentions.ensures ∙ c.if-mentions.true))

pub mentions_fields-loop-field-preserved : goal.mentions_fields-loop-field-preserved
mentions_fields-loop-field-preserved t c =
    loops.Fields_on c.args.name.now c.items-field-items.result.now c.loop-field.field-index c.field-item.result c.loop-field-test.true c.field-item.is c.loop-field.invariant (sym c.mentions.ensures ∙ c.if-mentions.false)

pub mentions_fields-loop-field-init : goal.mentions_fields-loop-field-init
mentions_fields-loop-field-init t c = record { so_far = tree.NoFields; whole = refl; none = refl }

pub mentions_fields-returns : goal.mentions_fields-returns
mentions_fields-returns t c =
    sym (ap (λ (l : tree.Fields). mentions_fields c.args.name.now l) (sym c.items-field-items.ensures) ∙ loops.Fields_end c.args.name.now c.items-field-items.result.now c.loop-field.field-index c.loop-field-test.false c.loop-field.invariant)

pub mentions_changes-mentions_steps-requires : goal.mentions_changes-mentions_steps-requires
mentions_changes-mentions_steps-requires t c =
    let below : steps_size c.change-item.result.path < changes_size (changes_of c.items-change-items.result.now) = path_below tree.NoChanges c.items-change-items.result.now c.loop-change.change-index c.change-item.result c.loop-change-test.true c.change-item.is in
    let whole : changes_size (changes_of c.items-change-items.result.now) ≡ changes_size c.args.changes.now = ap changes_size c.items-change-items.ensures in
    (omega (arith, below, whole, c.decreases), tt)

pub mentions_changes-returns-then-mentions_steps : goal.mentions_changes-returns-then-mentions_steps
mentions_changes-returns-then-mentions_steps t c =
    sym (ap (λ (l : tree.Changes). mentions_changes c.args.name.now l) (sym c.items-change-items.ensures) ∙ loops.Changes_found0 c.args.name.now c.items-change-items.result.now c.loop-change.change-index c.change-item.result c.loop-change-test.true c.change-item.is c.loop-change.invariant (sym c.mentions_steps.ensures ∙ c.if-mentions_steps.true))

pub mentions_changes-mentions-requires : goal.mentions_changes-mentions-requires
mentions_changes-mentions-requires t c =
    let below : tree_size c.change-item.result.value < changes_size (changes_of c.items-change-items.result.now) = change_below tree.NoChanges c.items-change-items.result.now c.loop-change.change-index c.change-item.result c.loop-change-test.true c.change-item.is in
    let whole : changes_size (changes_of c.items-change-items.result.now) ≡ changes_size c.args.changes.now = ap changes_size c.items-change-items.ensures in
    (omega (arith, below, whole, c.decreases), tt)

pub mentions_changes-returns-then-mentions : goal.mentions_changes-returns-then-mentions
mentions_changes-returns-then-mentions t c =
    sym (ap (λ (l : tree.Changes). mentions_changes c.args.name.now l) (sym c.items-change-items.ensures) ∙ loops.Changes_seen c.args.name.now c.items-change-items.result.now c.loop-change.change-index c.change-item.result c.loop-change-test.true c.change-item.is c.loop-change.invariant (sym c.is_at_sign.ensures ∙ c.if-is_at_sign.false) (sym c.mentions.ensures ∙ c.if-mentions.true))

pub mentions_changes-loop-change-preserved-then-is_at_sign : goal.mentions_changes-loop-change-preserved-then-is_at_sign
mentions_changes-loop-change-preserved-then-is_at_sign t c =
    loops.Changes_hidden c.args.name.now c.items-change-items.result.now c.loop-change.change-index c.change-item.result c.loop-change-test.true c.change-item.is c.loop-change.invariant (sym c.mentions_steps.ensures ∙ c.if-mentions_steps.false) (sym c.is_at_sign.ensures ∙ c.if-is_at_sign.true)

pub mentions_changes-loop-change-preserved : goal.mentions_changes-loop-change-preserved
mentions_changes-loop-change-preserved t c =
    loops.Changes_none c.args.name.now c.items-change-items.result.now c.loop-change.change-index c.change-item.result c.loop-change-test.true c.change-item.is c.loop-change.invariant (sym c.mentions_steps.ensures ∙ c.if-mentions_steps.false) (sym c.mentions.ensures ∙ c.if-mentions.false)

pub mentions_changes-loop-change-init : goal.mentions_changes-loop-change-init
mentions_changes-loop-change-init t c = record { so_far = tree.NoChanges; whole = refl; none = refl }

pub mentions_changes-returns : goal.mentions_changes-returns
mentions_changes-returns t c =
    sym (ap (λ (l : tree.Changes). mentions_changes c.args.name.now l) (sym c.items-change-items.ensures) ∙ loops.Changes_end c.args.name.now c.items-change-items.result.now c.loop-change.change-index c.loop-change-test.false c.loop-change.invariant)

pub mentions_arms-mentions-requires : goal.mentions_arms-mentions-requires
mentions_arms-mentions-requires t c =
    let below : tree_size c.arm-item.result.test < arms_size (arms_of c.items-arm-items.result.now) = test_below tree.NoArms c.items-arm-items.result.now c.loop-arm.arm-index c.arm-item.result c.loop-arm-test.true c.arm-item.is in
    let whole : arms_size (arms_of c.items-arm-items.result.now) ≡ arms_size c.args.arms.now = ap arms_size c.items-arm-items.ensures in
    (omega (arith, below, whole, c.decreases), tt)

pub mentions_arms-returns-then-mentions : goal.mentions_arms-returns-then-mentions
mentions_arms-returns-then-mentions t c =
    sym (ap (λ (l : tree.Arms). mentions_arms c.args.name.now l) (sym c.items-arm-items.ensures) ∙ loops.Arms_found0 c.args.name.now c.items-arm-items.result.now c.loop-arm.arm-index c.arm-item.result c.loop-arm-test.true c.arm-item.is c.loop-arm.invariant (sym c.mentions.ensures ∙ c.if-mentions.true))

pub mentions_arms-mentions-requires-in-loop-arm : goal.mentions_arms-mentions-requires-in-loop-arm
mentions_arms-mentions-requires-in-loop-arm t c =
    let below : tree_size c.arm-item.result.value < arms_size (arms_of c.items-arm-items.result.now) = arm_below tree.NoArms c.items-arm-items.result.now c.loop-arm.arm-index c.arm-item.result c.loop-arm-test.true c.arm-item.is in
    let whole : arms_size (arms_of c.items-arm-items.result.now) ≡ arms_size c.args.arms.now = ap arms_size c.items-arm-items.ensures in
    (omega (arith, below, whole, c.decreases), tt)

pub mentions_arms-returns-then-mentions-2 : goal.mentions_arms-returns-then-mentions-2
mentions_arms-returns-then-mentions-2 t c =
    sym (ap (λ (l : tree.Arms). mentions_arms c.args.name.now l) (sym c.items-arm-items.ensures) ∙ loops.Arms_found1 c.args.name.now c.items-arm-items.result.now c.loop-arm.arm-index c.arm-item.result c.loop-arm-test.true c.arm-item.is c.loop-arm.invariant (sym c.mentions-in-loop-arm.ensures ∙ c.if-mentions-2.true))

pub mentions_arms-loop-arm-preserved : goal.mentions_arms-loop-arm-preserved
mentions_arms-loop-arm-preserved t c =
    loops.Arms_on c.args.name.now c.items-arm-items.result.now c.loop-arm.arm-index c.arm-item.result c.loop-arm-test.true c.arm-item.is c.loop-arm.invariant (sym c.mentions.ensures ∙ c.if-mentions.false) (sym c.mentions-in-loop-arm.ensures ∙ c.if-mentions-2.false)

pub mentions_arms-loop-arm-init : goal.mentions_arms-loop-arm-init
mentions_arms-loop-arm-init t c = record { so_far = tree.NoArms; whole = refl; none = refl }

pub mentions_arms-returns : goal.mentions_arms-returns
mentions_arms-returns t c =
    sym (ap (λ (l : tree.Arms). mentions_arms c.args.name.now l) (sym c.items-arm-items.ensures) ∙ loops.Arms_end c.args.name.now c.items-arm-items.result.now c.loop-arm.arm-index c.loop-arm-test.false c.loop-arm.invariant)

pub mentions_definitions-mentions-requires : goal.mentions_definitions-mentions-requires
mentions_definitions-mentions-requires t c =
    let below : tree_size c.definition-item.result.body < definitions_size (definitions_of c.items-definition-items.result.now) = body_below tree.NoDefinitions c.items-definition-items.result.now c.loop-definition.definition-index c.definition-item.result c.loop-definition-test.true c.definition-item.is in
    let whole : definitions_size (definitions_of c.items-definition-items.result.now) ≡ definitions_size c.args.definitions.now = ap definitions_size c.items-definition-items.ensures in
    (omega (arith, below, whole, c.decreases), tt)

pub mentions_definitions-returns-then-eq : goal.mentions_definitions-returns-then-eq
mentions_definitions-returns-then-eq t c =
    sym (ap (λ (l : tree.Definitions). mentions_definitions c.args.name.now l) (sym c.items-definition-items.ensures) ∙ loops.definitions_cut c.args.name.now c.items-definition-items.result.now c.loop-definition.definition-index c.definition-item.result c.loop-definition-test.true c.definition-item.is c.loop-definition.invariant (sym c.eq.ensures ∙ c.if-eq.true))

pub mentions_definitions-returns-then-mentions : goal.mentions_definitions-returns-then-mentions
mentions_definitions-returns-then-mentions t c =
    sym (ap (λ (l : tree.Definitions). mentions_definitions c.args.name.now l) (sym c.items-definition-items.ensures) ∙ loops.definitions_found c.args.name.now c.items-definition-items.result.now c.loop-definition.definition-index c.definition-item.result c.loop-definition-test.true c.definition-item.is c.loop-definition.invariant (sym c.eq.ensures ∙ c.if-eq.false) (ap (λ ns. is_one_of c.args.name.now ns) (sym c.items.ensures) ∙ sym c.is_one_of.ensures ∙ c.if-is_one_of.false) (sym c.mentions.ensures ∙ c.if-mentions.true))

pub mentions_definitions-loop-definition-preserved-then-is_one_of : goal.mentions_definitions-loop-definition-preserved-then-is_one_of
mentions_definitions-loop-definition-preserved-then-is_one_of t c =
    loops.definitions_hidden c.args.name.now c.items-definition-items.result.now c.loop-definition.definition-index c.definition-item.result c.loop-definition-test.true c.definition-item.is c.loop-definition.invariant (sym c.eq.ensures ∙ c.if-eq.false) (ap (λ ns. is_one_of c.args.name.now ns) (sym c.items.ensures) ∙ sym c.is_one_of.ensures ∙ c.if-is_one_of.true)

pub mentions_definitions-loop-definition-preserved : goal.mentions_definitions-loop-definition-preserved
mentions_definitions-loop-definition-preserved t c =
    loops.definitions_on c.args.name.now c.items-definition-items.result.now c.loop-definition.definition-index c.definition-item.result c.loop-definition-test.true c.definition-item.is c.loop-definition.invariant (sym c.eq.ensures ∙ c.if-eq.false) (sym c.mentions.ensures ∙ c.if-mentions.false)

pub mentions_definitions-loop-definition-init : goal.mentions_definitions-loop-definition-init
mentions_definitions-loop-definition-init t c = record { so_far = tree.NoDefinitions; whole = refl; none = refl; free = refl }

pub mentions_definitions-returns : goal.mentions_definitions-returns
mentions_definitions-returns t c =
    sym (ap (λ (l : tree.Definitions). mentions_definitions c.args.name.now l) (sym c.items-definition-items.ensures) ∙ loops.definitions_end c.args.name.now c.items-definition-items.result.now c.loop-definition.definition-index c.loop-definition-test.false c.loop-definition.invariant)

pub mentions_operands-mentions-requires : goal.mentions_operands-mentions-requires
mentions_operands-mentions-requires t c =
    let below : tree_size c.parts.result.0.now < operands_size (operands_of c.parts.result.0.now c.parts.result.1.now) = first_below c.parts.result.0.now c.parts.result.1.now in
    let whole : operands_size (operands_of c.parts.result.0.now c.parts.result.1.now) ≡ operands_size c.args.operands.now = ap operands_size c.parts.ensures in
    (omega (arith, below, whole, c.decreases), tt)

pub mentions_operands-returns-then-mentions : goal.mentions_operands-returns-then-mentions
mentions_operands-returns-then-mentions t c =
    sym (loops.first_found c.args.name.now c.parts.result.0.now c.parts.result.1.now c.args.operands.now c.parts.ensures (sym c.mentions.ensures ∙ c.if-mentions.true))

pub mentions_operands-mentions_others-requires : goal.mentions_operands-mentions_others-requires
mentions_operands-mentions_others-requires t c =
    (omega (arith, c.decreases), ap (λ (x : Tree). mentions c.args.name.now x) (first_is c.parts.result.0.now c.parts.result.1.now c.args.operands.now c.parts.ensures) ∙ sym c.mentions.ensures ∙ c.if-mentions.false)

pub mentions_others-mentions-requires : goal.mentions_others-mentions-requires
mentions_others-mentions-requires t c =
    let below : tree_size c.operand-item.result.value < operands_size (operands_of (first_of c.args.operands.now) c.others_of-operand-items.result.now) = operand_below (tree.First (first_of c.args.operands.now)) c.others_of-operand-items.result.now c.loop-operand.operand-index c.operand-item.result c.loop-operand-test.true c.operand-item.is in
    let whole : operands_size (operands_of (first_of c.args.operands.now) c.others_of-operand-items.result.now) ≡ operands_size c.args.operands.now = ap operands_size c.others_of-operand-items.ensures in
    (omega (arith, below, whole, c.decreases), tt)

pub mentions_others-returns-then-mentions : goal.mentions_others-returns-then-mentions
mentions_others-returns-then-mentions t c =
    loops.others_found c.args.name.now c.others_of-operand-items.result.now c.loop-operand.operand-index c.operand-item.result c.loop-operand-test.true c.operand-item.is c.loop-operand.invariant (sym c.mentions.ensures ∙ c.if-mentions.true) (tree.First (first_of c.args.operands.now)) c.requires ∙ ap (λ (l : tree.Operands). mentions_operands c.args.name.now l) c.others_of-operand-items.ensures

pub mentions_others-loop-operand-preserved : goal.mentions_others-loop-operand-preserved
mentions_others-loop-operand-preserved t c =
    loops.others_on c.args.name.now c.others_of-operand-items.result.now c.loop-operand.operand-index c.operand-item.result c.loop-operand-test.true c.operand-item.is c.loop-operand.invariant (sym c.mentions.ensures ∙ c.if-mentions.false)

pub mentions_others-loop-operand-init : goal.mentions_others-loop-operand-init
mentions_others-loop-operand-init t c = loops.others_begin c.args.name.now c.others_of-operand-items.result.now

pub mentions_others-returns : goal.mentions_others-returns
mentions_others-returns t c =
    loops.others_end c.args.name.now c.others_of-operand-items.result.now c.loop-operand.operand-index c.loop-operand-test.false c.loop-operand.invariant (tree.First (first_of c.args.operands.now)) c.requires ∙ ap (λ (l : tree.Operands). mentions_operands c.args.name.now l) c.others_of-operand-items.ensures
