use Rattle.std.proofs.Common.{◌≡◌, ◌<◌, ◌∙◌, refl, ap, sym, arith, true, false}
use Rattle.reading_trees.specs.Trees as tree
use Rattle.reading_trees.specs.Trees.{Tree}
use Rattle.reading_trees.specs.TreeSizes.{tree_size, trees_size, operands_size, step_size, steps_size, bounds_size, fields_size, changes_size, arms_size, definitions_size}
use Rattle.reading_trees.specs.TreeViews.{step_view, trees_of, operands_of, steps_of, bounds_of, fields_of, changes_of, arms_of, definitions_of}
use Rattle.names_scopes.specs.Mentions.{is_one_of}
use Rattle.names_scopes.specs.Applied.{bare, bare_each, bare_operands, bare_step, bare_steps, bare_bounds, bare_fields, bare_changes, bare_arms, bare_definitions}
use Rattle.names_scopes.proofs.Below.{tree_below, first_below, operand_below, step_below, set_below, field_below, path_below, change_below, test_below, arm_below, body_below, step_falls}
use Rattle.names_scopes.specs.FirstOperands.{first_of}
use Rattle.names_scopes.proofs.FirstLemmas.{first_is}
use Rattle.names_scopes.proofs.BareLoops as loops
use Rattle.names_scopes.proofs.applied.+bare.Goals as goal

pub bare_each-bare-requires : goal.bare_each-bare-requires
bare_each-bare-requires t c =
    let below : tree_size c.tree-item.result < trees_size (trees_of c.items-tree-items.result.now) = tree_below tree.NoTrees c.items-tree-items.result.now c.loop-tree.tree-index c.tree-item.result c.loop-tree-test.true c.tree-item.is in
    let whole : trees_size (trees_of c.items-tree-items.result.now) ≡ trees_size c.args.trees.now = ap trees_size c.items-tree-items.ensures in
    (omega (arith, below, whole, c.decreases), tt)

pub bare_each-returns-then-bare : goal.bare_each-returns-then-bare
bare_each-returns-then-bare t c =
    sym (ap (λ (l : tree.Trees). bare_each c.args.name.now l) (sym c.items-tree-items.ensures) ∙ loops.Each_found c.args.name.now c.items-tree-items.result.now c.loop-tree.tree-index c.tree-item.result c.loop-tree-test.true c.tree-item.is c.loop-tree.invariant (sym c.bare.ensures ∙ c.if-bare.true))

pub bare_each-loop-tree-preserved : goal.bare_each-loop-tree-preserved
bare_each-loop-tree-preserved t c =
    loops.Each_on c.args.name.now c.items-tree-items.result.now c.loop-tree.tree-index c.tree-item.result c.loop-tree-test.true c.tree-item.is c.loop-tree.invariant (sym c.bare.ensures ∙ c.if-bare.false)

pub bare_each-loop-tree-init : goal.bare_each-loop-tree-init
bare_each-loop-tree-init t c = record { so_far = tree.NoTrees; whole = refl; none = refl }

pub bare_each-returns : goal.bare_each-returns
bare_each-returns t c =
    sym (ap (λ (l : tree.Trees). bare_each c.args.name.now l) (sym c.items-tree-items.ensures) ∙ loops.Each_end c.args.name.now c.items-tree-items.result.now c.loop-tree.tree-index c.loop-tree-test.false c.loop-tree.invariant)

pub bare_steps-bare_step-requires : goal.bare_steps-bare_step-requires
bare_steps-bare_step-requires t c =
    let below : step_size (step_view c.step-item.result.step) < steps_size (steps_of c.items-step-items.result.now) = step_below tree.NoSteps c.items-step-items.result.now c.loop-step.step-index c.step-item.result c.loop-step-test.true c.step-item.is in
    let whole : steps_size (steps_of c.items-step-items.result.now) ≡ steps_size c.args.steps.now = ap steps_size c.items-step-items.ensures in
    (omega (arith, below, whole, c.decreases, step_falls c.step-item.result.step), tt)

pub bare_steps-returns-then-bare_step : goal.bare_steps-returns-then-bare_step
bare_steps-returns-then-bare_step t c =
    sym (ap (λ (l : tree.Steps). bare_steps c.args.name.now l) (sym c.items-step-items.ensures) ∙ loops.Steps_found c.args.name.now c.items-step-items.result.now c.loop-step.step-index c.step-item.result c.loop-step-test.true c.step-item.is c.loop-step.invariant (sym c.bare_step.ensures ∙ c.if-bare_step.true))

pub bare_steps-loop-step-preserved : goal.bare_steps-loop-step-preserved
bare_steps-loop-step-preserved t c =
    loops.Steps_on c.args.name.now c.items-step-items.result.now c.loop-step.step-index c.step-item.result c.loop-step-test.true c.step-item.is c.loop-step.invariant (sym c.bare_step.ensures ∙ c.if-bare_step.false)

pub bare_steps-loop-step-init : goal.bare_steps-loop-step-init
bare_steps-loop-step-init t c = record { so_far = tree.NoSteps; whole = refl; none = refl }

pub bare_steps-returns : goal.bare_steps-returns
bare_steps-returns t c =
    sym (ap (λ (l : tree.Steps). bare_steps c.args.name.now l) (sym c.items-step-items.ensures) ∙ loops.Steps_end c.args.name.now c.items-step-items.result.now c.loop-step.step-index c.loop-step-test.false c.loop-step.invariant)

pub bare_bounds-bare-requires : goal.bare_bounds-bare-requires
bare_bounds-bare-requires t c =
    let below : tree_size c.bound-item.result.set < bounds_size (bounds_of c.items-bound-items.result.now) = set_below tree.NoBounds c.items-bound-items.result.now c.loop-bound.bound-index c.bound-item.result c.loop-bound-test.true c.bound-item.is in
    let whole : bounds_size (bounds_of c.items-bound-items.result.now) ≡ bounds_size c.args.bounds.now = ap bounds_size c.items-bound-items.ensures in
    (omega (arith, below, whole, c.decreases), tt)

pub bare_bounds-returns-then-bare : goal.bare_bounds-returns-then-bare
bare_bounds-returns-then-bare t c =
    sym (ap (λ (l : tree.Bounds). bare_bounds c.args.name.now l) (sym c.items-bound-items.ensures) ∙ loops.Bounds_found c.args.name.now c.items-bound-items.result.now c.loop-bound.bound-index c.bound-item.result c.loop-bound-test.true c.bound-item.is c.loop-bound.invariant (sym c.bare.ensures ∙ c.if-bare.true))

pub bare_bounds-loop-bound-preserved : goal.bare_bounds-loop-bound-preserved
bare_bounds-loop-bound-preserved t c =
    loops.Bounds_on c.args.name.now c.items-bound-items.result.now c.loop-bound.bound-index c.bound-item.result c.loop-bound-test.true c.bound-item.is c.loop-bound.invariant (sym c.bare.ensures ∙ c.if-bare.false)

pub bare_bounds-loop-bound-init : goal.bare_bounds-loop-bound-init
bare_bounds-loop-bound-init t c = record { so_far = tree.NoBounds; whole = refl; none = refl }

pub bare_bounds-returns : goal.bare_bounds-returns
bare_bounds-returns t c =
    sym (ap (λ (l : tree.Bounds). bare_bounds c.args.name.now l) (sym c.items-bound-items.ensures) ∙ loops.Bounds_end c.args.name.now c.items-bound-items.result.now c.loop-bound.bound-index c.loop-bound-test.false c.loop-bound.invariant)

pub bare_fields-bare-requires : goal.bare_fields-bare-requires
bare_fields-bare-requires t c =
    let below : tree_size c.field-item.result.value < fields_size (fields_of c.items-field-items.result.now) = field_below tree.NoFields c.items-field-items.result.now c.loop-field.field-index c.field-item.result c.loop-field-test.true c.field-item.is in
    let whole : fields_size (fields_of c.items-field-items.result.now) ≡ fields_size c.args.fields.now = ap fields_size c.items-field-items.ensures in
    (omega (arith, below, whole, c.decreases), tt)

pub bare_fields-returns-then-bare : goal.bare_fields-returns-then-bare
bare_fields-returns-then-bare t c =
    sym (ap (λ (l : tree.Fields). bare_fields c.args.name.now l) (sym c.items-field-items.ensures) ∙ loops.Fields_found c.args.name.now c.items-field-items.result.now c.loop-field.field-index c.field-item.result c.loop-field-test.true c.field-item.is c.loop-field.invariant (sym c.bare.ensures ∙ c.if-bare.true))

pub bare_fields-loop-field-preserved : goal.bare_fields-loop-field-preserved
bare_fields-loop-field-preserved t c =
    loops.Fields_on c.args.name.now c.items-field-items.result.now c.loop-field.field-index c.field-item.result c.loop-field-test.true c.field-item.is c.loop-field.invariant (sym c.bare.ensures ∙ c.if-bare.false)

pub bare_fields-loop-field-init : goal.bare_fields-loop-field-init
bare_fields-loop-field-init t c = record { so_far = tree.NoFields; whole = refl; none = refl }

pub bare_fields-returns : goal.bare_fields-returns
bare_fields-returns t c =
    sym (ap (λ (l : tree.Fields). bare_fields c.args.name.now l) (sym c.items-field-items.ensures) ∙ loops.Fields_end c.args.name.now c.items-field-items.result.now c.loop-field.field-index c.loop-field-test.false c.loop-field.invariant)

pub bare_changes-bare_steps-requires : goal.bare_changes-bare_steps-requires
bare_changes-bare_steps-requires t c =
    let below : steps_size c.change-item.result.path < changes_size (changes_of c.items-change-items.result.now) = path_below tree.NoChanges c.items-change-items.result.now c.loop-change.change-index c.change-item.result c.loop-change-test.true c.change-item.is in
    let whole : changes_size (changes_of c.items-change-items.result.now) ≡ changes_size c.args.changes.now = ap changes_size c.items-change-items.ensures in
    (omega (arith, below, whole, c.decreases), tt)

pub bare_changes-returns-then-bare_steps : goal.bare_changes-returns-then-bare_steps
bare_changes-returns-then-bare_steps t c =
    sym (ap (λ (l : tree.Changes). bare_changes c.args.name.now l) (sym c.items-change-items.ensures) ∙ loops.Changes_found0 c.args.name.now c.items-change-items.result.now c.loop-change.change-index c.change-item.result c.loop-change-test.true c.change-item.is c.loop-change.invariant (sym c.bare_steps.ensures ∙ c.if-bare_steps.true))

pub bare_changes-bare-requires : goal.bare_changes-bare-requires
bare_changes-bare-requires t c =
    let below : tree_size c.change-item.result.value < changes_size (changes_of c.items-change-items.result.now) = change_below tree.NoChanges c.items-change-items.result.now c.loop-change.change-index c.change-item.result c.loop-change-test.true c.change-item.is in
    let whole : changes_size (changes_of c.items-change-items.result.now) ≡ changes_size c.args.changes.now = ap changes_size c.items-change-items.ensures in
    (omega (arith, below, whole, c.decreases), tt)

pub bare_changes-returns-then-bare : goal.bare_changes-returns-then-bare
bare_changes-returns-then-bare t c =
    sym (ap (λ (l : tree.Changes). bare_changes c.args.name.now l) (sym c.items-change-items.ensures) ∙ loops.Changes_seen c.args.name.now c.items-change-items.result.now c.loop-change.change-index c.change-item.result c.loop-change-test.true c.change-item.is c.loop-change.invariant (sym c.is_at_sign.ensures ∙ c.if-is_at_sign.false) (sym c.bare.ensures ∙ c.if-bare.true))

pub bare_changes-loop-change-preserved-then-is_at_sign : goal.bare_changes-loop-change-preserved-then-is_at_sign
bare_changes-loop-change-preserved-then-is_at_sign t c =
    loops.Changes_hidden c.args.name.now c.items-change-items.result.now c.loop-change.change-index c.change-item.result c.loop-change-test.true c.change-item.is c.loop-change.invariant (sym c.bare_steps.ensures ∙ c.if-bare_steps.false) (sym c.is_at_sign.ensures ∙ c.if-is_at_sign.true)

pub bare_changes-loop-change-preserved : goal.bare_changes-loop-change-preserved
bare_changes-loop-change-preserved t c =
    loops.Changes_none c.args.name.now c.items-change-items.result.now c.loop-change.change-index c.change-item.result c.loop-change-test.true c.change-item.is c.loop-change.invariant (sym c.bare_steps.ensures ∙ c.if-bare_steps.false) (sym c.bare.ensures ∙ c.if-bare.false)

pub bare_changes-loop-change-init : goal.bare_changes-loop-change-init
bare_changes-loop-change-init t c = record { so_far = tree.NoChanges; whole = refl; none = refl }

pub bare_changes-returns : goal.bare_changes-returns
bare_changes-returns t c =
    sym (ap (λ (l : tree.Changes). bare_changes c.args.name.now l) (sym c.items-change-items.ensures) ∙ loops.Changes_end c.args.name.now c.items-change-items.result.now c.loop-change.change-index c.loop-change-test.false c.loop-change.invariant)

pub bare_arms-bare-requires : goal.bare_arms-bare-requires
bare_arms-bare-requires t c =
    let below : tree_size c.arm-item.result.test < arms_size (arms_of c.items-arm-items.result.now) = test_below tree.NoArms c.items-arm-items.result.now c.loop-arm.arm-index c.arm-item.result c.loop-arm-test.true c.arm-item.is in
    let whole : arms_size (arms_of c.items-arm-items.result.now) ≡ arms_size c.args.arms.now = ap arms_size c.items-arm-items.ensures in
    (omega (arith, below, whole, c.decreases), tt)

pub bare_arms-returns-then-bare : goal.bare_arms-returns-then-bare
bare_arms-returns-then-bare t c =
    sym (ap (λ (l : tree.Arms). bare_arms c.args.name.now l) (sym c.items-arm-items.ensures) ∙ loops.Arms_found0 c.args.name.now c.items-arm-items.result.now c.loop-arm.arm-index c.arm-item.result c.loop-arm-test.true c.arm-item.is c.loop-arm.invariant (sym c.bare.ensures ∙ c.if-bare.true))

pub bare_arms-bare-requires-in-loop-arm : goal.bare_arms-bare-requires-in-loop-arm
bare_arms-bare-requires-in-loop-arm t c =
    let below : tree_size c.arm-item.result.value < arms_size (arms_of c.items-arm-items.result.now) = arm_below tree.NoArms c.items-arm-items.result.now c.loop-arm.arm-index c.arm-item.result c.loop-arm-test.true c.arm-item.is in
    let whole : arms_size (arms_of c.items-arm-items.result.now) ≡ arms_size c.args.arms.now = ap arms_size c.items-arm-items.ensures in
    (omega (arith, below, whole, c.decreases), tt)

pub bare_arms-returns-then-bare-2 : goal.bare_arms-returns-then-bare-2
bare_arms-returns-then-bare-2 t c =
    sym (ap (λ (l : tree.Arms). bare_arms c.args.name.now l) (sym c.items-arm-items.ensures) ∙ loops.Arms_found1 c.args.name.now c.items-arm-items.result.now c.loop-arm.arm-index c.arm-item.result c.loop-arm-test.true c.arm-item.is c.loop-arm.invariant (sym c.bare-in-loop-arm.ensures ∙ c.if-bare-2.true))

pub bare_arms-loop-arm-preserved : goal.bare_arms-loop-arm-preserved
bare_arms-loop-arm-preserved t c =
    loops.Arms_on c.args.name.now c.items-arm-items.result.now c.loop-arm.arm-index c.arm-item.result c.loop-arm-test.true c.arm-item.is c.loop-arm.invariant (sym c.bare.ensures ∙ c.if-bare.false) (sym c.bare-in-loop-arm.ensures ∙ c.if-bare-2.false)

pub bare_arms-loop-arm-init : goal.bare_arms-loop-arm-init
bare_arms-loop-arm-init t c = record { so_far = tree.NoArms; whole = refl; none = refl }

pub bare_arms-returns : goal.bare_arms-returns
bare_arms-returns t c =
    sym (ap (λ (l : tree.Arms). bare_arms c.args.name.now l) (sym c.items-arm-items.ensures) ∙ loops.Arms_end c.args.name.now c.items-arm-items.result.now c.loop-arm.arm-index c.loop-arm-test.false c.loop-arm.invariant)

pub bare_definitions-bare-requires : goal.bare_definitions-bare-requires
bare_definitions-bare-requires t c =
    let below : tree_size c.definition-item.result.body < definitions_size (definitions_of c.items-definition-items.result.now) = body_below tree.NoDefinitions c.items-definition-items.result.now c.loop-definition.definition-index c.definition-item.result c.loop-definition-test.true c.definition-item.is in
    let whole : definitions_size (definitions_of c.items-definition-items.result.now) ≡ definitions_size c.args.definitions.now = ap definitions_size c.items-definition-items.ensures in
    (omega (arith, below, whole, c.decreases), tt)

pub bare_definitions-returns-then-eq : goal.bare_definitions-returns-then-eq
bare_definitions-returns-then-eq t c =
    sym (ap (λ (l : tree.Definitions). bare_definitions c.args.name.now l) (sym c.items-definition-items.ensures) ∙ loops.definitions_cut c.args.name.now c.items-definition-items.result.now c.loop-definition.definition-index c.definition-item.result c.loop-definition-test.true c.definition-item.is c.loop-definition.invariant (sym c.eq.ensures ∙ c.if-eq.true))

pub bare_definitions-returns-then-bare : goal.bare_definitions-returns-then-bare
bare_definitions-returns-then-bare t c =
    sym (ap (λ (l : tree.Definitions). bare_definitions c.args.name.now l) (sym c.items-definition-items.ensures) ∙ loops.definitions_found c.args.name.now c.items-definition-items.result.now c.loop-definition.definition-index c.definition-item.result c.loop-definition-test.true c.definition-item.is c.loop-definition.invariant (sym c.eq.ensures ∙ c.if-eq.false) (ap (λ ns. is_one_of c.args.name.now ns) (sym c.items.ensures) ∙ sym c.is_one_of.ensures ∙ c.if-is_one_of.false) (sym c.bare.ensures ∙ c.if-bare.true))

pub bare_definitions-loop-definition-preserved-then-is_one_of : goal.bare_definitions-loop-definition-preserved-then-is_one_of
bare_definitions-loop-definition-preserved-then-is_one_of t c =
    loops.definitions_hidden c.args.name.now c.items-definition-items.result.now c.loop-definition.definition-index c.definition-item.result c.loop-definition-test.true c.definition-item.is c.loop-definition.invariant (sym c.eq.ensures ∙ c.if-eq.false) (ap (λ ns. is_one_of c.args.name.now ns) (sym c.items.ensures) ∙ sym c.is_one_of.ensures ∙ c.if-is_one_of.true)

pub bare_definitions-loop-definition-preserved : goal.bare_definitions-loop-definition-preserved
bare_definitions-loop-definition-preserved t c =
    loops.definitions_on c.args.name.now c.items-definition-items.result.now c.loop-definition.definition-index c.definition-item.result c.loop-definition-test.true c.definition-item.is c.loop-definition.invariant (sym c.eq.ensures ∙ c.if-eq.false) (sym c.bare.ensures ∙ c.if-bare.false)

pub bare_definitions-loop-definition-init : goal.bare_definitions-loop-definition-init
bare_definitions-loop-definition-init t c = record { so_far = tree.NoDefinitions; whole = refl; none = refl; free = refl }

pub bare_definitions-returns : goal.bare_definitions-returns
bare_definitions-returns t c =
    sym (ap (λ (l : tree.Definitions). bare_definitions c.args.name.now l) (sym c.items-definition-items.ensures) ∙ loops.definitions_end c.args.name.now c.items-definition-items.result.now c.loop-definition.definition-index c.loop-definition-test.false c.loop-definition.invariant)

pub bare_operands-bare-requires : goal.bare_operands-bare-requires
bare_operands-bare-requires t c =
    let below : tree_size c.parts.result.0.now < operands_size (operands_of c.parts.result.0.now c.parts.result.1.now) = first_below c.parts.result.0.now c.parts.result.1.now in
    let whole : operands_size (operands_of c.parts.result.0.now c.parts.result.1.now) ≡ operands_size c.args.operands.now = ap operands_size c.parts.ensures in
    (omega (arith, below, whole, c.decreases), tt)

pub bare_operands-returns-then-bare : goal.bare_operands-returns-then-bare
bare_operands-returns-then-bare t c =
    sym (loops.first_found c.args.name.now c.parts.result.0.now c.parts.result.1.now c.args.operands.now c.parts.ensures (sym c.bare.ensures ∙ c.if-bare.true))

pub bare_operands-bare_others-requires : goal.bare_operands-bare_others-requires
bare_operands-bare_others-requires t c =
    (omega (arith, c.decreases), ap (λ (x : Tree). bare c.args.name.now x) (first_is c.parts.result.0.now c.parts.result.1.now c.args.operands.now c.parts.ensures) ∙ sym c.bare.ensures ∙ c.if-bare.false)

pub bare_others-bare-requires : goal.bare_others-bare-requires
bare_others-bare-requires t c =
    let below : tree_size c.operand-item.result.value < operands_size (operands_of (first_of c.args.operands.now) c.others_of-operand-items.result.now) = operand_below (tree.First (first_of c.args.operands.now)) c.others_of-operand-items.result.now c.loop-operand.operand-index c.operand-item.result c.loop-operand-test.true c.operand-item.is in
    let whole : operands_size (operands_of (first_of c.args.operands.now) c.others_of-operand-items.result.now) ≡ operands_size c.args.operands.now = ap operands_size c.others_of-operand-items.ensures in
    (omega (arith, below, whole, c.decreases), tt)

pub bare_others-returns-then-bare : goal.bare_others-returns-then-bare
bare_others-returns-then-bare t c =
    loops.others_found c.args.name.now c.others_of-operand-items.result.now c.loop-operand.operand-index c.operand-item.result c.loop-operand-test.true c.operand-item.is c.loop-operand.invariant (sym c.bare.ensures ∙ c.if-bare.true) (tree.First (first_of c.args.operands.now)) c.requires ∙ ap (λ (l : tree.Operands). bare_operands c.args.name.now l) c.others_of-operand-items.ensures

pub bare_others-loop-operand-preserved : goal.bare_others-loop-operand-preserved
bare_others-loop-operand-preserved t c =
    loops.others_on c.args.name.now c.others_of-operand-items.result.now c.loop-operand.operand-index c.operand-item.result c.loop-operand-test.true c.operand-item.is c.loop-operand.invariant (sym c.bare.ensures ∙ c.if-bare.false)

pub bare_others-loop-operand-init : goal.bare_others-loop-operand-init
bare_others-loop-operand-init t c = loops.others_begin c.args.name.now c.others_of-operand-items.result.now

pub bare_others-returns : goal.bare_others-returns
bare_others-returns t c =
    loops.others_end c.args.name.now c.others_of-operand-items.result.now c.loop-operand.operand-index c.loop-operand-test.false c.loop-operand.invariant (tree.First (first_of c.args.operands.now)) c.requires ∙ ap (λ (l : tree.Operands). bare_operands c.args.name.now l) c.others_of-operand-items.ensures
