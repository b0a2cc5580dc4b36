use Rattle.std.proofs.Common.{◌≡◌, ◌<◌, ◌∙◌, ap, sym, subst, arith, List, ℕ, rules}
use Rattle.reading_trees.specs.Trees as tree
use Rattle.reading_trees.specs.Trees.{place_of}
use Rattle.names_terms.specs.Levels.{level_for}
use Rattle.names_scopes.specs.FirstOperands.{first_of}
use Rattle.reading_trees.specs.TreeSizes.{tree_size, trees_size, operands_size, step_size, steps_size, bounds_size, fields_size, changes_size, arms_size, definitions_size}
use Rattle.reading_trees.specs.TreeViews.{node_view, step_view, trees_of, operands_of, steps_of, bounds_of, fields_of, changes_of, arms_of, definitions_of}
use Rattle.names_terms.specs.Terms as term
use Rattle.names_terms.specs.TermViews as terms
use Rattle.names_meanings.specs.declared.pending.Pending.{Pending}
use Rattle.names_meanings.specs.Around.{takes}
use Rattle.names_meanings.specs.Complaints.{Takes, bound_name, complaint, complaints, operands_complaint, with_name, steps_complaint, bounds_complaint, fields_complaint, changes_complaint, arms_complaint, definitions_complaint}
use Rattle.names_meanings.specs.Outcomes.{Complains}
use Rattle.names_meanings.specs.Pendings.{Opens}
use Rattle.names_scopes.specs.Scopes.{at_sign}
use Rattle.names_meanings.specs.Reads.{Resolves, ResolvesUnder, RefusesOthers}
use Rattle.names_scopes.proofs.Below.{tree_below, first_below, operand_below, step_below, set_below, field_below, path_below, change_below, test_below, arm_below, body_below, step_falls}
use Rattle.names_meanings.proofs.ListReads as lists
use Rattle.names_meanings.proofs.Defining as defining
use Rattle.names_meanings.proofs.Opening as opening
use Rattle.names_meanings.proofs.Within as within
use Rattle.names_meanings.proofs.Rows as rows
use Rattle.names_meanings.proofs.Reading.{and_then, complains_first, refused_later, stopped}
use Rattle.names_meanings.proofs.resolve.+resolve.Goals as goal

pub resolve_each-resolve-requires : goal.resolve_each-resolve-requires
resolve_each-resolve-requires t c =
    let below : tree_size c.tree-item.result < trees_size (trees_of c.items-tree-items.result.now) = tree_below tree.NoTrees c.items-tree-items.result.now c.loop-tree.tree-index c.tree-item.result c.loop-tree-test.true c.tree-item.is in
    let whole : trees_size (trees_of c.items-tree-items.result.now) ≡ trees_size c.args.trees.now = ap trees_size c.items-tree-items.ensures in
    (omega (arith, below, whole, c.decreases), tt)

pub resolve_each-loop-tree-init : goal.resolve_each-loop-tree-init
resolve_each-loop-tree-init t c =
    subst (λ (ys : term.Terms). lists.EachRead c.args.walk.now c.args.walk.now c.items-tree-items.result.now 0 ys) (sym c.new-terms.ensures) (lists.trees_begin c.args.walk.now c.items-tree-items.result.now)

pub resolve_each-returns-clause-fine : goal.resolve_each-returns-clause-fine
resolve_each-returns-clause-fine t c =
    lists.trees_end c.args.walk.now c.loop-tree.walk c.items-tree-items.result.now c.args.trees.now c.loop-tree.tree-index c.loop-tree.terms c.items-tree-items.ensures c.loop-tree-test.false c.loop-tree.invariant

pub resolve_each-returns-in_err-term-clause-refused : goal.resolve_each-returns-in_err-term-clause-refused
resolve_each-returns-in_err-term-clause-refused t c =
    stopped c.from_residual.result c.in_err-term.field-0.0 (Complains (complaints (takes c.args.walk.now) c.args.trees.now)) c.from_residual.ensures.1
    (lists.trees_refused c.args.walk.now c.loop-tree.walk c.items-tree-items.result.now c.args.trees.now c.loop-tree.tree-index c.loop-tree.terms c.tree-item.result c.in_err-term.field-0.0 c.items-tree-items.ensures c.loop-tree-test.true c.tree-item.is c.loop-tree.invariant c.in_err-term.ensures.refused)

pub resolve_each-loop-tree-preserved : goal.resolve_each-loop-tree-preserved
resolve_each-loop-tree-preserved t c =
    lists.trees_pushed c.args.walk.now c.loop-tree.walk c.resolve.new.walk c.items-tree-items.result.now c.loop-tree.tree-index c.loop-tree.terms c.push.new.self c.tree-item.result c.in_ok-term.term c.in_ok-push.ensures.pushed c.loop-tree-test.true c.tree-item.is c.loop-tree.invariant c.in_ok-term.ensures.fine

pub resolve_steps-resolve_step-requires : goal.resolve_steps-resolve_step-requires
resolve_steps-resolve_step-requires t c =
    let below : step_size (step_view c.tree-item.result.step) < steps_size (steps_of c.items-tree-items.result.now) = step_below tree.NoSteps c.items-tree-items.result.now c.loop-tree.tree-index c.tree-item.result c.loop-tree-test.true c.tree-item.is in
    let whole : steps_size (steps_of c.items-tree-items.result.now) ≡ steps_size c.args.trees.now = ap steps_size c.items-tree-items.ensures in
    (omega (arith, below, whole, c.decreases, step_falls c.tree-item.result.step), tt)

pub resolve_steps-loop-tree-init : goal.resolve_steps-loop-tree-init
resolve_steps-loop-tree-init t c =
    subst (λ (ys : term.Steps). lists.StepsRead c.args.walk.now c.args.walk.now c.items-tree-items.result.now 0 ys) (sym c.new-steps.ensures) (lists.steps_begin c.args.walk.now c.items-tree-items.result.now)

pub resolve_steps-returns-clause-fine : goal.resolve_steps-returns-clause-fine
resolve_steps-returns-clause-fine t c =
    lists.steps_end c.args.walk.now c.loop-tree.walk c.items-tree-items.result.now c.args.trees.now c.loop-tree.tree-index c.loop-tree.steps c.items-tree-items.ensures c.loop-tree-test.false c.loop-tree.invariant

pub resolve_steps-returns-in_err-step-clause-refused : goal.resolve_steps-returns-in_err-step-clause-refused
resolve_steps-returns-in_err-step-clause-refused t c =
    stopped c.from_residual.result c.in_err-step.field-0.0 (Complains (steps_complaint (takes c.args.walk.now) c.args.trees.now)) c.from_residual.ensures.1
    (lists.steps_refused c.args.walk.now c.loop-tree.walk c.items-tree-items.result.now c.args.trees.now c.loop-tree.tree-index c.loop-tree.steps c.tree-item.result c.in_err-step.field-0.0 c.items-tree-items.ensures c.loop-tree-test.true c.tree-item.is c.loop-tree.invariant c.in_err-step.ensures.refused)

pub resolve_steps-loop-tree-preserved : goal.resolve_steps-loop-tree-preserved
resolve_steps-loop-tree-preserved t c =
    lists.steps_pushed c.args.walk.now c.loop-tree.walk c.resolve_step.new.walk c.items-tree-items.result.now c.loop-tree.tree-index c.loop-tree.steps c.push.new.self c.tree-item.result (terms.step_view c.in_ok-step.step) c.in_ok-push.ensures.pushed c.loop-tree-test.true c.tree-item.is c.loop-tree.invariant c.in_ok-step.ensures.fine

pub resolve_bounds-resolve-requires : goal.resolve_bounds-resolve-requires
resolve_bounds-resolve-requires t c =
    let below : tree_size c.tree-item.result.set < bounds_size (bounds_of c.items-tree-items.result.now) = set_below tree.NoBounds c.items-tree-items.result.now c.loop-tree.tree-index c.tree-item.result c.loop-tree-test.true c.tree-item.is in
    let whole : bounds_size (bounds_of c.items-tree-items.result.now) ≡ bounds_size c.args.trees.now = ap bounds_size c.items-tree-items.ensures in
    (omega (arith, below, whole, c.decreases), tt)

pub resolve_bounds-loop-tree-init : goal.resolve_bounds-loop-tree-init
resolve_bounds-loop-tree-init t c =
    subst (λ (ys : term.Bounds). lists.BoundsRead c.args.walk.now c.args.walk.now c.items-tree-items.result.now 0 ys) (sym c.new-bounds.ensures) (lists.bounds_begin c.args.walk.now c.items-tree-items.result.now)

pub resolve_bounds-returns-clause-fine : goal.resolve_bounds-returns-clause-fine
resolve_bounds-returns-clause-fine t c =
    lists.bounds_end c.args.walk.now c.loop-tree.walk c.items-tree-items.result.now c.args.trees.now c.loop-tree.tree-index c.loop-tree.bounds c.items-tree-items.ensures c.loop-tree-test.false c.loop-tree.invariant

pub resolve_bounds-returns-in_err-set-clause-refused : goal.resolve_bounds-returns-in_err-set-clause-refused
resolve_bounds-returns-in_err-set-clause-refused t c =
    stopped c.from_residual.result c.in_err-set.field-0.0 (Complains (bounds_complaint (takes c.args.walk.now) c.args.trees.now)) c.from_residual.ensures.1
    (lists.bounds_refused c.args.walk.now c.loop-tree.walk c.items-tree-items.result.now c.args.trees.now c.loop-tree.tree-index c.loop-tree.bounds c.tree-item.result c.in_err-set.field-0.0 c.items-tree-items.ensures c.loop-tree-test.true c.tree-item.is c.loop-tree.invariant c.in_err-set.ensures.refused)

pub resolve_bounds-loop-tree-preserved : goal.resolve_bounds-loop-tree-preserved
resolve_bounds-loop-tree-preserved t c =
    lists.bounds_pushed c.args.walk.now c.loop-tree.walk c.resolve.new.walk c.items-tree-items.result.now c.loop-tree.tree-index c.loop-tree.bounds c.push.new.self c.tree-item.result c.in_ok-set.set (c.in_ok-push.ensures.pushed ∙ ap (λ n. term.MoreBounds c.loop-tree.bounds n c.in_ok-set.set) c.len-names.ensures) c.loop-tree-test.true c.tree-item.is c.loop-tree.invariant c.in_ok-set.ensures.fine

pub resolve_fields-resolve-requires : goal.resolve_fields-resolve-requires
resolve_fields-resolve-requires t c =
    let below : tree_size c.tree-item.result.value < fields_size (fields_of c.items-tree-items.result.now) = field_below tree.NoFields c.items-tree-items.result.now c.loop-tree.tree-index c.tree-item.result c.loop-tree-test.true c.tree-item.is in
    let whole : fields_size (fields_of c.items-tree-items.result.now) ≡ fields_size c.args.trees.now = ap fields_size c.items-tree-items.ensures in
    (omega (arith, below, whole, c.decreases), tt)

pub resolve_fields-loop-tree-init : goal.resolve_fields-loop-tree-init
resolve_fields-loop-tree-init t c =
    subst (λ (ys : term.Fields). lists.FieldsRead c.args.walk.now c.args.walk.now c.items-tree-items.result.now 0 ys) (sym c.new-fields.ensures) (lists.fields_begin c.args.walk.now c.items-tree-items.result.now)

pub resolve_fields-returns-clause-fine : goal.resolve_fields-returns-clause-fine
resolve_fields-returns-clause-fine t c =
    lists.fields_end c.args.walk.now c.loop-tree.walk c.items-tree-items.result.now c.args.trees.now c.loop-tree.tree-index c.loop-tree.fields c.items-tree-items.ensures c.loop-tree-test.false c.loop-tree.invariant

pub resolve_fields-returns-in_err-value-clause-refused : goal.resolve_fields-returns-in_err-value-clause-refused
resolve_fields-returns-in_err-value-clause-refused t c =
    stopped c.from_residual.result c.in_err-value.field-0.0 (Complains (fields_complaint (takes c.args.walk.now) c.args.trees.now)) c.from_residual.ensures.1
    (lists.fields_refused c.args.walk.now c.loop-tree.walk c.items-tree-items.result.now c.args.trees.now c.loop-tree.tree-index c.loop-tree.fields c.tree-item.result c.in_err-value.field-0.0 c.items-tree-items.ensures c.loop-tree-test.true c.tree-item.is c.loop-tree.invariant c.in_err-value.ensures.refused)

pub resolve_fields-loop-tree-preserved : goal.resolve_fields-loop-tree-preserved
resolve_fields-loop-tree-preserved t c =
    lists.fields_pushed c.args.walk.now c.loop-tree.walk c.resolve.new.walk c.items-tree-items.result.now c.loop-tree.tree-index c.loop-tree.fields c.push.new.self c.tree-item.result c.in_ok-value.value (c.in_ok-push.ensures.pushed ∙ ap (λ n. term.MoreFields c.loop-tree.fields n c.in_ok-value.value) c.in_ok-name.ensures) c.loop-tree-test.true c.tree-item.is c.loop-tree.invariant c.in_ok-value.ensures.fine

pub resolve_arms-resolve-requires : goal.resolve_arms-resolve-requires
resolve_arms-resolve-requires t c =
    let below : tree_size c.tree-item.result.test < arms_size (arms_of c.items-tree-items.result.now) = test_below tree.NoArms c.items-tree-items.result.now c.loop-tree.tree-index c.tree-item.result c.loop-tree-test.true c.tree-item.is in
    let whole : arms_size (arms_of c.items-tree-items.result.now) ≡ arms_size c.args.trees.now = ap arms_size c.items-tree-items.ensures in
    (omega (arith, below, whole, c.decreases), tt)

pub resolve_arms-resolve-requires-in-loop-tree : goal.resolve_arms-resolve-requires-in-loop-tree
resolve_arms-resolve-requires-in-loop-tree t c =
    let below : tree_size c.tree-item.result.value < arms_size (arms_of c.items-tree-items.result.now) = arm_below tree.NoArms c.items-tree-items.result.now c.loop-tree.tree-index c.tree-item.result c.loop-tree-test.true c.tree-item.is in
    let whole : arms_size (arms_of c.items-tree-items.result.now) ≡ arms_size c.args.trees.now = ap arms_size c.items-tree-items.ensures in
    (omega (arith, below, whole, c.decreases), tt)

pub resolve_arms-loop-tree-init : goal.resolve_arms-loop-tree-init
resolve_arms-loop-tree-init t c =
    subst (λ (ys : term.Arms). lists.ArmsRead c.args.walk.now c.args.walk.now c.items-tree-items.result.now 0 ys) (sym c.new-arms.ensures) (lists.arms_begin c.args.walk.now c.items-tree-items.result.now)

pub resolve_arms-returns-clause-fine : goal.resolve_arms-returns-clause-fine
resolve_arms-returns-clause-fine t c =
    lists.arms_end c.args.walk.now c.loop-tree.walk c.items-tree-items.result.now c.args.trees.now c.loop-tree.tree-index c.loop-tree.arms c.items-tree-items.ensures c.loop-tree-test.false c.loop-tree.invariant

pub resolve_arms-returns-in_err-test-clause-refused : goal.resolve_arms-returns-in_err-test-clause-refused
resolve_arms-returns-in_err-test-clause-refused t c =
    stopped c.from_residual.result c.in_err-test.field-0.0 (Complains (arms_complaint (takes c.args.walk.now) c.args.trees.now)) c.from_residual.ensures.1
    (lists.arms_refused c.args.walk.now c.loop-tree.walk c.items-tree-items.result.now c.args.trees.now c.loop-tree.tree-index c.loop-tree.arms c.tree-item.result c.in_err-test.field-0.0 c.items-tree-items.ensures c.loop-tree-test.true c.tree-item.is c.loop-tree.invariant (complains_first (complaint (takes c.loop-tree.walk) c.tree-item.result.test) (complaint (takes c.loop-tree.walk) c.tree-item.result.value) c.in_err-test.field-0.0 c.in_err-test.ensures.refused))

pub resolve_arms-returns-in_err-value-clause-refused : goal.resolve_arms-returns-in_err-value-clause-refused
resolve_arms-returns-in_err-value-clause-refused t c =
    stopped c.from_residual-in_err-value.result c.in_err-value.field-0.0 (Complains (arms_complaint (takes c.args.walk.now) c.args.trees.now)) c.from_residual-in_err-value.ensures.1
    (lists.arms_refused c.args.walk.now c.loop-tree.walk c.items-tree-items.result.now c.args.trees.now c.loop-tree.tree-index c.loop-tree.arms c.tree-item.result c.in_err-value.field-0.0 c.items-tree-items.ensures c.loop-tree-test.true c.tree-item.is c.loop-tree.invariant (refused_later c.loop-tree.walk c.resolve.new.walk (λ (g : Takes). complaint g c.tree-item.result.value) c.in_err-value.field-0.0 c.in_ok-test.ensures.fine c.in_err-value.ensures.refused))

pub resolve_arms-loop-tree-preserved : goal.resolve_arms-loop-tree-preserved
resolve_arms-loop-tree-preserved t c =
    lists.arms_pushed c.args.walk.now c.loop-tree.walk c.resolve-in-loop-tree.new.walk c.items-tree-items.result.now c.loop-tree.tree-index c.loop-tree.arms c.push.new.self c.tree-item.result c.in_ok-test.test c.in_ok-value.value c.in_ok-push.ensures.pushed c.loop-tree-test.true c.tree-item.is c.loop-tree.invariant (and_then c.loop-tree.walk c.resolve.new.walk c.resolve-in-loop-tree.new.walk c.in_ok-test.ensures.fine c.in_ok-value.ensures.fine)

pub resolve_changes-resolve_steps-requires : goal.resolve_changes-resolve_steps-requires
resolve_changes-resolve_steps-requires t c =
    let below : steps_size c.tree-item.result.path < changes_size (changes_of c.items-tree-items.result.now) = path_below tree.NoChanges c.items-tree-items.result.now c.loop-tree.tree-index c.tree-item.result c.loop-tree-test.true c.tree-item.is in
    let whole : changes_size (changes_of c.items-tree-items.result.now) ≡ changes_size c.args.trees.now = ap changes_size c.items-tree-items.ensures in
    (omega (arith, below, whole, c.decreases), tt)

pub resolve_changes-resolve_under-requires : goal.resolve_changes-resolve_under-requires
resolve_changes-resolve_under-requires t c =
    let below : tree_size c.tree-item.result.value < changes_size (changes_of c.items-tree-items.result.now) = change_below tree.NoChanges c.items-tree-items.result.now c.loop-tree.tree-index c.tree-item.result c.loop-tree-test.true c.tree-item.is in
    let whole : changes_size (changes_of c.items-tree-items.result.now) ≡ changes_size c.args.trees.now = ap changes_size c.items-tree-items.ensures in
    (omega (arith, below, whole, c.decreases), tt)

pub resolve_changes-loop-tree-init : goal.resolve_changes-loop-tree-init
resolve_changes-loop-tree-init t c =
    subst (λ (ys : term.Changes). lists.ChangesRead c.args.walk.now c.args.walk.now c.items-tree-items.result.now 0 ys) (sym c.new-changes.ensures) (lists.changes_begin c.args.walk.now c.items-tree-items.result.now)

pub resolve_changes-returns-clause-fine : goal.resolve_changes-returns-clause-fine
resolve_changes-returns-clause-fine t c =
    lists.changes_end c.args.walk.now c.loop-tree.walk c.items-tree-items.result.now c.args.trees.now c.loop-tree.tree-index c.loop-tree.changes c.items-tree-items.ensures c.loop-tree-test.false c.loop-tree.invariant

pub resolve_changes-returns-in_err-path-clause-refused : goal.resolve_changes-returns-in_err-path-clause-refused
resolve_changes-returns-in_err-path-clause-refused t c =
    stopped c.from_residual-in_err-path.result c.in_err-path.field-0.0 (Complains (changes_complaint (takes c.args.walk.now) c.args.trees.now)) c.from_residual-in_err-path.ensures.1
    (lists.changes_refused c.args.walk.now c.loop-tree.walk c.items-tree-items.result.now c.args.trees.now c.loop-tree.tree-index c.loop-tree.changes c.tree-item.result c.in_err-path.field-0.0 c.items-tree-items.ensures c.loop-tree-test.true c.tree-item.is c.loop-tree.invariant (complains_first (steps_complaint (takes c.loop-tree.walk) c.tree-item.result.path) (complaint (with_name (takes c.loop-tree.walk) at_sign bound_name) c.tree-item.result.value) c.in_err-path.field-0.0 c.in_err-path.ensures.refused))

pub resolve_changes-returns-in_err-value-clause-refused : goal.resolve_changes-returns-in_err-value-clause-refused
resolve_changes-returns-in_err-value-clause-refused t c =
    stopped c.from_residual-in_err-value.result c.in_err-value.field-0.0 (Complains (changes_complaint (takes c.args.walk.now) c.args.trees.now)) c.from_residual-in_err-value.ensures.1
    (lists.changes_refused c.args.walk.now c.loop-tree.walk c.items-tree-items.result.now c.args.trees.now c.loop-tree.tree-index c.loop-tree.changes c.tree-item.result c.in_err-value.field-0.0 c.items-tree-items.ensures c.loop-tree-test.true c.tree-item.is c.loop-tree.invariant (refused_later c.loop-tree.walk c.resolve_steps.new.walk (λ (g : Takes). complaint (with_name g at_sign bound_name) c.tree-item.result.value) c.in_err-value.field-0.0 c.in_ok-path.ensures.fine (subst (λ (n : List ℕ). lists.IsRefusedUnder c.resolve_steps.new.walk n c.tree-item.result.value c.in_err-value.field-0.0) c.in_ok-at_sign.ensures c.in_err-value.ensures.refused)))

pub resolve_changes-loop-tree-preserved : goal.resolve_changes-loop-tree-preserved
resolve_changes-loop-tree-preserved t c =
    lists.changes_pushed c.args.walk.now c.loop-tree.walk c.resolve_under.new.walk c.items-tree-items.result.now c.loop-tree.tree-index c.loop-tree.changes c.push.new.self c.tree-item.result c.in_ok-path.path c.in_ok-value.value c.in_ok-push.ensures.pushed c.loop-tree-test.true c.tree-item.is c.loop-tree.invariant (and_then c.loop-tree.walk c.resolve_steps.new.walk c.resolve_under.new.walk c.in_ok-path.ensures.fine (subst (λ (n : List ℕ). ResolvesUnder c.resolve_steps.new.walk c.resolve_under.new.walk n c.tree-item.result.value c.in_ok-value.value) c.in_ok-at_sign.ensures c.in_ok-value.ensures.fine))

pub resolve_definitions-resolve_to-requires : goal.resolve_definitions-resolve_to-requires
resolve_definitions-resolve_to-requires t c =
    let below : tree_size c.tree-item.result.body < definitions_size (definitions_of c.items-tree-items.result.now) = body_below tree.NoDefinitions c.items-tree-items.result.now c.loop-tree.tree-index c.tree-item.result c.loop-tree-test.true c.tree-item.is in
    let whole : definitions_size (definitions_of c.items-tree-items.result.now) ≡ definitions_size c.args.trees.now = ap definitions_size c.items-tree-items.ensures in
    (omega (arith, below, whole, c.decreases), tt)

pub resolve_definitions-loop-tree-init : goal.resolve_definitions-loop-tree-init
resolve_definitions-loop-tree-init t c =
    subst (λ (ks : List ℕ). defining.DefinitionsRead c.args.walk.now c.args.walk.now c.items-tree-items.result.now 0 ks) (sym c.new-numbers.ensures) (defining.definitions_begin c.args.walk.now c.items-tree-items.result.now)

pub resolve_definitions-returns-clause-fine : goal.resolve_definitions-returns-clause-fine
resolve_definitions-returns-clause-fine t c =
    defining.definitions_end c.args.walk.now c.loop-tree.walk c.items-tree-items.result.now c.args.trees.now c.loop-tree.tree-index c.loop-tree.numbers c.items-tree-items.ensures c.loop-tree-test.false c.loop-tree.invariant

pub resolve_definitions-returns-in_err-not_itself-clause-refused : goal.resolve_definitions-returns-in_err-not_itself-clause-refused
resolve_definitions-returns-in_err-not_itself-clause-refused t c =
    stopped c.from_residual.result c.in_err-not_itself.field-0.0 (Complains (definitions_complaint (takes c.args.walk.now) c.args.trees.now)) c.from_residual.ensures.1
    (defining.refused c.args.walk.now c.loop-tree.walk c.items-tree-items.result.now c.args.trees.now c.loop-tree.tree-index c.loop-tree.numbers c.tree-item.result c.in_err-not_itself.field-0.0 c.items-tree-items.ensures c.loop-tree-test.true c.tree-item.is c.loop-tree.invariant
    (defining.itself_refused c.loop-tree.walk c.tree-item.result c.in_err-not_itself.field-0.0 c.in_err-not_itself.ensures.refused))

pub resolve_definitions-returns-in_err-body-clause-refused : goal.resolve_definitions-returns-in_err-body-clause-refused
resolve_definitions-returns-in_err-body-clause-refused t c =
    stopped c.from_residual-in_err-body.result c.in_err-body.field-0.0 (Complains (definitions_complaint (takes c.args.walk.now) c.args.trees.now)) c.from_residual-in_err-body.ensures.1
    (defining.refused c.args.walk.now c.loop-tree.walk c.items-tree-items.result.now c.args.trees.now c.loop-tree.tree-index c.loop-tree.numbers c.tree-item.result c.in_err-body.field-0.0 c.items-tree-items.ensures c.loop-tree-test.true c.tree-item.is c.loop-tree.invariant
    (defining.definition_refused c.loop-tree.walk c.begin.new.walk c.bind.new.self c.tree-item.result c.in_ok-place.place c.in_err-body.field-0.0 c.is_around.ensures c.in_ok-not_itself.ensures.fine c.in_ok-place.ensures (defining.bound_params c.begin.new.walk c.bind.new.self c.items.result.now c.tree-item.result c.items.ensures c.in_ok-bind.ensures) c.in_err-body.ensures.refused))

pub resolve_definitions-end-requires : goal.resolve_definitions-end-requires
resolve_definitions-end-requires t c =
    defining.definition_kept c.loop-tree.walk c.begin.new.walk c.bind.new.self c.resolve_to.new.walk c.depth-depth.result c.tree-item.result c.in_ok-body.body c.in_ok-place.place c.is_around.ensures c.in_ok-not_itself.ensures.fine c.depth-depth.ensures c.in_ok-place.ensures (defining.bound_params c.begin.new.walk c.bind.new.self c.items.result.now c.tree-item.result c.items.ensures c.in_ok-bind.ensures) c.in_ok-body.ensures.fine

pub resolve_definitions-loop-tree-preserved : goal.resolve_definitions-loop-tree-preserved
resolve_definitions-loop-tree-preserved t c =
    defining.definitions_pushed c.args.walk.now c.loop-tree.walk c.end.new.walk c.items-tree-items.result.now c.loop-tree.tree-index c.loop-tree.numbers c.push.new.self c.tree-item.result c.in_ok-number.number c.in_ok-push.ensures.pushed c.loop-tree-test.true c.tree-item.is c.loop-tree.invariant
    (defining.definition_read c.loop-tree.walk c.begin.new.walk c.bind.new.self c.resolve_to.new.walk c.end.new.walk c.depth-depth.result c.tree-item.result c.in_ok-body.body c.in_ok-place.place c.in_ok-number.number c.is_around.ensures c.in_ok-not_itself.ensures.fine c.depth-depth.ensures c.in_ok-place.ensures (defining.bound_params c.begin.new.walk c.bind.new.self c.items.result.now c.tree-item.result c.items.ensures c.in_ok-bind.ensures) c.in_ok-body.ensures.fine c.in_ok-number.ensures)

pub resolve_call-returns-in_err-meant-clause-refused : goal.resolve_call-returns-in_err-meant-clause-refused
resolve_call-returns-in_err-meant-clause-refused t c =
    stopped c.from_residual.result c.in_err-meant.field-0.0 (Complains (complaint (takes c.args.walk.now) (tree.Call c.args.at c.args.name.now c.args.arguments.now))) c.from_residual.ensures.1
    (rows.call_refused c.args.walk.now c.args.at c.args.name.now c.args.arguments.now _ c.in_err-meant.field-0.0 (rows.number_is c.items-found.result.now c.args.arguments.now c.items-found.ensures) c.in_err-meant.ensures.refused)

pub resolve_call-returns-in_err-terms-clause-refused : goal.resolve_call-returns-in_err-terms-clause-refused
resolve_call-returns-in_err-terms-clause-refused t c =
    stopped c.from_residual-in_err-terms.result c.in_err-terms.field-0.0 (Complains (complaint (takes c.args.walk.now) (tree.Call c.args.at c.args.name.now c.args.arguments.now))) c.from_residual-in_err-terms.ensures.1
    (rows.arguments_refused c.args.walk.now c.args.at c.args.name.now c.args.arguments.now _ c.in_ok-meant.meant c.in_err-terms.field-0.0 (rows.number_is c.items-found.result.now c.args.arguments.now c.items-found.ensures) c.in_ok-meant.ensures.means c.in_err-terms.ensures.refused)

pub resolve_call-returns-clause-fine : goal.resolve_call-returns-clause-fine
resolve_call-returns-clause-fine t c =
    rows.call_row c.args.walk.now c.resolve_each.new.walk c.args.at c.args.name.now c.args.arguments.now _ c.in_ok-meant.meant c.in_ok-terms.terms (terms.node_view c.used.result) (rows.number_is c.items-found.result.now c.args.arguments.now c.items-found.ensures) c.used.ensures c.in_ok-meant.ensures.means c.in_ok-meant.ensures.within c.in_ok-terms.ensures.fine

pub resolve_operands-resolve-requires : goal.resolve_operands-resolve-requires
resolve_operands-resolve-requires t c =
    let below : tree_size c.parts.result.0.now < operands_size (operands_of c.parts.result.0.now c.parts.result.1.now) = first_below c.parts.result.0.now c.parts.result.1.now in
    let whole : operands_size (operands_of c.parts.result.0.now c.parts.result.1.now) ≡ operands_size c.args.trees.now = ap operands_size c.parts.ensures in
    (omega (arith, below, whole, c.decreases), tt)

pub resolve_operands-resolve_others-requires : goal.resolve_operands-resolve_others-requires
resolve_operands-resolve_others-requires t c = (omega (arith, c.decreases), tt)

pub resolve_operands-returns-in_err-first-clause-refused : goal.resolve_operands-returns-in_err-first-clause-refused
resolve_operands-returns-in_err-first-clause-refused t c =
    stopped c.from_residual.result c.in_err-first.field-0.0 (Complains (operands_complaint (takes c.args.walk.now) c.args.trees.now)) c.from_residual.ensures.1
    (lists.first_refused c.args.walk.now c.parts.result.0.now c.parts.result.1.now c.args.trees.now c.in_err-first.field-0.0 c.parts.ensures c.in_err-first.ensures.refused)

pub resolve_operands-returns-in_err-resolve_others-clause-refused : goal.resolve_operands-returns-in_err-resolve_others-clause-refused
resolve_operands-returns-in_err-resolve_others-clause-refused t c =
    stopped c.from_residual-in_err-resolve_others.result c.in_err-resolve_others.field-0.0 (Complains (operands_complaint (takes c.args.walk.now) c.args.trees.now)) c.from_residual-in_err-resolve_others.ensures.1
    (lists.rest_refused c.args.walk.now c.resolve.new.walk c.parts.result.0.now c.parts.result.1.now c.args.trees.now c.in_ok-first.first c.in_ok-operands.operands c.in_err-resolve_others.field-0.0 c.parts.ensures c.in_ok-operands.ensures c.in_ok-first.ensures.fine c.in_err-resolve_others.ensures.refused)

pub resolve_operands-returns-clause-fine : goal.resolve_operands-returns-clause-fine
resolve_operands-returns-clause-fine t c =
    lists.rest_read c.args.walk.now c.resolve.new.walk c.resolve_others.new.walk c.parts.result.0.now c.parts.result.1.now c.args.trees.now c.in_ok-first.first c.in_ok-operands.operands c.resolve_others.new.operands c.parts.ensures c.in_ok-operands.ensures c.in_ok-first.ensures.fine c.in_ok-resolve_others.ensures.fine

pub resolve_others-resolve-requires : goal.resolve_others-resolve-requires
resolve_others-resolve-requires t c =
    let below : tree_size c.tree-item.result.value < operands_size (operands_of (first_of c.args.trees.now) c.others_of-tree-items.result.now) = operand_below (tree.First (first_of c.args.trees.now)) c.others_of-tree-items.result.now c.loop-tree.tree-index c.tree-item.result c.loop-tree-test.true c.tree-item.is in
    let whole : operands_size (operands_of (first_of c.args.trees.now) c.others_of-tree-items.result.now) ≡ operands_size c.args.trees.now = ap operands_size c.others_of-tree-items.ensures in
    (omega (arith, below, whole, c.decreases), tt)

pub resolve_others-loop-tree-init : goal.resolve_others-loop-tree-init
resolve_others-loop-tree-init t c =
    lists.others_begin c.args.walk.now c.others_of-tree-items.result.now c.args.operands.now

pub resolve_others-returns-in_err-value-clause-refused : goal.resolve_others-returns-in_err-value-clause-refused
resolve_others-returns-in_err-value-clause-refused t c =
    stopped c.from_residual.result c.in_err-value.field-0.0 (λ f. RefusesOthers c.args.walk.now c.args.trees.now c.args.operands.now f) c.from_residual.ensures.1
    (lists.others_refused c.args.walk.now c.loop-tree.walk c.others_of-tree-items.result.now c.args.trees.now c.loop-tree.tree-index c.args.operands.now c.loop-tree.operands c.tree-item.result c.in_err-value.field-0.0 c.others_of-tree-items.ensures c.loop-tree-test.true c.tree-item.is c.loop-tree.invariant c.in_err-value.ensures.refused)

pub resolve_others-loop-tree-preserved : goal.resolve_others-loop-tree-preserved
resolve_others-loop-tree-preserved t c =
    lists.others_pushed c.args.walk.now c.loop-tree.walk c.resolve.new.walk c.others_of-tree-items.result.now c.loop-tree.tree-index c.args.operands.now c.loop-tree.operands c.push.new.self c.tree-item.result c.in_ok-value.value c.in_ok-push.ensures.pushed c.loop-tree-test.true c.tree-item.is c.loop-tree.invariant c.in_ok-value.ensures.fine

pub resolve_others-returns-clause-fine : goal.resolve_others-returns-clause-fine
resolve_others-returns-clause-fine t c =
    lists.others_end c.args.walk.now c.loop-tree.walk c.others_of-tree-items.result.now c.args.trees.now c.loop-tree.tree-index c.args.operands.now c.loop-tree.operands c.others_of-tree-items.ensures c.loop-tree-test.false c.loop-tree.invariant

pub resolve_row-returns-in-Name-clause-fine : goal.resolve_row-returns-in-Name-clause-fine
resolve_row-returns-in-Name-clause-fine t c =
    rows.name_answers c.args.walk.now c.in-Name.name c.tree.inside.at c.args.tree.now c.use_of.result (ap (node_view c.tree.inside.at) (sym c.in-Name.is ∙ c.deref.ensures) ∙ c.tree.view_is) c.use_of.ensures.fine

pub resolve_row-returns-in-Qualified-clause-fine : goal.resolve_row-returns-in-Qualified-clause-fine
resolve_row-returns-in-Qualified-clause-fine t c =
    rows.qualified_answers c.args.walk.now c.resolve_call-in-Qualified.new.walk c.tree.inside.at c.in-Qualified.name c.in-Qualified.arguments c.args.tree.now c.resolve_call-in-Qualified.result (ap (node_view c.tree.inside.at) (sym c.in-Qualified.is ∙ c.deref.ensures) ∙ c.tree.view_is) c.resolve_call-in-Qualified.ensures.fine

pub resolve_row-returns-in-Qualified-clause-refused : goal.resolve_row-returns-in-Qualified-clause-refused
resolve_row-returns-in-Qualified-clause-refused t c =
    rows.qualified_refused c.args.walk.now c.tree.inside.at c.in-Qualified.name c.in-Qualified.arguments c.args.tree.now c.resolve_call-in-Qualified.result (ap (node_view c.tree.inside.at) (sym c.in-Qualified.is ∙ c.deref.ensures) ∙ c.tree.view_is) c.resolve_call-in-Qualified.ensures.refused

pub resolve_row-returns-in_ok-from_text-in-At-clause-fine : goal.resolve_row-returns-in_ok-from_text-in-At-clause-fine
resolve_row-returns-in_ok-from_text-in-At-clause-fine t c =
    rows.at_answers c.args.walk.now c.in_ok-from_text-in-At.field-0 c.tree.inside.at c.args.tree.now c.use_of-in-At-2.result (ap (node_view c.tree.inside.at) (sym c.in-At.is ∙ c.deref.ensures) ∙ c.tree.view_is) c.in_ok-from_text-in-At.ensures c.use_of-in-At-2.ensures.fine

pub resolve_row-returns-in_ok-chain-in-Infix-clause-fine : goal.resolve_row-returns-in_ok-chain-in-Infix-clause-fine
resolve_row-returns-in_ok-chain-in-Infix-clause-fine t c =
    rows.chain_row c.args.walk.now c.resolve_operands.new.walk c.resolve-in-Infix.new.walk c.tree.inside.at c.in-Infix.operator c.in-Infix.operands c.in-Infix.last c.args.tree.now c.in_ok-operands-in-Infix.operands c.in_ok-last-in-Infix.last (terms.node_view c.in_ok-chain-in-Infix.field-0)
    (ap (node_view c.tree.inside.at) (sym c.in-Infix.is ∙ c.deref.ensures) ∙ c.tree.view_is)
    c.in_ok-chain-in-Infix.ensures c.in_ok-operands-in-Infix.ensures.fine c.in_ok-last-in-Infix.ensures.fine

pub resolve_row-returns-in_ok-last-in-Postfix-clause-fine : goal.resolve_row-returns-in_ok-last-in-Postfix-clause-fine
resolve_row-returns-in_ok-last-in-Postfix-clause-fine t c =
    rows.postfix_row c.args.walk.now c.resolve-in-Postfix.new.walk c.resolve_steps.new.walk c.resolve_step.new.walk c.tree.inside.at c.in-Postfix.base c.in-Postfix.steps (step_view c.in-Postfix.last) c.args.tree.now c.in_ok-base-in-Postfix.base c.in_ok-steps-in-Postfix.steps (terms.step_view c.in_ok-last-in-Postfix.last)
    (ap (node_view c.tree.inside.at) (sym c.in-Postfix.is ∙ c.deref.ensures) ∙ c.tree.view_is)
    c.in_ok-base-in-Postfix.ensures.fine c.in_ok-steps-in-Postfix.ensures.fine c.in_ok-last-in-Postfix.ensures.fine

pub resolve_row-returns-in_ok-test-in-Filter-clause-fine : goal.resolve_row-returns-in_ok-test-in-Filter-clause-fine
resolve_row-returns-in_ok-test-in-Filter-clause-fine t c =
    rows.filter_row c.args.walk.now c.resolve-in-Filter.new.walk c.resolve_under.new.walk c.tree.inside.at c.in-Filter.name c.in-Filter.set c.in-Filter.test c.args.tree.now c.in_ok-set-in-Filter.set c.in_ok-test-in-Filter.test
    (ap (node_view c.tree.inside.at) (sym c.in-Filter.is ∙ c.deref.ensures) ∙ c.tree.view_is)
    c.in_ok-set-in-Filter.ensures.fine c.in_ok-test-in-Filter.ensures.fine

pub resolve_row-returns-in_ok-sets-in-Map-clause-fine : goal.resolve_row-returns-in_ok-sets-in-Map-clause-fine
resolve_row-returns-in_ok-sets-in-Map-clause-fine t c =
    rows.map_row c.args.walk.now c.resolve_within.new.walk c.resolve_bounds.new.walk c.tree.inside.at c.in-Map.value c.in-Map.bounds c.args.tree.now c.in_ok-value-in-Map.value c.in_ok-sets-in-Map.sets
    (ap (node_view c.tree.inside.at) (sym c.in-Map.is ∙ c.deref.ensures) ∙ c.tree.view_is)
    c.in_ok-value-in-Map.ensures.fine c.in_ok-sets-in-Map.ensures.fine

pub resolve_row-returns-in_ok-value-in-Function-clause-fine : goal.resolve_row-returns-in_ok-value-in-Function-clause-fine
resolve_row-returns-in_ok-value-in-Function-clause-fine t c =
    rows.function_row c.args.walk.now c.resolve_bounds-in-Function.new.walk c.resolve_within-in-Function.new.walk c.tree.inside.at c.in-Function.bounds c.in-Function.value c.args.tree.now c.in_ok-sets-in-Function.sets c.in_ok-value-in-Function.value
    (ap (node_view c.tree.inside.at) (sym c.in-Function.is ∙ c.deref.ensures) ∙ c.tree.view_is)
    c.in_ok-sets-in-Function.ensures.fine c.in_ok-value-in-Function.ensures.fine

pub resolve_row-returns-in_ok-range-in-FunctionSet-clause-fine : goal.resolve_row-returns-in_ok-range-in-FunctionSet-clause-fine
resolve_row-returns-in_ok-range-in-FunctionSet-clause-fine t c =
    rows.function_set_row c.args.walk.now c.resolve-in-FunctionSet.new.walk c.resolve-in-FunctionSet-2.new.walk c.tree.inside.at c.in-FunctionSet.domain c.in-FunctionSet.range c.args.tree.now c.in_ok-domain-in-FunctionSet.domain c.in_ok-range-in-FunctionSet.range
    (ap (node_view c.tree.inside.at) (sym c.in-FunctionSet.is ∙ c.deref.ensures) ∙ c.tree.view_is)
    c.in_ok-domain-in-FunctionSet.ensures.fine c.in_ok-range-in-FunctionSet.ensures.fine

pub resolve_row-returns-in_ok-changes-in-Except-clause-fine : goal.resolve_row-returns-in_ok-changes-in-Except-clause-fine
resolve_row-returns-in_ok-changes-in-Except-clause-fine t c =
    rows.except_row c.args.walk.now c.resolve-in-Except.new.walk c.resolve_changes.new.walk c.tree.inside.at c.in-Except.function c.in-Except.changes c.args.tree.now c.in_ok-function-in-Except.function c.in_ok-changes-in-Except.changes
    (ap (node_view c.tree.inside.at) (sym c.in-Except.is ∙ c.deref.ensures) ∙ c.tree.view_is)
    c.in_ok-function-in-Except.ensures.fine c.in_ok-changes-in-Except.ensures.fine

-- the nested pattern is read from the node as it stands in memory, so both facts are searched for
pub resolve_row-returns-in_ok-other-in-Case-default-Some-clause-fine : goal.resolve_row-returns-in_ok-other-in-Case-default-Some-clause-fine
resolve_row-returns-in_ok-other-in-Case-default-Some-clause-fine t c =
    let tree_is : tree.CaseOther c.tree.inside.at c.in-Case-default-Some.arms c.in-Case-default-Some.other ≡ c.args.tree.now = search (rules, c.in-Case-default-Some.field-1-is, c.in-Case-default-Some.is, c.deref.ensures, c.tree.view_is) in
    let other : Resolves c.resolve_arms-in-Case-default-Some.new.walk c.resolve-in-Case-default-Some.new.walk c.in-Case-default-Some.other c.in_ok-other-in-Case-default-Some.other = search (rules, c.in_ok-other-in-Case-default-Some.ensures.fine, c.in-Case-default-Some.other-is) in
    rows.case_other_row c.args.walk.now c.resolve_arms-in-Case-default-Some.new.walk c.resolve-in-Case-default-Some.new.walk c.tree.inside.at c.in-Case-default-Some.arms c.in-Case-default-Some.other c.args.tree.now c.in_ok-arms-in-Case-default-Some.arms c.in_ok-other-in-Case-default-Some.other tree_is c.in_ok-arms-in-Case-default-Some.ensures.fine other

pub resolve_row-returns-in_ok-subscript-in-BoxAction-clause-fine : goal.resolve_row-returns-in_ok-subscript-in-BoxAction-clause-fine
resolve_row-returns-in_ok-subscript-in-BoxAction-clause-fine t c =
    rows.box_row c.args.walk.now c.resolve-in-BoxAction.new.walk c.resolve-in-BoxAction-2.new.walk c.tree.inside.at c.in-BoxAction.action c.in-BoxAction.subscript c.args.tree.now c.in_ok-action-in-BoxAction.action c.in_ok-subscript-in-BoxAction.subscript
    (ap (node_view c.tree.inside.at) (sym c.in-BoxAction.is ∙ c.deref.ensures) ∙ c.tree.view_is)
    c.in_ok-action-in-BoxAction.ensures.fine c.in_ok-subscript-in-BoxAction.ensures.fine

pub resolve_row-returns-in_ok-subscript-in-AngleAction-clause-fine : goal.resolve_row-returns-in_ok-subscript-in-AngleAction-clause-fine
resolve_row-returns-in_ok-subscript-in-AngleAction-clause-fine t c =
    rows.angle_row c.args.walk.now c.resolve-in-AngleAction.new.walk c.resolve-in-AngleAction-2.new.walk c.tree.inside.at c.in-AngleAction.action c.in-AngleAction.subscript c.args.tree.now c.in_ok-action-in-AngleAction.action c.in_ok-subscript-in-AngleAction.subscript
    (ap (node_view c.tree.inside.at) (sym c.in-AngleAction.is ∙ c.deref.ensures) ∙ c.tree.view_is)
    c.in_ok-action-in-AngleAction.ensures.fine c.in_ok-subscript-in-AngleAction.ensures.fine

pub resolve_row-returns-in_ok-action-in-Fairness-clause-fine : goal.resolve_row-returns-in_ok-action-in-Fairness-clause-fine
resolve_row-returns-in_ok-action-in-Fairness-clause-fine t c =
    rows.fairness_row c.args.walk.now c.resolve-in-Fairness.new.walk c.resolve-in-Fairness-2.new.walk c.tree.inside.at c.in-Fairness.subscript c.in-Fairness.action c.args.tree.now c.in_ok-subscript-in-Fairness.subscript c.in_ok-action-in-Fairness.action
    (ap (node_view c.tree.inside.at) (sym c.in-Fairness.is ∙ c.deref.ensures) ∙ c.tree.view_is)
    c.in_ok-subscript-in-Fairness.ensures.fine c.in_ok-action-in-Fairness.ensures.fine

pub resolve_to-returns-clause-fine : goal.resolve_to-returns-clause-fine
resolve_to-returns-clause-fine t c =
    opening.opens_to c.args.walk.now c.open.new.walk c.resolve_row.new.walk c.cut.new.self c.args.depth c.in_ok-rows.rows.items c.args.tree.now c.in_ok-rows.rest.now (terms.node_view c.in_ok-node.node) c.in_ok-term.term c.in_ok-whole.whole c.is_around.ensures c.in_ok-rows.ensures.fine c.in_ok-node.ensures.fine
    (c.in_ok-term.ensures ∙ ap (λ at. term.Placed at (level_for c.resolve_row.new.walk.table (terms.node_view c.in_ok-node.node)) (terms.node_view c.in_ok-node.node)) (sym (opening.place_is c.rest.inside.at c.rest.inside.node.value) ∙ ap place_of c.rest.view_is))
    c.cut.ensures c.in_ok-whole.ensures

pub resolve_within-returns-clause-fine : goal.resolve_within-returns-clause-fine
resolve_within-returns-clause-fine t c =
    within.bounds_answers c.args.walk.now c.bind_bounds.new.self c.resolve_to.new.walk c.depth-depth.result c.args.bounds.now c.args.tree.now c.resolve_to.result c.in_ok-bind_bounds.ensures c.depth-depth.ensures c.resolve_to.ensures.fine

pub resolve_within-returns-clause-refused : goal.resolve_within-returns-clause-refused
resolve_within-returns-clause-refused t c =
    within.bounds_refuse c.args.walk.now c.bind_bounds.new.self c.args.bounds.now c.args.tree.now c.resolve_to.result c.in_ok-bind_bounds.ensures c.resolve_to.ensures.refused

pub resolve_under-returns-clause-fine : goal.resolve_under-returns-clause-fine
resolve_under-returns-clause-fine t c =
    within.name_answers c.args.walk.now c.bind_name.new.self c.resolve_to.new.walk c.depth-depth.result c.args.name.now c.args.tree.now c.resolve_to.result c.in_ok-bind_name.ensures c.depth-depth.ensures c.resolve_to.ensures.fine

pub resolve_under-returns-clause-refused : goal.resolve_under-returns-clause-refused
resolve_under-returns-clause-refused t c =
    within.name_refuse c.args.walk.now c.bind_name.new.self c.args.name.now c.args.tree.now c.resolve_to.result c.in_ok-bind_name.ensures c.resolve_to.ensures.refused

pub open-loop-rows-init : goal.open-loop-rows-init
open-loop-rows-init t c =
    subst (λ (rs : List Pending). Opens c.args.walk.now c.args.walk.now rs c.args.tree.now c.args.tree.now) (sym c.new-rows.ensures.items) (opening.opens_begin c.args.walk.now c.args.tree.now)

pub open-open_row-requires : goal.open-open_row-requires
open-open_row-requires t c =
    (omega (arith, c.loop-rows.invariant.within, c.decreases), tt)

pub open-returns-in_err-last-clause-refused : goal.open-returns-in_err-last-clause-refused
open-returns-in_err-last-clause-refused t c =
    stopped c.from_residual.result c.in_err-last.field-0.0 (Complains (complaint (takes c.args.walk.now) c.args.tree.now)) c.from_residual.ensures.1
    (opening.opens_refused c.args.walk.now c.loop-rows.walk c.loop-rows.rows.items c.args.tree.now c.loop-rows.rest.now c.in_err-last.field-0.0 c.loop-rows.invariant c.in_err-last.ensures.refused)

pub open-loop-rows-preserved : goal.open-loop-rows-preserved
open-loop-rows-preserved t c =
    opening.opens_on c.args.walk.now c.loop-rows.walk c.open_row.new.walk c.loop-rows.rows.items c.open_row.new.rows.items c.args.tree.now c.loop-rows.rest.now c.in-Some.last.now c.loop-rows.invariant (opening.row_opened c.loop-rows.walk c.open_row.new.walk c.loop-rows.rows.items c.open_row.new.rows.items c.loop-rows.rest.now c.in_ok-last.field-0 c.in-Some.last c.in-Some.is c.in_ok-last.ensures.fine)

pub open-returns-clause-fine : goal.open-returns-clause-fine
open-returns-clause-fine t c =
    opening.opens_stay c.args.walk.now c.loop-rows.walk c.open_row.new.walk c.loop-rows.rows.items c.open_row.new.rows.items c.args.tree.now c.loop-rows.rest.now c.loop-rows.invariant (opening.row_stays c.loop-rows.walk c.open_row.new.walk c.loop-rows.rows.items c.open_row.new.rows.items c.loop-rows.rest.now c.in_ok-last.field-0 c.in_default.is c.in_ok-last.ensures.fine)

pub open-returns-clause-rest : goal.open-returns-clause-rest
open-returns-clause-rest t c =
    (opening.row_stays c.loop-rows.walk c.open_row.new.walk c.loop-rows.rows.items c.open_row.new.rows.items c.loop-rows.rest.now c.in_ok-last.field-0 c.in_default.is c.in_ok-last.ensures.fine).closed

pub open_row-returns-in_ok-add_row-in-If-clause-fine : goal.open_row-returns-in_ok-add_row-in-If-clause-fine
open_row-returns-in_ok-add_row-in-If-clause-fine t c =
    opening.if_opens c.args.walk.now c.resolve-in-If.new.walk c.args.rows.now.items c.add_row.new.rows.items c.tree.inside.at c.in-If.test c.in-If.then c.in-If.last c.args.tree.now c.in_ok-test-in-If.test c.in_ok-then-in-If.then
    (ap (node_view c.tree.inside.at) (sym c.in-If.is ∙ c.deref.ensures) ∙ c.tree.view_is)
    c.in_ok-add_row-in-If.ensures (and_then c.args.walk.now c.resolve.new.walk c.resolve-in-If.new.walk c.in_ok-test-in-If.ensures.fine c.in_ok-then-in-If.ensures.fine)

pub open_row-returns-in_ok-add_row-in-Quantified-clause-fine : goal.open_row-returns-in_ok-add_row-in-Quantified-clause-fine
open_row-returns-in_ok-add_row-in-Quantified-clause-fine t c =
    opening.quantified_opens c.args.walk.now c.resolve_bounds.new.walk c.bind_bounds.new.self c.args.rows.now.items c.add_row-in-Quantified.new.rows.items c.tree.inside.at c.in-Quantified.quantifier c.in-Quantified.bounds c.in-Quantified.body c.args.tree.now c.in_ok-sets-in-Quantified.sets
    (ap (node_view c.tree.inside.at) (sym c.in-Quantified.is ∙ c.deref.ensures) ∙ c.tree.view_is)
    c.in_ok-add_row-in-Quantified.ensures c.in_ok-sets-in-Quantified.ensures.fine c.in_ok-bind_bounds-in-Quantified.ensures

pub open_row-returns-in_ok-add_row-in-Choose-clause-fine : goal.open_row-returns-in_ok-add_row-in-Choose-clause-fine
open_row-returns-in_ok-add_row-in-Choose-clause-fine t c =
    opening.choose_opens c.args.walk.now c.resolve-in-Choose.new.walk c.bind_name.new.self c.args.rows.now.items c.add_row-in-Choose.new.rows.items c.tree.inside.at c.in-Choose.name c.in-Choose.set c.in-Choose.body c.args.tree.now c.in_ok-set-in-Choose.set
    (ap (node_view c.tree.inside.at) (sym c.in-Choose.is ∙ c.deref.ensures) ∙ c.tree.view_is)
    c.in_ok-add_row-in-Choose.ensures c.in_ok-set-in-Choose.ensures.fine c.in_ok-bind_name-in-Choose.ensures

pub open_row-returns-in_ok-add_row-in-Let-clause-fine : goal.open_row-returns-in_ok-add_row-in-Let-clause-fine
open_row-returns-in_ok-add_row-in-Let-clause-fine t c =
    opening.let_opens c.args.walk.now c.resolve_definitions.new.walk c.args.rows.now.items c.add_row-in-Let.new.rows.items c.tree.inside.at c.in-Let.definitions c.in-Let.body c.args.tree.now c.in_ok-numbers-in-Let.numbers
    (ap (node_view c.tree.inside.at) (sym c.in-Let.is ∙ c.deref.ensures) ∙ c.tree.view_is)
    c.in_ok-add_row-in-Let.ensures c.in_ok-numbers-in-Let.ensures.fine
