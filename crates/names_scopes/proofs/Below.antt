-- Items of lists are smaller than the lists.
use Rattle.std.proofs.Common.{◌≡◌, ap, List, [], ◌∷◌, length, ◌<◌, ◌≤◌, arith}
use Rattle.std.specs.Prelude.{ℕ, zero, suc, get_or}
use Rattle.reading_trees.specs.Trees as tree
use Rattle.reading_trees.specs.Trees.{Tree, Trees}
use Rattle.reading_trees.specs.TreeSizes.{tree_size, trees_size, operands_size, step_size, steps_size, bounds_size, fields_size, changes_size, arms_size, definitions_size}
use Rattle.reading_trees.specs.TreeViews.{step_view, trees_from, operands_from, operands_of, steps_from, bounds_from, fields_from, changes_from, arms_from, definitions_from}
use Rattle.reading_trees.specs.declared.expr.Step.{Step}
use Rattle.reading_trees.specs.declared.expr.Step.TheVariants as step
use Rattle.reading_trees.specs.declared.expr.Arms.TheDeep.{deep-Step}
use Rattle.reading_trees.specs.declared.expr.Operand.{Operand}
use Rattle.reading_trees.specs.declared.expr.StepAt.{StepAt}
use Rattle.reading_trees.specs.declared.expr.Bound.{Bound}
use Rattle.reading_trees.specs.declared.expr.Field.{Field}
use Rattle.reading_trees.specs.declared.expr.Change.{Change}
use Rattle.reading_trees.specs.declared.expr.Arm.{Arm}
use Rattle.reading_trees.specs.declared.expr.Definition.{Definition}

trees_grow : (l : tree.Trees) (xs : List Tree) → trees_size l ≤ trees_size (trees_from l xs)
trees_grow l [] = omega arith
trees_grow l (x ∷ xs) = omega (arith, trees_grow (tree.MoreTrees l x) xs)

pub tree_below : (l : tree.Trees) (xs : List Tree) (i : ℕ) (x : Tree) → i < length xs → x ≡ get_or xs i x → tree_size x < trees_size (trees_from l xs)
tree_below l [] i x lt e = absurd (omega (arith, lt))
tree_below l (y ∷ ys) zero x lt e =
    let s : tree_size x ≡ tree_size y = ap (λ (b : Tree). tree_size b) e in
    omega (arith, trees_grow (tree.MoreTrees l y) ys, s)
tree_below l (y ∷ ys) (suc j) x lt e = tree_below (tree.MoreTrees l y) ys j x (omega (arith, lt)) e

operands_grow : (l : tree.Operands) (xs : List Operand) → operands_size l ≤ operands_size (operands_from l xs)
operands_grow l [] = omega arith
operands_grow l (x ∷ xs) = omega (arith, operands_grow (tree.Next l x.at x.value) xs)

pub operand_below : (l : tree.Operands) (xs : List Operand) (i : ℕ) (x : Operand) → i < length xs → x ≡ get_or xs i x → tree_size x.value < operands_size (operands_from l xs)
operand_below l [] i x lt e = absurd (omega (arith, lt))
operand_below l (y ∷ ys) zero x lt e =
    let s : tree_size x.value ≡ tree_size y.value = ap (λ (b : Operand). tree_size b.value) e in
    omega (arith, operands_grow (tree.Next l y.at y.value) ys, s)
operand_below l (y ∷ ys) (suc j) x lt e = operand_below (tree.Next l y.at y.value) ys j x (omega (arith, lt)) e

steps_grow : (l : tree.Steps) (xs : List StepAt) → steps_size l ≤ steps_size (steps_from l xs)
steps_grow l [] = omega arith
steps_grow l (x ∷ xs) = omega (arith, steps_grow (tree.MoreSteps l x.at (step_view x.step)) xs)

pub step_below : (l : tree.Steps) (xs : List StepAt) (i : ℕ) (x : StepAt) → i < length xs → x ≡ get_or xs i x → step_size (step_view x.step) < steps_size (steps_from l xs)
step_below l [] i x lt e = absurd (omega (arith, lt))
step_below l (y ∷ ys) zero x lt e =
    let s : step_size (step_view x.step) ≡ step_size (step_view y.step) = ap (λ (b : StepAt). step_size (step_view b.step)) e in
    omega (arith, steps_grow (tree.MoreSteps l y.at (step_view y.step)) ys, s)
step_below l (y ∷ ys) (suc j) x lt e = step_below (tree.MoreSteps l y.at (step_view y.step)) ys j x (omega (arith, lt)) e

bounds_grow : (l : tree.Bounds) (xs : List Bound) → bounds_size l ≤ bounds_size (bounds_from l xs)
bounds_grow l [] = omega arith
bounds_grow l (x ∷ xs) = omega (arith, bounds_grow (tree.MoreBounds l x.names x.set) xs)

pub set_below : (l : tree.Bounds) (xs : List Bound) (i : ℕ) (x : Bound) → i < length xs → x ≡ get_or xs i x → tree_size x.set < bounds_size (bounds_from l xs)
set_below l [] i x lt e = absurd (omega (arith, lt))
set_below l (y ∷ ys) zero x lt e =
    let s : tree_size x.set ≡ tree_size y.set = ap (λ (b : Bound). tree_size b.set) e in
    omega (arith, bounds_grow (tree.MoreBounds l y.names y.set) ys, s)
set_below l (y ∷ ys) (suc j) x lt e = set_below (tree.MoreBounds l y.names y.set) ys j x (omega (arith, lt)) e

fields_grow : (l : tree.Fields) (xs : List Field) → fields_size l ≤ fields_size (fields_from l xs)
fields_grow l [] = omega arith
fields_grow l (x ∷ xs) = omega (arith, fields_grow (tree.MoreFields l x.name x.value) xs)

pub field_below : (l : tree.Fields) (xs : List Field) (i : ℕ) (x : Field) → i < length xs → x ≡ get_or xs i x → tree_size x.value < fields_size (fields_from l xs)
field_below l [] i x lt e = absurd (omega (arith, lt))
field_below l (y ∷ ys) zero x lt e =
    let s : tree_size x.value ≡ tree_size y.value = ap (λ (b : Field). tree_size b.value) e in
    omega (arith, fields_grow (tree.MoreFields l y.name y.value) ys, s)
field_below l (y ∷ ys) (suc j) x lt e = field_below (tree.MoreFields l y.name y.value) ys j x (omega (arith, lt)) e

changes_grow : (l : tree.Changes) (xs : List Change) → changes_size l ≤ changes_size (changes_from l xs)
changes_grow l [] = omega arith
changes_grow l (x ∷ xs) = omega (arith, changes_grow (tree.MoreChanges l x.path x.value) xs)

pub path_below : (l : tree.Changes) (xs : List Change) (i : ℕ) (x : Change) → i < length xs → x ≡ get_or xs i x → steps_size x.path < changes_size (changes_from l xs)
path_below l [] i x lt e = absurd (omega (arith, lt))
path_below l (y ∷ ys) zero x lt e =
    let s : steps_size x.path ≡ steps_size y.path = ap (λ (b : Change). steps_size b.path) e in
    omega (arith, changes_grow (tree.MoreChanges l y.path y.value) ys, s)
path_below l (y ∷ ys) (suc j) x lt e = path_below (tree.MoreChanges l y.path y.value) ys j x (omega (arith, lt)) e

pub change_below : (l : tree.Changes) (xs : List Change) (i : ℕ) (x : Change) → i < length xs → x ≡ get_or xs i x → tree_size x.value < changes_size (changes_from l xs)
change_below l [] i x lt e = absurd (omega (arith, lt))
change_below l (y ∷ ys) zero x lt e =
    let s : tree_size x.value ≡ tree_size y.value = ap (λ (b : Change). tree_size b.value) e in
    omega (arith, changes_grow (tree.MoreChanges l y.path y.value) ys, s)
change_below l (y ∷ ys) (suc j) x lt e = change_below (tree.MoreChanges l y.path y.value) ys j x (omega (arith, lt)) e

arms_grow : (l : tree.Arms) (xs : List Arm) → arms_size l ≤ arms_size (arms_from l xs)
arms_grow l [] = omega arith
arms_grow l (x ∷ xs) = omega (arith, arms_grow (tree.MoreArms l x.test x.value) xs)

pub test_below : (l : tree.Arms) (xs : List Arm) (i : ℕ) (x : Arm) → i < length xs → x ≡ get_or xs i x → tree_size x.test < arms_size (arms_from l xs)
test_below l [] i x lt e = absurd (omega (arith, lt))
test_below l (y ∷ ys) zero x lt e =
    let s : tree_size x.test ≡ tree_size y.test = ap (λ (b : Arm). tree_size b.test) e in
    omega (arith, arms_grow (tree.MoreArms l y.test y.value) ys, s)
test_below l (y ∷ ys) (suc j) x lt e = test_below (tree.MoreArms l y.test y.value) ys j x (omega (arith, lt)) e

pub arm_below : (l : tree.Arms) (xs : List Arm) (i : ℕ) (x : Arm) → i < length xs → x ≡ get_or xs i x → tree_size x.value < arms_size (arms_from l xs)
arm_below l [] i x lt e = absurd (omega (arith, lt))
arm_below l (y ∷ ys) zero x lt e =
    let s : tree_size x.value ≡ tree_size y.value = ap (λ (b : Arm). tree_size b.value) e in
    omega (arith, arms_grow (tree.MoreArms l y.test y.value) ys, s)
arm_below l (y ∷ ys) (suc j) x lt e = arm_below (tree.MoreArms l y.test y.value) ys j x (omega (arith, lt)) e

definitions_grow : (l : tree.Definitions) (xs : List Definition) → definitions_size l ≤ definitions_size (definitions_from l xs)
definitions_grow l [] = omega arith
definitions_grow l (x ∷ xs) = omega (arith, definitions_grow (tree.MoreDefinitions l x.name x.at x.params x.form x.body) xs)

pub body_below : (l : tree.Definitions) (xs : List Definition) (i : ℕ) (x : Definition) → i < length xs → x ≡ get_or xs i x → tree_size x.body < definitions_size (definitions_from l xs)
body_below l [] i x lt e = absurd (omega (arith, lt))
body_below l (y ∷ ys) zero x lt e =
    let s : tree_size x.body ≡ tree_size y.body = ap (λ (b : Definition). tree_size b.body) e in
    omega (arith, definitions_grow (tree.MoreDefinitions l y.name y.at y.params y.form y.body) ys, s)
body_below l (y ∷ ys) (suc j) x lt e = body_below (tree.MoreDefinitions l y.name y.at y.params y.form y.body) ys j x (omega (arith, lt)) e

pub first_below : (first : Tree) (xs : List Operand) → tree_size first < operands_size (operands_of first xs)
first_below first xs = omega (arith, operands_grow (tree.First first) xs)

-- what one operand asks of those before it
pub others_below : (first : Tree) (xs : List Operand) (i : ℕ) (x : Operand) → i < length xs → x ≡ get_or xs i x → tree_size x.value < operands_size (operands_of first xs)
others_below first xs i x lt e = operand_below (tree.First first) xs i x lt e

pub step_falls : (s : Step) → deep-Step s ≤ suc (step_size (step_view s))
step_falls step.Prime = omega arith
step_falls (step.Index es) = omega arith
step_falls (step.Field h) = omega arith
