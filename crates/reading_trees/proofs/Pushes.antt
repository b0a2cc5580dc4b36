-- A list of trees with one more item at its end.
use Rattle.std.proofs.Common.{◌≡◌, false, List, [], ◌∷◌, ◌++◌, length, refl, sym, ◌∙◌, arith}
use Rattle.std.specs.Prelude.{◌==◌}
use Rattle.std.proofs.lemmas.Bool.Decides.{nat_tests}
use Rattle.reading_trees.specs.Trees as tree
use Rattle.reading_trees.specs.Trees.{Tree, Trees, Operands, Steps, Bounds, Fields, Changes, Arms, Definitions}
use Rattle.reading_trees.specs.TreeViews.{are_none, steps_are_none, step_view, trees_of, steps_of, trees_from, operands_from, steps_from, bounds_from, fields_from, changes_from, arms_from, definitions_from}
use Rattle.reading_trees.specs.declared.expr.StepAt.{StepAt}
use Rattle.reading_trees.specs.declared.expr.Operand.{Operand}
use Rattle.reading_trees.specs.declared.expr.Bound.{Bound}
use Rattle.reading_trees.specs.declared.expr.Field.{Field}
use Rattle.reading_trees.specs.declared.expr.Change.{Change}
use Rattle.reading_trees.specs.declared.expr.Arm.{Arm}
use Rattle.reading_trees.specs.declared.expr.Definition.{Definition}

pub trees_pushed : (ts : Trees) (xs : List Tree) (x : Tree) → trees_from ts (xs ++ x ∷ []) ≡ tree.MoreTrees (trees_from ts xs) x
trees_pushed ts [] x = refl
trees_pushed ts (y ∷ xs) x = trees_pushed (tree.MoreTrees ts y) xs x

pub operands_pushed : (ts : Operands) (xs : List Operand) (x : Operand) → operands_from ts (xs ++ x ∷ []) ≡ tree.Next (operands_from ts xs) x.at x.value
operands_pushed ts [] x = refl
operands_pushed ts (y ∷ xs) x = operands_pushed (tree.Next ts y.at y.value) xs x

pub steps_pushed : (ts : Steps) (xs : List StepAt) (x : StepAt) → steps_from ts (xs ++ x ∷ []) ≡ tree.MoreSteps (steps_from ts xs) x.at (step_view x.step)
steps_pushed ts [] x = refl
steps_pushed ts (y ∷ xs) x = steps_pushed (tree.MoreSteps ts y.at (step_view y.step)) xs x

pub bounds_pushed : (ts : Bounds) (xs : List Bound) (x : Bound) → bounds_from ts (xs ++ x ∷ []) ≡ tree.MoreBounds (bounds_from ts xs) x.names x.set
bounds_pushed ts [] x = refl
bounds_pushed ts (y ∷ xs) x = bounds_pushed (tree.MoreBounds ts y.names y.set) xs x

pub fields_pushed : (ts : Fields) (xs : List Field) (x : Field) → fields_from ts (xs ++ x ∷ []) ≡ tree.MoreFields (fields_from ts xs) x.name x.value
fields_pushed ts [] x = refl
fields_pushed ts (y ∷ xs) x = fields_pushed (tree.MoreFields ts y.name y.value) xs x

pub changes_pushed : (ts : Changes) (xs : List Change) (x : Change) → changes_from ts (xs ++ x ∷ []) ≡ tree.MoreChanges (changes_from ts xs) x.path x.value
changes_pushed ts [] x = refl
changes_pushed ts (y ∷ xs) x = changes_pushed (tree.MoreChanges ts y.path y.value) xs x

pub arms_pushed : (ts : Arms) (xs : List Arm) (x : Arm) → arms_from ts (xs ++ x ∷ []) ≡ tree.MoreArms (arms_from ts xs) x.test x.value
arms_pushed ts [] x = refl
arms_pushed ts (y ∷ xs) x = arms_pushed (tree.MoreArms ts y.test y.value) xs x

pub definitions_pushed : (ts : Definitions) (xs : List Definition) (x : Definition) → definitions_from ts (xs ++ x ∷ []) ≡ tree.MoreDefinitions (definitions_from ts xs) x.name x.at x.params x.form x.body
definitions_pushed ts [] x = refl
definitions_pushed ts (y ∷ xs) x = definitions_pushed (tree.MoreDefinitions ts y.name y.at y.params y.form y.body) xs x

not_none : {A : Type 0} (x : A) (xs : List A) → (length (x ∷ xs) == 0) ≡ false
not_none x xs = grind (arith, nat_tests)

-- what goes on from some tree has one
more_trees : (ts : Trees) (t : Tree) (xs : List Tree) → are_none (trees_from (tree.MoreTrees ts t) xs) ≡ false
more_trees ts t [] = refl
more_trees ts t (x ∷ xs) = more_trees (tree.MoreTrees ts t) x xs

pub none_of_trees : (xs : List Tree) → (length xs == 0) ≡ are_none (trees_of xs)
none_of_trees [] = refl
none_of_trees (x ∷ xs) = not_none x xs ∙ sym (more_trees tree.NoTrees x xs)

more_steps : (ts : Steps) (y : StepAt) (xs : List StepAt) → steps_are_none (steps_from (tree.MoreSteps ts y.at (step_view y.step)) xs) ≡ false
more_steps ts y [] = refl
more_steps ts y (x ∷ xs) = more_steps (tree.MoreSteps ts y.at (step_view y.step)) x xs

pub none_of_steps : (xs : List StepAt) → (length xs == 0) ≡ steps_are_none (steps_of xs)
none_of_steps [] = refl
none_of_steps (x ∷ xs) = not_none x xs ∙ sym (more_steps tree.NoSteps x xs)
