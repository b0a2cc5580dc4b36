-- The items of a list of trees, in their order.
use Rattle.std.specs.Prelude.{List, [], ◌∷◌, ◌++◌}
use Rattle.reading_trees.specs.Trees as tree
use Rattle.reading_trees.specs.Trees.{Tree, Trees, Operands, Steps, Bounds, Fields, Changes, Arms, Definitions}
use Rattle.reading_trees.specs.declared.expr.Step.{Step}
use Rattle.reading_trees.specs.declared.expr.Step.TheVariants as step
use Rattle.reading_trees.specs.declared.expr.StepAt.{StepAt}
use Rattle.reading_trees.specs.declared.expr.Bound.{Bound}
use Rattle.reading_trees.specs.declared.expr.Field.{Field}
use Rattle.reading_trees.specs.declared.expr.Change.{Change}
use Rattle.reading_trees.specs.declared.expr.Arm.{Arm}
use Rattle.reading_trees.specs.declared.expr.Definition.{Definition}

abbrev pub trees_list : Trees → List Tree
trees_list tree.NoTrees = []
trees_list (tree.MoreTrees ts t) = trees_list ts ++ t ∷ []

-- the operands of a chain but its last
abbrev pub operands_list : Operands → List Tree
operands_list (tree.First t) = t ∷ []
operands_list (tree.Next ts at t) = operands_list ts ++ t ∷ []

-- the step of a tree
abbrev pub step_of : tree.Step → Step
step_of tree.Prime = step.Prime
step_of (tree.Index ts) = step.Index ts
step_of (tree.Field h) = step.Field h

abbrev pub steps_list : Steps → List StepAt
steps_list tree.NoSteps = []
steps_list (tree.MoreSteps ts at s) = steps_list ts ++ record { at = at; step = step_of s } ∷ []

abbrev pub bounds_list : Bounds → List Bound
bounds_list tree.NoBounds = []
bounds_list (tree.MoreBounds ts ns t) = bounds_list ts ++ record { names = ns; set = t } ∷ []

abbrev pub fields_list : Fields → List Field
fields_list tree.NoFields = []
fields_list (tree.MoreFields ts n t) = fields_list ts ++ record { name = n; value = t } ∷ []

abbrev pub changes_list : Changes → List Change
changes_list tree.NoChanges = []
changes_list (tree.MoreChanges ts p t) = changes_list ts ++ record { path = p; value = t } ∷ []

abbrev pub arms_list : Arms → List Arm
arms_list tree.NoArms = []
arms_list (tree.MoreArms ts p t) = arms_list ts ++ record { test = p; value = t } ∷ []

abbrev pub definitions_list : Definitions → List Definition
definitions_list tree.NoDefinitions = []
definitions_list (tree.MoreDefinitions ts n at ns form t) = definitions_list ts ++ record { name = n; at = at; params = ns; form = form; body = t } ∷ []
