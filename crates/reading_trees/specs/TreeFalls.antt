-- Each part of an expression has a smaller number than the expression.
use Rattle.std.specs.Prelude.{◌≤◌, ◌+◌, suc, max, List, [], ◌∷◌, Some, None}
use Rattle.std.proofs.Common.{arith}
use denote.Param.Weighed.{most}
use Rattle.base_core.specs.declared.place.Place.{Place}
use Rattle.reading_trees.specs.Trees as tree
use Rattle.reading_trees.specs.Trees.{Tree, Trees, Operands, Steps, Bounds, Fields, Changes, Arms, Definitions}
use Rattle.reading_trees.specs.TreeSizes.{tree_size, trees_size, operands_size, step_size, steps_size, bounds_size, fields_size, changes_size, arms_size, definitions_size}
use Rattle.reading_trees.specs.TreeViews.{node_view, step_view, trees_from, trees_of, operands_from, operands_of, steps_from, steps_of, bounds_from, bounds_of, fields_from, fields_of, changes_from, changes_of, arms_from, arms_of, definitions_from, definitions_of}
use Rattle.reading_trees.specs.declared.expr.Node.{Node}
use Rattle.reading_trees.specs.declared.expr.Node.TheVariants as node
use Rattle.reading_trees.specs.declared.expr.Step.{Step}
use Rattle.reading_trees.specs.declared.expr.Step.TheVariants as step
use Rattle.reading_trees.specs.declared.expr.StepAt.{StepAt}
use Rattle.reading_trees.specs.declared.expr.Operand.{Operand}
use Rattle.reading_trees.specs.declared.expr.Bound.{Bound}
use Rattle.reading_trees.specs.declared.expr.Field.{Field}
use Rattle.reading_trees.specs.declared.expr.Change.{Change}
use Rattle.reading_trees.specs.declared.expr.Arm.{Arm}
use Rattle.reading_trees.specs.declared.expr.Definition.{Definition}
use Rattle.reading_trees.specs.declared.expr.Arms.TheDeep.{deep-Node, deep-Step, deep-StepAt, deep-Operand, deep-Bound, deep-Field, deep-Change, deep-Arm, deep-Definition}

step_falls : (s : Step) → deep-Step s ≤ suc (step_size (step_view s))
step_falls step.Prime = omega arith
step_falls (step.Index es) = omega arith
step_falls (step.Field h) = omega arith

most_trees : (ts : Trees) (xs : List Tree) → max (trees_size ts) (most (λ t. tree_size t + 1) xs) ≤ trees_size (trees_from ts xs)
most_trees ts [] = omega arith
most_trees ts (x ∷ xs) = omega (arith, most_trees (tree.MoreTrees ts x) xs)

pub trees_falls : (xs : List Tree) → max (most (λ t. tree_size t + 1) xs) 0 ≤ trees_size (trees_of xs)
trees_falls xs = omega (arith, most_trees tree.NoTrees xs)

most_operands : (ts : Operands) (xs : List Operand) → max (operands_size ts) (most deep-Operand xs) ≤ operands_size (operands_from ts xs)
most_operands ts [] = omega arith
most_operands ts (x ∷ xs) = omega (arith, most_operands (tree.Next ts x.at x.value) xs)

pub operands_falls : (t : Tree) (xs : List Operand) → max (tree_size t + 1) (max (most deep-Operand xs) 0) ≤ operands_size (operands_of t xs)
operands_falls t xs = omega (arith, most_operands (tree.First t) xs)

most_steps : (ts : Steps) (xs : List StepAt) → max (steps_size ts) (most deep-StepAt xs) ≤ steps_size (steps_from ts xs)
most_steps ts [] = omega arith
most_steps ts (x ∷ xs) = omega (arith, most_steps (tree.MoreSteps ts x.at (step_view x.step)) xs, step_falls x.step)

pub steps_falls : (xs : List StepAt) → max (most deep-StepAt xs) 0 ≤ steps_size (steps_of xs)
steps_falls xs = omega (arith, most_steps tree.NoSteps xs)

most_bounds : (ts : Bounds) (xs : List Bound) → max (bounds_size ts) (most deep-Bound xs) ≤ bounds_size (bounds_from ts xs)
most_bounds ts [] = omega arith
most_bounds ts (x ∷ xs) = omega (arith, most_bounds (tree.MoreBounds ts x.names x.set) xs)

pub bounds_falls : (xs : List Bound) → max (most deep-Bound xs) 0 ≤ bounds_size (bounds_of xs)
bounds_falls xs = omega (arith, most_bounds tree.NoBounds xs)

most_fields : (ts : Fields) (xs : List Field) → max (fields_size ts) (most deep-Field xs) ≤ fields_size (fields_from ts xs)
most_fields ts [] = omega arith
most_fields ts (x ∷ xs) = omega (arith, most_fields (tree.MoreFields ts x.name x.value) xs)

pub fields_falls : (xs : List Field) → max (most deep-Field xs) 0 ≤ fields_size (fields_of xs)
fields_falls xs = omega (arith, most_fields tree.NoFields xs)

most_changes : (ts : Changes) (xs : List Change) → max (changes_size ts) (most deep-Change xs) ≤ changes_size (changes_from ts xs)
most_changes ts [] = omega arith
most_changes ts (x ∷ xs) = omega (arith, most_changes (tree.MoreChanges ts x.path x.value) xs)

pub changes_falls : (xs : List Change) → max (most deep-Change xs) 0 ≤ changes_size (changes_of xs)
changes_falls xs = omega (arith, most_changes tree.NoChanges xs)

most_arms : (ts : Arms) (xs : List Arm) → max (arms_size ts) (most deep-Arm xs) ≤ arms_size (arms_from ts xs)
most_arms ts [] = omega arith
most_arms ts (x ∷ xs) = omega (arith, most_arms (tree.MoreArms ts x.test x.value) xs)

pub arms_falls : (xs : List Arm) → max (most deep-Arm xs) 0 ≤ arms_size (arms_of xs)
arms_falls xs = omega (arith, most_arms tree.NoArms xs)

most_definitions : (ts : Definitions) (xs : List Definition) → max (definitions_size ts) (most deep-Definition xs) ≤ definitions_size (definitions_from ts xs)
most_definitions ts [] = omega arith
most_definitions ts (x ∷ xs) = omega (arith, most_definitions (tree.MoreDefinitions ts x.name x.at x.params x.form x.body) xs)

pub definitions_falls : (xs : List Definition) → max (most deep-Definition xs) 0 ≤ definitions_size (definitions_of xs)
definitions_falls xs = omega (arith, most_definitions tree.NoDefinitions xs)

pub tree_falls : (at : Place) (n : Node) → max (deep-Node n) 0 ≤ tree_size (node_view at n)
tree_falls at (node.Number z) = omega arith
tree_falls at (node.Str t) = omega arith
tree_falls at (node.Truth b) = omega arith
tree_falls at (node.Builtin b) = omega arith
tree_falls at (node.Name n) = omega arith
tree_falls at (node.Call n es) = omega arith
tree_falls at (node.Qualified n es) = omega arith
tree_falls at node.At = omega arith
tree_falls at (node.Parenthesized e) = omega arith
tree_falls at (node.Junction b es) = omega arith
tree_falls at (node.Prefix o e) = omega arith
tree_falls at (node.Infix o es e) = omega arith
tree_falls at (node.Postfix e ss s) = omega (arith, step_falls s)
tree_falls at (node.SetOf es) = omega arith
tree_falls at (node.Filter n s e) = omega arith
tree_falls at (node.Map e bs) = omega arith
tree_falls at (node.Tuple es) = omega arith
tree_falls at (node.Function bs e) = omega arith
tree_falls at (node.FunctionSet s e) = omega arith
tree_falls at (node.Record fs) = omega arith
tree_falls at (node.RecordSet fs) = omega arith
tree_falls at (node.Except e cs) = omega arith
tree_falls at (node.Quantified q bs e) = omega arith
tree_falls at (node.Choose n s e) = omega arith
tree_falls at (node.If p e f) = omega arith
tree_falls at (node.Case arms None) = omega arith
tree_falls at (node.Case arms (Some e)) = omega arith
tree_falls at (node.Let ds e) = omega arith
tree_falls at (node.BoxAction e v) = omega arith
tree_falls at (node.AngleAction e v) = omega arith
tree_falls at (node.Fairness v e) = omega arith
