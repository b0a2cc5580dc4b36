-- The tree that the fields of an expression stand for, and the lists of trees of their items.
use Rattle.std.specs.Prelude.{Bool, true, false, List, [], ◌∷◌, Some, None}
use Rattle.base_core.specs.declared.place.Place.{Place}
use Rattle.reading_trees.specs.Trees as tree
use Rattle.reading_trees.specs.Trees.{Tree, Trees, Operands, Steps, Bounds, Fields, Changes, Arms, Definitions}
use Rattle.reading_trees.specs.declared.expr.Node.{Node}
use Rattle.reading_trees.specs.declared.expr.Node.TheVariants as node
use Rattle.reading_trees.specs.declared.expr.Step.{Step}
use Rattle.reading_trees.specs.declared.expr.Step.TheVariants as step
use Rattle.reading_trees.specs.declared.expr.StepAt.{StepAt}
use Rattle.reading_trees.specs.declared.expr.Operand.{Operand}
use Rattle.reading_trees.specs.declared.expr.Bound.{Bound}
use Rattle.reading_trees.specs.declared.expr.Field.{Field}
use Rattle.reading_trees.specs.declared.expr.Change.{Change}
use Rattle.reading_trees.specs.declared.expr.Arm.{Arm}
use Rattle.reading_trees.specs.declared.expr.Definition.{Definition}

abbrev pub step_view : Step → tree.Step
step_view step.Prime = tree.Prime
step_view (step.Index es) = tree.Index es
step_view (step.Field h) = tree.Field h

abbrev pub trees_from : Trees → List Tree → Trees
trees_from ts [] = ts
trees_from ts (x ∷ xs) = trees_from (tree.MoreTrees ts x) xs

abbrev pub trees_of : List Tree → Trees
trees_of xs = trees_from tree.NoTrees xs

-- whether there are no trees
abbrev pub are_none : Trees → Bool
are_none tree.NoTrees = true
are_none (tree.MoreTrees ts t) = false

abbrev pub steps_are_none : Steps → Bool
steps_are_none tree.NoSteps = true
steps_are_none (tree.MoreSteps ss at s) = false

abbrev pub operands_from : Operands → List Operand → Operands
operands_from ts [] = ts
operands_from ts (x ∷ xs) = operands_from (tree.Next ts x.at x.value) xs

-- the first operand, and those behind it
abbrev pub operands_of : Tree → List Operand → Operands
operands_of t xs = operands_from (tree.First t) xs

abbrev pub steps_from : Steps → List StepAt → Steps
steps_from ts [] = ts
steps_from ts (x ∷ xs) = steps_from (tree.MoreSteps ts x.at (step_view x.step)) xs

abbrev pub steps_of : List StepAt → Steps
steps_of xs = steps_from tree.NoSteps xs

abbrev pub bounds_from : Bounds → List Bound → Bounds
bounds_from ts [] = ts
bounds_from ts (x ∷ xs) = bounds_from (tree.MoreBounds ts x.names x.set) xs

abbrev pub bounds_of : List Bound → Bounds
bounds_of xs = bounds_from tree.NoBounds xs

abbrev pub fields_from : Fields → List Field → Fields
fields_from ts [] = ts
fields_from ts (x ∷ xs) = fields_from (tree.MoreFields ts x.name x.value) xs

abbrev pub fields_of : List Field → Fields
fields_of xs = fields_from tree.NoFields xs

abbrev pub changes_from : Changes → List Change → Changes
changes_from ts [] = ts
changes_from ts (x ∷ xs) = changes_from (tree.MoreChanges ts x.path x.value) xs

abbrev pub changes_of : List Change → Changes
changes_of xs = changes_from tree.NoChanges xs

abbrev pub arms_from : Arms → List Arm → Arms
arms_from ts [] = ts
arms_from ts (x ∷ xs) = arms_from (tree.MoreArms ts x.test x.value) xs

abbrev pub arms_of : List Arm → Arms
arms_of xs = arms_from tree.NoArms xs

abbrev pub definitions_from : Definitions → List Definition → Definitions
definitions_from ts [] = ts
definitions_from ts (x ∷ xs) = definitions_from (tree.MoreDefinitions ts x.name x.at x.params x.form x.body) xs

abbrev pub definitions_of : List Definition → Definitions
definitions_of xs = definitions_from tree.NoDefinitions xs

abbrev pub node_view : Place → Node → Tree
node_view at (node.Number z) = tree.Number at z
node_view at (node.Str t) = tree.Str at t
node_view at (node.Truth b) = tree.Truth at b
node_view at (node.Builtin b) = tree.Builtin at b
node_view at (node.Name n) = tree.Name at n
node_view at (node.Call n es) = tree.Call at n es
node_view at (node.Qualified n es) = tree.Qualified at n es
node_view at node.At = tree.At at
node_view at (node.Parenthesized e) = tree.Parenthesized at e
node_view at (node.Junction b es) = tree.Junction at b es
node_view at (node.Prefix o e) = tree.Prefix at o e
node_view at (node.Infix o es e) = tree.Infix at o es e
node_view at (node.Postfix e ss s) = tree.Postfix at e ss (step_view s)
node_view at (node.SetOf es) = tree.SetOf at es
node_view at (node.Filter n s e) = tree.Filter at n s e
node_view at (node.Map e bs) = tree.Map at e bs
node_view at (node.Tuple es) = tree.Tuple at es
node_view at (node.Function bs e) = tree.Function at bs e
node_view at (node.FunctionSet s e) = tree.FunctionSet at s e
node_view at (node.Record fs) = tree.Record at fs
node_view at (node.RecordSet fs) = tree.RecordSet at fs
node_view at (node.Except e cs) = tree.Except at e cs
node_view at (node.Quantified q bs e) = tree.Quantified at q bs e
node_view at (node.Choose n s e) = tree.Choose at n s e
node_view at (node.If p e f) = tree.If at p e f
node_view at (node.Case arms None) = tree.Case at arms
node_view at (node.Case arms (Some e)) = tree.CaseOther at arms e
node_view at (node.Let ds e) = tree.Let at ds e
node_view at (node.BoxAction e v) = tree.BoxAction at e v
node_view at (node.AngleAction e v) = tree.AngleAction at e v
node_view at (node.Fairness v e) = tree.Fairness at v e
