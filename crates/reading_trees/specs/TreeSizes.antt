-- A number for each tree and list of trees that is above those of its parts.
use Rattle.std.specs.Prelude.{ℕ, suc, max}
use Rattle.reading_trees.specs.Trees.{Tree, Number, Str, Truth, Builtin, Name, Call, Qualified, At, Parenthesized, Junction, Prefix, Infix, Postfix, SetOf, Filter, Map, Tuple, Function, FunctionSet, Record, RecordSet, Except, Quantified, Choose, If, Case, CaseOther, Let, BoxAction, AngleAction, Fairness, Trees, NoTrees, MoreTrees, Operands, First, Next, Step, Prime, Index, Field, Steps, NoSteps, MoreSteps, Bounds, NoBounds, MoreBounds, Fields, NoFields, MoreFields, Changes, NoChanges, MoreChanges, Arms, NoArms, MoreArms, Definitions, NoDefinitions, MoreDefinitions}

abbrev mutual
  pub tree_size : Tree → ℕ
  tree_size (Number a b) = 0
  tree_size (Str a b) = 0
  tree_size (Truth a b) = 0
  tree_size (Builtin a b) = 0
  tree_size (Name a b) = 0
  tree_size (Call a b c) = suc (trees_size c)
  tree_size (Qualified a b c) = suc (trees_size c)
  tree_size (At a) = 0
  tree_size (Parenthesized a b) = suc (tree_size b)
  tree_size (Junction a b c) = suc (trees_size c)
  tree_size (Prefix a b c) = suc (tree_size c)
  tree_size (Infix a b c d) = suc (max (operands_size c) (tree_size d))
  tree_size (Postfix a b c d) = suc (max (max (tree_size b) (steps_size c)) (step_size d))
  tree_size (SetOf a b) = suc (trees_size b)
  tree_size (Filter a b c d) = suc (max (tree_size c) (tree_size d))
  tree_size (Map a b c) = suc (max (tree_size b) (bounds_size c))
  tree_size (Tuple a b) = suc (trees_size b)
  tree_size (Function a b c) = suc (max (bounds_size b) (tree_size c))
  tree_size (FunctionSet a b c) = suc (max (tree_size b) (tree_size c))
  tree_size (Record a b) = suc (fields_size b)
  tree_size (RecordSet a b) = suc (fields_size b)
  tree_size (Except a b c) = suc (max (tree_size b) (changes_size c))
  tree_size (Quantified a b c d) = suc (max (bounds_size c) (tree_size d))
  tree_size (Choose a b c d) = suc (max (tree_size c) (tree_size d))
  tree_size (If a b c d) = suc (max (max (tree_size b) (tree_size c)) (tree_size d))
  tree_size (Case a b) = suc (arms_size b)
  tree_size (CaseOther a b c) = suc (max (arms_size b) (tree_size c))
  tree_size (Let a b c) = suc (max (definitions_size b) (tree_size c))
  tree_size (BoxAction a b c) = suc (max (tree_size b) (tree_size c))
  tree_size (AngleAction a b c) = suc (max (tree_size b) (tree_size c))
  tree_size (Fairness a b c) = suc (max (tree_size b) (tree_size c))

  pub trees_size : Trees → ℕ
  trees_size NoTrees = 0
  trees_size (MoreTrees a b) = suc (max (trees_size a) (tree_size b))

  pub operands_size : Operands → ℕ
  operands_size (First a) = suc (tree_size a)
  operands_size (Next a b c) = suc (max (operands_size a) (tree_size c))

  pub step_size : Step → ℕ
  step_size Prime = 0
  step_size (Index a) = suc (trees_size a)
  step_size (Field a) = 0

  pub steps_size : Steps → ℕ
  steps_size NoSteps = 0
  steps_size (MoreSteps a b c) = suc (max (steps_size a) (step_size c))

  pub bounds_size : Bounds → ℕ
  bounds_size NoBounds = 0
  bounds_size (MoreBounds a b c) = suc (max (bounds_size a) (tree_size c))

  pub fields_size : Fields → ℕ
  fields_size NoFields = 0
  fields_size (MoreFields a b c) = suc (max (fields_size a) (tree_size c))

  pub changes_size : Changes → ℕ
  changes_size NoChanges = 0
  changes_size (MoreChanges a b c) = suc (max (max (changes_size a) (steps_size b)) (tree_size c))

  pub arms_size : Arms → ℕ
  arms_size NoArms = 0
  arms_size (MoreArms a b c) = suc (max (max (arms_size a) (tree_size b)) (tree_size c))

  pub definitions_size : Definitions → ℕ
  definitions_size NoDefinitions = 0
  definitions_size (MoreDefinitions a b c d e f) = suc (max (definitions_size a) (tree_size f))
