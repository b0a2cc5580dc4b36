-- Which trees the ranges of the operators allow. Where an operator has an operand, each operator on the operand's edge that meets
-- it lies wholly above it; operands of one chain follow each other.
--
-- The right edge of a tree is its own prefix or infix operator and then the right edge of its last operand. The left edge is its
-- own infix operator and then the left edge of its first operand; a prefix operator ends it. A quantifier, CHOOSE, IF, CASE and LET
-- reach as far right as they can, so that none of them is on the right edge of an operand that an operator follows.
use Rattle.std.specs.Prelude.{◌≡◌, true, List, []}
use Rattle.reading_trees.specs.declared.operators.InfixOperator.{InfixOperator}
use Rattle.reading_trees.specs.declared.laid.Laid.{Laid}
use Rattle.reading_trees.specs.Trees.{Tree, Number, Str, Truth, Builtin, Name, Call, Qualified, At, Parenthesized, Junction, Prefix, Infix, Postfix, SetOf, Filter, Map, Tuple, Function, FunctionSet, Record, RecordSet, Except, Quantified, Choose, If, Case, CaseOther, Let, BoxAction, AngleAction, Fairness, Trees, NoTrees, MoreTrees, Operands, First, Next, Step, Prime, Index, Field, Steps, NoSteps, MoreSteps, Bounds, NoBounds, MoreBounds, Fields, NoFields, MoreFields, Changes, NoChanges, MoreChanges, Arms, NoArms, MoreArms, Definitions, NoDefinitions, MoreDefinitions}
use Rattle.reading_trees.specs.Precedence.{Range, Above, prefix_range, infix_range, chains}
use Rattle.reading_trees.specs.Grammar.{Text}

abbrev mutual
  -- every operator on the left edge lies above r
  pub LeftAbove : Range → Tree → Type 0
  LeftAbove r (Infix at o es e) = Above (infix_range o) r × FirstAbove r es
  LeftAbove r _ = Unit {0}

  pub FirstAbove : Range → Operands → Type 0
  FirstAbove r (First e) = LeftAbove r e
  FirstAbove r (Next es at e) = FirstAbove r es

-- every operator on the right edge lies above r, and nothing there reaches further
abbrev pub RightAbove : Range → Tree → Type 0
RightAbove r (Prefix at o e) = Above (prefix_range o) r × RightAbove r e
RightAbove r (Infix at o es e) = Above (infix_range o) r × RightAbove r e
RightAbove r (Quantified at q bs e) = ⊥
RightAbove r (Choose at n s e) = ⊥
RightAbove r (If at p e f) = ⊥
RightAbove r (Case at arms) = ⊥
RightAbove r (CaseOther at arms e) = ⊥
RightAbove r (Let at ds e) = ⊥
RightAbove r _ = Unit {0}

-- no CASE without OTHER is open at the end, which would take a `[]` that follows
abbrev pub EndsNoCase : Tree → Type 0
EndsNoCase (Prefix at o e) = EndsNoCase e
EndsNoCase (Infix at o es e) = EndsNoCase e
EndsNoCase (Quantified at q bs e) = EndsNoCase e
EndsNoCase (Choose at n s e) = EndsNoCase e
EndsNoCase (If at p e f) = EndsNoCase f
EndsNoCase (Case at arms) = ⊥
EndsNoCase (CaseOther at arms e) = EndsNoCase e
EndsNoCase (Let at ds e) = EndsNoCase e
EndsNoCase _ = Unit {0}

abbrev mutual
  pub Fits : Tree → Type 0
  Fits (Number at n) = Unit {0}
  Fits (Str at s) = Unit {0}
  Fits (Truth at b) = Unit {0}
  Fits (Builtin at b) = Unit {0}
  Fits (Name at n) = Unit {0}
  Fits (Call at n es) = AllFit es
  Fits (Qualified at n es) = AllFit es
  Fits (At at) = Unit {0}
  Fits (Parenthesized at e) = Fits e
  Fits (Junction at b es) = AllFit es
  Fits (Prefix at o e) = Fits e × LeftAbove (prefix_range o) e
  Fits (Infix at o es e) = ChainFits o es × Fits e × LeftAbove (infix_range o) e
  Fits (Postfix at e ss s) = Fits e × StepsFit ss × StepFits s
  Fits (SetOf at es) = AllFit es
  Fits (Filter at n s e) = Fits s × Fits e
  Fits (Map at e bs) = Fits e × BoundsFit bs
  Fits (Tuple at es) = AllFit es
  Fits (Function at bs e) = BoundsFit bs × Fits e
  Fits (FunctionSet at s e) = Fits s × Fits e
  Fits (Record at fs) = FieldsFit fs
  Fits (RecordSet at fs) = FieldsFit fs
  Fits (Except at e cs) = Fits e × ChangesFit cs
  Fits (Quantified at q bs e) = BoundsFit bs × Fits e
  Fits (Choose at n s e) = Fits s × Fits e
  Fits (If at p e f) = Fits p × Fits e × Fits f
  Fits (Case at arms) = ArmsFit arms
  Fits (CaseOther at arms e) = ArmsBeforeFit arms × Fits e
  Fits (Let at ds e) = DefinitionsFit ds × Fits e
  Fits (BoxAction at e v) = Fits e × Fits v
  Fits (AngleAction at e v) = Fits e × Fits v
  Fits (Fairness at v e) = Fits v × Fits e

  pub AllFit : Trees → Type 0
  AllFit NoTrees = Unit {0}
  AllFit (MoreTrees es e) = AllFit es × Fits e

  -- the operands of a chain but its last: more than two operands only in a chain that may have them
  pub ChainFits : InfixOperator → Operands → Type 0
  ChainFits o (First e) = Fits e × RightAbove (infix_range o) e
  ChainFits o (Next es at e) = ChainFits o es × Fits e × LeftAbove (infix_range o) e × RightAbove (infix_range o) e × (chains o ≡ true)

  pub StepFits : Step → Type 0
  StepFits Prime = Unit {0}
  StepFits (Index es) = AllFit es
  StepFits (Field h) = Unit {0}

  pub StepsFit : Steps → Type 0
  StepsFit NoSteps = Unit {0}
  StepsFit (MoreSteps ss at s) = StepsFit ss × StepFits s

  pub BoundsFit : Bounds → Type 0
  BoundsFit NoBounds = Unit {0}
  BoundsFit (MoreBounds bs ns s) = BoundsFit bs × Fits s

  pub FieldsFit : Fields → Type 0
  FieldsFit NoFields = Unit {0}
  FieldsFit (MoreFields fs h e) = FieldsFit fs × Fits e

  pub ChangesFit : Changes → Type 0
  ChangesFit NoChanges = Unit {0}
  ChangesFit (MoreChanges cs ss e) = ChangesFit cs × StepsFit ss × Fits e

  -- arms that a `[]` follows
  pub ArmsBeforeFit : Arms → Type 0
  ArmsBeforeFit NoArms = Unit {0}
  ArmsBeforeFit (MoreArms arms p e) = ArmsBeforeFit arms × Fits p × Fits e × EndsNoCase e

  pub ArmsFit : Arms → Type 0
  ArmsFit NoArms = Unit {0}
  ArmsFit (MoreArms arms p e) = ArmsBeforeFit arms × Fits p × Fits e

  pub DefinitionsFit : Definitions → Type 0
  DefinitionsFit NoDefinitions = Unit {0}
  DefinitionsFit (MoreDefinitions ds n at ns form e) = DefinitionsFit ds × Fits e

-- the laid tokens from one point to another spell the tree
pub record Spells (tree : Tree) (from behind : List Laid) : Type 0 where
  pub text : Text tree from behind
  pub fits : Fits tree

-- one text spells one tree
abbrev pub OneTree : Type 0
OneTree = (laid : List Laid) (s t : Tree) → Spells s laid [] → Spells t laid [] → s ≡ t
