-- Trees of a module of which an instance can be made. Two things are asked of them, and what the reader reads and a program accepts has both. No name that
-- a tree binds or uses is spelled as one of an instance is, or as `@`. And no definition of a LET uses its own name, but for functions, which may.
use Rattle.std.specs.Prelude.{◌≡◌, ◌≢◌, ◌&&◌, ℕ, Bool, false, not, List, [], ◌∷◌}
use Rattle.reading_trees.specs.Grammar.{qualified}
use Rattle.reading_trees.specs.Trees.{Tree, Number, Str, Truth, Builtin, Name, Call, Qualified, At, Parenthesized, Junction, Prefix, Infix, Postfix, SetOf, Filter, Map, Tuple, Function, FunctionSet, Record, RecordSet, Except, Quantified, Choose, If, Case, CaseOther, Let, BoxAction, AngleAction, Fairness, Trees, NoTrees, MoreTrees, Operands, First, Next, Step, Prime, Index, Field, Steps, NoSteps, MoreSteps, Bounds, NoBounds, MoreBounds, Fields, NoFields, MoreFields, Changes, NoChanges, MoreChanges, Arms, NoArms, MoreArms, Definitions, NoDefinitions, MoreDefinitions}
use Rattle.reading_trees.specs.declared.form.DefinitionForm.{DefinitionForm}
use Rattle.reading_trees.specs.declared.form.DefinitionForm.TheVariants as forms
use Rattle.names_scopes.specs.Mentions.{is_one_of, mentions}
use Rattle.names_scopes.specs.Scopes.{at_sign}

-- the name is none of an instance
abbrev pub IsPlain : List ℕ → Type 0
IsPlain n = (i m : List ℕ) → n ≢ qualified i m

abbrev pub ArePlain : List (List ℕ) → Type 0
ArePlain [] = Unit {0}
ArePlain (n ∷ ns) = IsPlain n × ArePlain ns

-- whether a definition of a LET that may not use itself does
abbrev pub uses_own_name : DefinitionForm → List ℕ → List (List ℕ) → Tree → Bool
uses_own_name forms.Function n ps e = false
uses_own_name form n ps e = not (is_one_of n ps) && mentions n e

abbrev mutual
  pub IsFit : Tree → Type 0
  IsFit (Number at z) = Unit {0}
  IsFit (Str at s) = Unit {0}
  IsFit (Truth at b) = Unit {0}
  IsFit (Builtin at b) = Unit {0}
  IsFit (Name at n) = n ≢ at_sign
  IsFit (Call at n es) = (n ≢ at_sign) × AreFit es
  IsFit (Qualified at n es) = (i m : List ℕ) × (n ≡ qualified i m) × AreFit es
  IsFit (At at) = Unit {0}
  IsFit (Parenthesized at e) = IsFit e
  IsFit (Junction at b es) = AreFit es
  IsFit (Prefix at o e) = IsFit e
  IsFit (Infix at o os e) = OperandsFit os × IsFit e
  IsFit (Postfix at e ss s) = IsFit e × StepsFit ss × StepFits s
  IsFit (SetOf at es) = AreFit es
  IsFit (Filter at n s e) = IsPlain n × IsFit s × IsFit e
  IsFit (Map at e bs) = IsFit e × BoundsFit bs
  IsFit (Tuple at es) = AreFit es
  IsFit (Function at bs e) = BoundsFit bs × IsFit e
  IsFit (FunctionSet at s e) = IsFit s × IsFit e
  IsFit (Record at fs) = FieldsFit fs
  IsFit (RecordSet at fs) = FieldsFit fs
  IsFit (Except at e cs) = IsFit e × ChangesFit cs
  IsFit (Quantified at q bs e) = BoundsFit bs × IsFit e
  IsFit (Choose at n s e) = IsPlain n × IsFit s × IsFit e
  IsFit (If at p e f) = IsFit p × IsFit e × IsFit f
  IsFit (Case at arms) = ArmsFit arms
  IsFit (CaseOther at arms e) = ArmsFit arms × IsFit e
  IsFit (Let at ds e) = DefinitionsFit ds × IsFit e
  IsFit (BoxAction at e v) = IsFit e × IsFit v
  IsFit (AngleAction at e v) = IsFit e × IsFit v
  IsFit (Fairness at v e) = IsFit v × IsFit e

  pub AreFit : Trees → Type 0
  AreFit NoTrees = Unit {0}
  AreFit (MoreTrees es e) = AreFit es × IsFit e

  pub OperandsFit : Operands → Type 0
  OperandsFit (First e) = IsFit e
  OperandsFit (Next os at e) = OperandsFit os × IsFit e

  pub StepFits : Step → Type 0
  StepFits Prime = Unit {0}
  StepFits (Index es) = AreFit es
  StepFits (Field h) = Unit {0}

  pub StepsFit : Steps → Type 0
  StepsFit NoSteps = Unit {0}
  StepsFit (MoreSteps ss at s) = StepsFit ss × StepFits s

  pub BoundsFit : Bounds → Type 0
  BoundsFit NoBounds = Unit {0}
  BoundsFit (MoreBounds bs ns e) = BoundsFit bs × ArePlain ns × IsFit e

  pub FieldsFit : Fields → Type 0
  FieldsFit NoFields = Unit {0}
  FieldsFit (MoreFields fs n e) = FieldsFit fs × IsFit e

  pub ChangesFit : Changes → Type 0
  ChangesFit NoChanges = Unit {0}
  ChangesFit (MoreChanges cs path e) = ChangesFit cs × StepsFit path × IsFit e

  pub ArmsFit : Arms → Type 0
  ArmsFit NoArms = Unit {0}
  ArmsFit (MoreArms arms p e) = ArmsFit arms × IsFit p × IsFit e

  pub DefinitionsFit : Definitions → Type 0
  DefinitionsFit NoDefinitions = Unit {0}
  DefinitionsFit (MoreDefinitions ds m at ps form e) =
      DefinitionsFit ds × IsPlain m × ArePlain ps × (uses_own_name form m ps e ≡ false) × IsFit e
