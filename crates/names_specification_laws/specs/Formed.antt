-- Trees in order: each list has as many parts as its row of the grammar asks for, and no record has a field twice. What a text spells is so.
use Rattle.std.specs.Prelude.{◌≡◌, ◌≢◌, true, List, [], ◌∷◌}
use Rattle.reading_trees.specs.declared.module.Unit.{Unit as ModuleUnit}
use Rattle.reading_trees.specs.declared.module.Unit.TheVariants.{Variables, Constants, Recursive, Define, Instance, Assume, Passed}
use Rattle.reading_trees.specs.declared.module.With.{With}
use Rattle.reading_trees.specs.declared.operators.InfixOperator.{InfixOperator}
use Rattle.reading_trees.specs.Precedence.{chains}
use Rattle.reading_trees.specs.Grammar.{IsPath, AreOnce}
use Rattle.reading_trees.specs.Trees.{Tree, Number, Str, Truth, Builtin, Name, Call, Qualified, At, Parenthesized, Junction, Prefix, Infix, Postfix, SetOf, Filter, Map, Tuple, Function, FunctionSet, Record, RecordSet, Except, Quantified, Choose, If, Case, CaseOther, Let, BoxAction, AngleAction, Fairness, Trees, NoTrees, MoreTrees, Operands, First, Next, Step, Prime, Index, Field, Steps, NoSteps, MoreSteps, Bounds, NoBounds, MoreBounds, Fields, NoFields, MoreFields, Changes, NoChanges, MoreChanges, Arms, NoArms, MoreArms, Definitions, NoDefinitions, MoreDefinitions}

abbrev mutual
  pub IsFormed : Tree → Type 0
  IsFormed (Number at z) = Unit {0}
  IsFormed (Str at s) = Unit {0}
  IsFormed (Truth at b) = Unit {0}
  IsFormed (Builtin at b) = Unit {0}
  IsFormed (Name at n) = Unit {0}
  IsFormed (Call at n es) = (es ≢ NoTrees) × AreFormed es
  IsFormed (Qualified at n es) = AreFormed es
  IsFormed (At at) = Unit {0}
  IsFormed (Parenthesized at e) = IsFormed e
  IsFormed (Junction at b es) = (es ≢ NoTrees) × AreFormed es
  IsFormed (Prefix at o e) = IsFormed e
  IsFormed (Infix at o os e) = ChainIsFormed o os × IsFormed e
  IsFormed (Postfix at e ss s) = IsFormed e × StepsAreFormed ss × StepIsFormed s
  IsFormed (SetOf at es) = AreFormed es
  IsFormed (Filter at n s e) = IsFormed s × IsFormed e
  IsFormed (Map at e bs) = (bs ≢ NoBounds) × BoundsAreFormed bs × IsFormed e
  IsFormed (Tuple at es) = AreFormed es
  IsFormed (Function at bs e) = (bs ≢ NoBounds) × BoundsAreFormed bs × IsFormed e
  IsFormed (FunctionSet at s e) = IsFormed s × IsFormed e
  IsFormed (Record at fs) = (fs ≢ NoFields) × AreOnce fs × FieldsAreFormed fs
  IsFormed (RecordSet at fs) = (fs ≢ NoFields) × AreOnce fs × FieldsAreFormed fs
  IsFormed (Except at e cs) = (cs ≢ NoChanges) × ChangesAreFormed cs × IsFormed e
  IsFormed (Quantified at q bs e) = (bs ≢ NoBounds) × BoundsAreFormed bs × IsFormed e
  IsFormed (Choose at n s e) = IsFormed s × IsFormed e
  IsFormed (If at p e f) = IsFormed p × IsFormed e × IsFormed f
  IsFormed (Case at arms) = (arms ≢ NoArms) × ArmsAreFormed arms
  IsFormed (CaseOther at arms e) = (arms ≢ NoArms) × ArmsAreFormed arms × IsFormed e
  IsFormed (Let at ds e) = (ds ≢ NoDefinitions) × DefinitionsAreFormed ds × IsFormed e
  IsFormed (BoxAction at e v) = IsFormed e × IsFormed v
  IsFormed (AngleAction at e v) = IsFormed e × IsFormed v
  IsFormed (Fairness at v e) = IsFormed v × IsFormed e

  pub AreFormed : Trees → Type 0
  AreFormed NoTrees = Unit {0}
  AreFormed (MoreTrees es e) = AreFormed es × IsFormed e

  -- the operands of a chain but its last: more than two operands only in a chain that may have them
  pub ChainIsFormed : InfixOperator → Operands → Type 0
  ChainIsFormed o (First e) = IsFormed e
  ChainIsFormed o (Next os at e) = ChainIsFormed o os × IsFormed e × (chains o ≡ true)

  pub StepIsFormed : Step → Type 0
  StepIsFormed Prime = Unit {0}
  StepIsFormed (Index es) = (es ≢ NoTrees) × AreFormed es
  StepIsFormed (Field h) = Unit {0}

  pub StepsAreFormed : Steps → Type 0
  StepsAreFormed NoSteps = Unit {0}
  StepsAreFormed (MoreSteps ss at s) = StepsAreFormed ss × StepIsFormed s

  pub BoundsAreFormed : Bounds → Type 0
  BoundsAreFormed NoBounds = Unit {0}
  BoundsAreFormed (MoreBounds bs ns e) = BoundsAreFormed bs × (ns ≢ []) × IsFormed e

  pub FieldsAreFormed : Fields → Type 0
  FieldsAreFormed NoFields = Unit {0}
  FieldsAreFormed (MoreFields fs h e) = FieldsAreFormed fs × IsFormed e

  pub ChangesAreFormed : Changes → Type 0
  ChangesAreFormed NoChanges = Unit {0}
  ChangesAreFormed (MoreChanges cs path e) = ChangesAreFormed cs × IsPath path × StepsAreFormed path × IsFormed e

  pub ArmsAreFormed : Arms → Type 0
  ArmsAreFormed NoArms = Unit {0}
  ArmsAreFormed (MoreArms arms p e) = ArmsAreFormed arms × IsFormed p × IsFormed e

  pub DefinitionsAreFormed : Definitions → Type 0
  DefinitionsAreFormed NoDefinitions = Unit {0}
  DefinitionsAreFormed (MoreDefinitions ds n at ps form e) = DefinitionsAreFormed ds × IsFormed e

abbrev pub WithsAreFormed : List With → Type 0
WithsAreFormed [] = Unit {0}
WithsAreFormed (w ∷ ws) = IsFormed w.by × WithsAreFormed ws

-- the trees of a unit, where it has some that are read
abbrev pub UnitIsFormed : ModuleUnit → Type 0
UnitIsFormed (Define d) = IsFormed d.body
UnitIsFormed (Assume e) = IsFormed e
UnitIsFormed (Variables ds) = Unit {0}
UnitIsFormed (Constants ds) = Unit {0}
UnitIsFormed (Recursive rs) = Unit {0}
UnitIsFormed (Instance m) = WithsAreFormed m.withs
UnitIsFormed Passed = Unit {0}

abbrev pub UnitsAreFormed : List ModuleUnit → Type 0
UnitsAreFormed [] = Unit {0}
UnitsAreFormed (u ∷ us) = UnitIsFormed u × UnitsAreFormed us
