-- What holds of open rows: their whole parts fit the ranges of their operators and meet the conditions of the grammar, an operator lies above the
-- one around it, where a subscript is expected stands only what can be one, and a unit's definition stands in nothing.
use Rattle.std.specs.Prelude.{◌≡◌, Bool, true, false, List, [], ◌∷◌}
use Rattle.reading_trees.specs.Precedence.{Range, Above, prefix_range, infix_range}
use Rattle.reading_trees.specs.Grammar.{IsSubscript, IsKey, IsPath, IsNew, AreOnce, begins_member}
use Rattle.reading_trees.specs.Fits.{FirstAbove, Fits, AllFit, ChainFits, StepsFit, BoundsFit, FieldsFit, ChangesFit, ArmsBeforeFit, DefinitionsFit}
use Rattle.reading_trees.specs.Trees as tree
use Rattle.reading_trees.specs.Trees.{Tree, Steps, NoSteps, MoreSteps, NoDefinitions}
use Rattle.reading_machine.specs.declared.frame.Scope.{Scope}
use Rattle.reading_machine.specs.declared.frame.Scope.TheVariants as scopes
use Rattle.reading_machine.specs.declared.frame.Binder.{Binder}
use Rattle.reading_machine.specs.declared.frame.Binder.TheVariants as binders
use Rattle.reading_machine.specs.declared.frame.Binding.{Binding}
use Rattle.reading_machine.specs.declared.frame.Form.{Form}
use Rattle.reading_machine.specs.declared.frame.Form.TheVariants as forms
use Rattle.reading_machine.specs.declared.frame.Frame.{Frame}
use Rattle.reading_machine.specs.declared.frame.Frame.TheVariants as frame
use Rattle.reading_machine.specs.declared.frame.Mode.{Mode}
use Rattle.reading_machine.specs.declared.frame.Mode.TheVariants as mode

-- ---- ranges and conditions

-- neither an operator with its operands nor a row that reaches as far right as it can
abbrev pub IsOperand : Tree → Type 0
IsOperand (tree.Prefix at o e) = ⊥
IsOperand (tree.Infix at o es e) = ⊥
IsOperand (tree.Quantified at q bs e) = ⊥
IsOperand (tree.Choose at n s e) = ⊥
IsOperand (tree.If at p e f) = ⊥
IsOperand (tree.Case at arms) = ⊥
IsOperand (tree.CaseOther at arms e) = ⊥
IsOperand (tree.Let at ds e) = ⊥
IsOperand _ = Unit {0}

-- no step is a prime
abbrev pub AreKeys : Steps → Type 0
AreKeys NoSteps = Unit {0}
AreKeys (MoreSteps ss p s) = AreKeys ss × IsKey s

-- a unit's definition stands in nothing
abbrev pub ScopeFits : Scope → List Frame → Type 0
ScopeFits (scopes.Let at ds) fs = DefinitionsFit ds
ScopeFits scopes.Unit fs = fs ≡ []

-- no definition of a LET stands before this name
abbrev pub IsFirst : Scope → Type 0
IsFirst (scopes.Let at ds) = ds ≡ NoDefinitions
IsFirst scopes.Unit = Unit {0}

abbrev pub FormFits : Form → Type 0
FormFits (forms.Operator ns) = Unit {0}
FormFits (forms.Function at bs) = BoundsFit bs

abbrev pub BinderFits : Binder → List Frame → Type 0
BinderFits (binders.Quantifier q at) fs = Unit {0}
BinderFits (binders.Function at) fs = Unit {0}
BinderFits (binders.Map at e) fs = Fits e × (begins_member e ≡ false)
BinderFits (binders.Defined s n p q) fs = ScopeFits s fs

abbrev pub BindingFits : Binding → List Frame → Type 0
BindingFits b fs = BinderFits b.binder fs × BoundsFit b.bounds

-- a fact of the range of the innermost frame, where that is an operator
abbrev pub Top : List Frame → (Range → Type 0) → Type 0
Top [] P = Unit {0}
Top (frame.Prefix o p ∷ fs) P = P (prefix_range o)
Top (frame.Infix o es p ∷ fs) P = P (infix_range o)
Top (f ∷ fs) P = Unit {0}

abbrev pub FrameFits : Frame → List Frame → Type 0
FrameFits (frame.Parenthesis at) fs = Unit {0}
FrameFits (frame.Call n at es) fs = AllFit es
FrameFits (frame.QualifiedCall n at es) fs = AllFit es
FrameFits (frame.Junction b at es) fs = AllFit es
FrameFits (frame.Prefix o p) fs = Unit {0}
FrameFits (frame.Infix o es p) fs = ChainFits o es × Top fs (λ r. Above (infix_range o) r × FirstAbove r es)
FrameFits (frame.Index e at es) fs = IsOperand e × Fits e × AllFit es
FrameFits (frame.Braces at es) fs = AllFit es
FrameFits (frame.MaybeFilter at n p q) fs = Unit {0}
FrameFits (frame.FilterTest at n s) fs = Fits s
FrameFits (frame.Tuple at es) fs = AllFit es
FrameFits (frame.Bracket at) fs = Unit {0}
FrameFits (frame.MaybeFunction at n p q) fs = Unit {0}
FrameFits (frame.FunctionBody at bs) fs = BoundsFit bs
FrameFits (frame.FunctionRange at s) fs = Fits s
FrameFits (frame.Record k at hs n) fs = FieldsFit hs × AreOnce hs × IsNew n hs
FrameFits (frame.BoundSet b ns) fs = BindingFits b fs
FrameFits (frame.ExceptIndex at e cs ss q es) fs = Fits e × ChangesFit cs × StepsFit ss × AreKeys ss × AllFit es
FrameFits (frame.ExceptValue at e cs ss) fs = Fits e × ChangesFit cs × StepsFit ss × IsPath ss
FrameFits (frame.QuantifierBody q p bs) fs = BoundsFit bs
FrameFits (frame.ChooseSet p n) fs = Unit {0}
FrameFits (frame.ChooseBody p n s) fs = Fits s
FrameFits (frame.IfTest p) fs = Unit {0}
FrameFits (frame.IfThen p a) fs = Fits a
FrameFits (frame.IfElse p a b) fs = Fits a × Fits b
FrameFits (frame.CaseTest p arms) fs = ArmsBeforeFit arms
FrameFits (frame.CaseValue p arms a) fs = ArmsBeforeFit arms × Fits a
FrameFits (frame.CaseOther p arms) fs = ArmsBeforeFit arms
FrameFits (frame.DefinitionBody s n p form) fs = ScopeFits s fs × FormFits form
FrameFits (frame.LetBody p ds) fs = DefinitionsFit ds
FrameFits (frame.Subscript k at a) fs = Fits a
FrameFits (frame.FairSubscript at) fs = Unit {0}
FrameFits (frame.FairBody at v) fs = IsSubscript v × Fits v

abbrev pub FramesFit : List Frame → Type 0
FramesFit [] = Unit {0}
FramesFit (f ∷ fs) = FrameFits f fs × FramesFit fs

abbrev pub ModeFits : Mode → List Frame → Type 0
ModeFits mode.Want fs = Unit {0}
ModeFits (mode.Have e) fs = IsOperand e × Fits e
ModeFits (mode.BoundName b ns) fs = BindingFits b fs
ModeFits (mode.BoundNamed b ns) fs = BindingFits b fs
ModeFits (mode.BracketStart at) fs = Unit {0}
ModeFits (mode.BracketName at n p) fs = Unit {0}
ModeFits (mode.BraceStart at) fs = Unit {0}
ModeFits (mode.BraceName at n p) fs = Unit {0}
ModeFits (mode.TupleStart at) fs = Unit {0}
ModeFits (mode.ListStart b at) fs = Unit {0}
ModeFits (mode.ChooseName at) fs = Unit {0}
ModeFits (mode.ChooseNamed at n) fs = Unit {0}
ModeFits (mode.DefinitionName s) fs = ScopeFits s fs × IsFirst s
ModeFits (mode.DefinitionNamed s n p) fs = ScopeFits s fs
ModeFits (mode.Parameter s n p ns) fs = ScopeFits s fs
ModeFits (mode.ParameterNamed s n p ns) fs = ScopeFits s fs
ModeFits (mode.DefinedAs s n p form) fs = ScopeFits s fs × FormFits form
ModeFits (mode.ExceptMark at e cs) fs = Fits e × ChangesFit cs
ModeFits (mode.ExceptPath at e cs ss) fs = Fits e × ChangesFit cs × StepsFit ss × AreKeys ss
ModeFits (mode.ExceptField at e cs ss q) fs = Fits e × ChangesFit cs × StepsFit ss × AreKeys ss
ModeFits (mode.FieldName e q) fs = IsOperand e × Fits e
ModeFits (mode.InstanceName at i) fs = Unit {0}
ModeFits (mode.RecordName k at hs) fs = FieldsFit hs × AreOnce hs
ModeFits (mode.RecordNamed k at hs n) fs = FieldsFit hs × AreOnce hs × IsNew n hs
ModeFits (mode.SubscriptStart k at e) fs = Fits e
ModeFits (mode.FairStart at) fs = Unit {0}
ModeFits (mode.FairOpen at v) fs = IsSubscript v × Fits v
ModeFits (mode.CaseNext at arms) fs = ArmsBeforeFit arms
ModeFits (mode.OtherArrow at arms) fs = ArmsBeforeFit arms

-- ---- subscripts

-- the innermost frame expects no subscript
abbrev pub Open : List Frame → Type 0
Open (frame.Subscript k at a ∷ fs) = ⊥
Open (frame.FairSubscript at ∷ fs) = ⊥
Open _ = Unit {0}

-- a row that stands where a subscript is expected is one that can be one
abbrev pub FrameStands : Frame → List Frame → Type 0
FrameStands (frame.Parenthesis at) fs = Unit {0}
FrameStands (frame.Tuple at es) fs = Unit {0}
FrameStands _ fs = Open fs

abbrev pub FramesStand : List Frame → Type 0
FramesStand [] = Unit {0}
FramesStand (f ∷ fs) = FrameStands f fs × FramesStand fs

abbrev pub ModeStands : Mode → List Frame → Type 0
ModeStands (mode.TupleStart at) fs = Unit {0}
ModeStands _ fs = Open fs

-- ---- definitions of units

-- whether a row is a unit's definition
abbrev pub in_scope : Scope → Bool
in_scope (scopes.Let at ds) = false
in_scope scopes.Unit = true

abbrev pub in_binder : Binder → Bool
in_binder (binders.Defined s n p q) = in_scope s
in_binder _ = false

abbrev pub in_frame : Frame → Bool
in_frame (frame.BoundSet b ns) = in_binder b.binder
in_frame (frame.DefinitionBody s n p form) = in_scope s
in_frame _ = false

abbrev pub in_mode : Mode → Bool
in_mode (mode.BoundName b ns) = in_binder b.binder
in_mode (mode.BoundNamed b ns) = in_binder b.binder
in_mode (mode.DefinitionName s) = in_scope s
in_mode (mode.DefinitionNamed s n p) = in_scope s
in_mode (mode.Parameter s n p ns) = in_scope s
in_mode (mode.ParameterNamed s n p ns) = in_scope s
in_mode (mode.DefinedAs s n p form) = in_scope s
in_mode _ = false

-- the outermost row is a unit's definition or not, as it should be, and none within it is
abbrev pub Outermost : Bool → List Frame → Bool → Type 0
Outermost unit [] inner = inner ≡ unit
Outermost unit (f ∷ fs) inner = (inner ≡ false) × Outermost unit fs (in_frame f)
