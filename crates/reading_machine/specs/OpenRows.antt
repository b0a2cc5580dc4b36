-- The texts of open rows: rows of the grammar of which only some first parts stand, one inside another. A frame is such a row, with those of its
-- parts that stand whole, up to where an expression stands or is to stand; a mode is what stands of the innermost row, up to where something
-- else is expected. The text of a list of frames, innermost first, is that of the rows around it and then its own.
use Rattle.std.specs.Prelude.{List, [], ◌∷◌}
use Rattle.base_core.specs.declared.place.Place.{Place}
use Rattle.reading_tokens.specs.declared.token.Kind.TheVariants as kinds
use Rattle.reading_tokens.specs.declared.token.Word.TheVariants as words
use Rattle.reading_tokens.specs.declared.token.Symbol.{Symbol}
use Rattle.reading_tokens.specs.declared.token.Symbol.TheVariants as symbols
use Rattle.reading_trees.specs.Precedence.{prefix_kind, infix_symbol, quantifier_symbol}
use Rattle.reading_trees.specs.Grammar.{Span, ◌⨟◌, nothing, token, word, sign, sign_at, name, list_open, list_item, NamesBefore, NamesText, ParametersText, QualifiedName, Text, CommasBefore, ItemsBefore, Chain, StepsText, BoundsBefore, BoundsText, FieldsBefore, ChangesBefore, ArmsBefore, SomeArmsBefore, DefinitionsText, SomeDefinitions}
use Rattle.reading_trees.specs.Trees as tree
use Rattle.reading_trees.specs.Trees.{Tree, Steps}
use Rattle.reading_machine.specs.declared.frame.Action.{Action}
use Rattle.reading_machine.specs.declared.frame.Action.TheVariants as actions
use Rattle.reading_machine.specs.declared.frame.RecordKind.{RecordKind}
use Rattle.reading_machine.specs.declared.frame.RecordKind.TheVariants as records
use Rattle.reading_machine.specs.declared.frame.Scope.{Scope}
use Rattle.reading_machine.specs.declared.frame.Scope.TheVariants as scopes
use Rattle.reading_machine.specs.declared.frame.Binder.{Binder}
use Rattle.reading_machine.specs.declared.frame.Binder.TheVariants as binders
use Rattle.reading_machine.specs.declared.frame.Binding.{Binding}
use Rattle.reading_machine.specs.declared.frame.Form.{Form}
use Rattle.reading_machine.specs.declared.frame.Form.TheVariants as forms
use Rattle.reading_machine.specs.declared.frame.Frame.{Frame}
use Rattle.reading_machine.specs.declared.frame.Frame.TheVariants as frame
use Rattle.reading_machine.specs.declared.frame.Mode.{Mode}
use Rattle.reading_machine.specs.declared.frame.Mode.TheVariants as mode

-- behind the name of a field
abbrev pub field_mark : RecordKind → Symbol
field_mark records.Record = symbols.MapsTo
field_mark records.Set = symbols.Colon

abbrev pub ScopeText : Scope → Span
ScopeText (scopes.Let at ds) = token at (kinds.Word words.Let) ⨟ DefinitionsText ds
ScopeText scopes.Unit = nothing

abbrev pub FormText : Form → Span
FormText (forms.Operator ns) = ParametersText ns
FormText (forms.Function at bs) = sign_at at symbols.OpenBracket ⨟ BoundsText bs ⨟ sign symbols.CloseBracket

abbrev pub BinderText : Binder → Span
BinderText (binders.Quantifier q at) = sign_at at (quantifier_symbol q)
BinderText (binders.Function at) = sign_at at symbols.OpenBracket
BinderText (binders.Map at e) = sign_at at symbols.OpenBrace ⨟ Text e ⨟ sign symbols.Colon
BinderText (binders.Defined s n p q) = ScopeText s ⨟ token p (kinds.Name n) ⨟ sign_at q symbols.OpenBracket

abbrev pub BindingText : Binding → Span
BindingText b = BinderText b.binder ⨟ BoundsBefore b.bounds

abbrev pub ActionText : Action → Place → Tree → Span
ActionText actions.Box at e = sign_at at symbols.OpenBracket ⨟ Text e ⨟ sign symbols.CloseBracketSubscript
ActionText actions.Angle at e = sign_at at symbols.OpenTuple ⨟ Text e ⨟ sign symbols.CloseTupleSubscript

-- `[E EXCEPT` and changes
abbrev pub ExceptText : Place → Tree → tree.Changes → Span
ExceptText at e cs = sign_at at symbols.OpenBracket ⨟ Text e ⨟ word words.Except ⨟ ChangesBefore cs

-- and then a path
abbrev pub PathText : Place → Tree → tree.Changes → Steps → Span
PathText at e cs ss = ExceptText at e cs ⨟ sign symbols.Exclamation ⨟ StepsText ss

abbrev pub FrameText : Frame → Span
FrameText (frame.Parenthesis at) = sign_at at symbols.OpenParenthesis
FrameText (frame.Call n at es) = token at (kinds.Name n) ⨟ sign symbols.OpenParenthesis ⨟ CommasBefore es
FrameText (frame.QualifiedCall n at es) = QualifiedName at n ⨟ sign symbols.OpenParenthesis ⨟ CommasBefore es
FrameText (frame.Junction b at es) = list_open at b ⨟ ItemsBefore b es ⨟ list_item b
FrameText (frame.Prefix o p) = token p (prefix_kind o)
FrameText (frame.Infix o es p) = Chain o es ⨟ sign_at p (infix_symbol o)
FrameText (frame.Index e at es) = Text e ⨟ sign_at at symbols.OpenBracket ⨟ CommasBefore es
FrameText (frame.Braces at es) = sign_at at symbols.OpenBrace ⨟ CommasBefore es
FrameText (frame.MaybeFilter at n p q) = sign_at at symbols.OpenBrace ⨟ token p (kinds.Name n) ⨟ sign_at q symbols.Member
FrameText (frame.FilterTest at n s) = sign_at at symbols.OpenBrace ⨟ name n ⨟ sign symbols.Member ⨟ Text s ⨟ sign symbols.Colon
FrameText (frame.Tuple at es) = sign_at at symbols.OpenTuple ⨟ CommasBefore es
FrameText (frame.Bracket at) = sign_at at symbols.OpenBracket
FrameText (frame.MaybeFunction at n p q) = sign_at at symbols.OpenBracket ⨟ token p (kinds.Name n) ⨟ sign_at q symbols.Member
FrameText (frame.FunctionBody at bs) = sign_at at symbols.OpenBracket ⨟ BoundsText bs ⨟ sign symbols.MapsTo
FrameText (frame.FunctionRange at s) = sign_at at symbols.OpenBracket ⨟ Text s ⨟ sign symbols.Arrow
FrameText (frame.Record k at hs n) = sign_at at symbols.OpenBracket ⨟ FieldsBefore (field_mark k) hs ⨟ name n ⨟ sign (field_mark k)
FrameText (frame.BoundSet b ns) = BindingText b ⨟ NamesText ns ⨟ sign symbols.Member
FrameText (frame.ExceptIndex at e cs ss q es) = PathText at e cs ss ⨟ sign_at q symbols.OpenBracket ⨟ CommasBefore es
FrameText (frame.ExceptValue at e cs ss) = PathText at e cs ss ⨟ sign symbols.Equal
FrameText (frame.QuantifierBody q p bs) = sign_at p (quantifier_symbol q) ⨟ BoundsText bs ⨟ sign symbols.Colon
FrameText (frame.ChooseSet p n) = token p (kinds.Word words.Choose) ⨟ name n ⨟ sign symbols.Member
FrameText (frame.ChooseBody p n s) = token p (kinds.Word words.Choose) ⨟ name n ⨟ sign symbols.Member ⨟ Text s ⨟ sign symbols.Colon
FrameText (frame.IfTest p) = token p (kinds.Word words.If)
FrameText (frame.IfThen p a) = token p (kinds.Word words.If) ⨟ Text a ⨟ word words.Then
FrameText (frame.IfElse p a b) = token p (kinds.Word words.If) ⨟ Text a ⨟ word words.Then ⨟ Text b ⨟ word words.Else
FrameText (frame.CaseTest p arms) = token p (kinds.Word words.Case) ⨟ ArmsBefore arms
FrameText (frame.CaseValue p arms a) = token p (kinds.Word words.Case) ⨟ ArmsBefore arms ⨟ Text a ⨟ sign symbols.Arrow
FrameText (frame.CaseOther p arms) = token p (kinds.Word words.Case) ⨟ SomeArmsBefore arms ⨟ word words.Other ⨟ sign symbols.Arrow
FrameText (frame.DefinitionBody s n p form) = ScopeText s ⨟ token p (kinds.Name n) ⨟ FormText form ⨟ sign symbols.Defined
FrameText (frame.LetBody p ds) = token p (kinds.Word words.Let) ⨟ SomeDefinitions ds ⨟ word words.In
FrameText (frame.Subscript k at a) = ActionText k at a
FrameText (frame.FairSubscript at) = token at kinds.Fair
FrameText (frame.FairBody at v) = token at kinds.Fair ⨟ Text v ⨟ sign symbols.OpenParenthesis

abbrev pub FramesText : List Frame → Span
FramesText [] = nothing
FramesText (f ∷ fs) = FramesText fs ⨟ FrameText f

abbrev pub ModeText : Mode → Span
ModeText mode.Want = nothing
ModeText (mode.Have e) = Text e
ModeText (mode.BoundName b ns) = BindingText b ⨟ NamesBefore ns
ModeText (mode.BoundNamed b ns) = BindingText b ⨟ NamesText ns
ModeText (mode.BracketStart at) = sign_at at symbols.OpenBracket
ModeText (mode.BracketName at n p) = sign_at at symbols.OpenBracket ⨟ token p (kinds.Name n)
ModeText (mode.BraceStart at) = sign_at at symbols.OpenBrace
ModeText (mode.BraceName at n p) = sign_at at symbols.OpenBrace ⨟ token p (kinds.Name n)
ModeText (mode.TupleStart at) = sign_at at symbols.OpenTuple
ModeText (mode.ListStart b at) = list_open at b
ModeText (mode.ChooseName at) = token at (kinds.Word words.Choose)
ModeText (mode.ChooseNamed at n) = token at (kinds.Word words.Choose) ⨟ name n
ModeText (mode.DefinitionName s) = ScopeText s
ModeText (mode.DefinitionNamed s n p) = ScopeText s ⨟ token p (kinds.Name n)
ModeText (mode.Parameter s n p ns) = ScopeText s ⨟ token p (kinds.Name n) ⨟ sign symbols.OpenParenthesis ⨟ NamesBefore ns
ModeText (mode.ParameterNamed s n p ns) = ScopeText s ⨟ token p (kinds.Name n) ⨟ sign symbols.OpenParenthesis ⨟ NamesText ns
ModeText (mode.DefinedAs s n p form) = ScopeText s ⨟ token p (kinds.Name n) ⨟ FormText form
ModeText (mode.ExceptMark at e cs) = ExceptText at e cs
ModeText (mode.ExceptPath at e cs ss) = PathText at e cs ss
ModeText (mode.ExceptField at e cs ss q) = PathText at e cs ss ⨟ sign_at q symbols.Dot
ModeText (mode.FieldName e q) = Text e ⨟ sign_at q symbols.Dot
ModeText (mode.InstanceName at i) = token at (kinds.Name i) ⨟ sign symbols.Exclamation
ModeText (mode.RecordName k at hs) = sign_at at symbols.OpenBracket ⨟ FieldsBefore (field_mark k) hs
ModeText (mode.RecordNamed k at hs n) = sign_at at symbols.OpenBracket ⨟ FieldsBefore (field_mark k) hs ⨟ name n
ModeText (mode.SubscriptStart k at e) = ActionText k at e
ModeText (mode.FairStart at) = token at kinds.Fair
ModeText (mode.FairOpen at v) = token at kinds.Fair ⨟ Text v
ModeText (mode.CaseNext at arms) = token at (kinds.Word words.Case) ⨟ SomeArmsBefore arms
ModeText (mode.OtherArrow at arms) = token at (kinds.Word words.Case) ⨟ SomeArmsBefore arms ⨟ word words.Other
