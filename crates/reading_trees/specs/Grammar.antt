-- How expressions are spelled: by one clause for each row of the grammar, from a tree to its laid tokens. (The rows are this
-- project's profile of the grammar in Lamport's Specifying Systems. Which trees the ranges of the operators allow says Fits.)
--
-- The text of a part is a relation between the laid tokens from its beginning on and those behind it; `R ⨟ S` is R and then S.
use Rattle.std.specs.Prelude.{◌≡◌, ◌⊎◌, ℕ, Bool, true, false, ◌&&◌, ◌||◌, List, [], ◌∷◌, ◌++◌}
use Rattle.base_core.specs.declared.place.Place.{Place}
use Rattle.reading_trees.specs.declared.form.DefinitionForm.{DefinitionForm}
use Rattle.reading_trees.specs.declared.form.DefinitionForm.TheVariants as forms
use Rattle.reading_trees.specs.declared.laid.Bullet.{Bullet}
use Rattle.reading_trees.specs.declared.laid.Laid.{Laid}
use Rattle.reading_trees.specs.declared.laid.Laid.TheVariants.{Plain, ListOpen, ListItem, ListClose}
use Rattle.reading_tokens.specs.declared.token.Kind.{Kind}
use Rattle.reading_tokens.specs.declared.token.Kind.TheVariants as kinds
use Rattle.reading_tokens.specs.declared.token.Word.{Word}
use Rattle.reading_tokens.specs.declared.token.Word.TheVariants as words
use Rattle.reading_tokens.specs.declared.token.Symbol.{Symbol}
use Rattle.reading_tokens.specs.declared.token.Symbol.TheVariants as symbols
use Rattle.reading_trees.specs.declared.operators.InfixOperator.{InfixOperator}
use Rattle.reading_trees.specs.declared.operators.InfixOperator.TheVariants as infixes
use Rattle.reading_trees.specs.Trees.{Tree, Number, Str, Truth, Builtin, Name, Call, Qualified, At, Parenthesized, Junction, Prefix, Infix, Postfix, SetOf, Filter, Map, Tuple, Function, FunctionSet, Record, RecordSet, Except, Quantified, Choose, If, Case, CaseOther, Let, BoxAction, AngleAction, Fairness, Trees, NoTrees, MoreTrees, Operands, First, Next, Step, Prime, Index, Field, Steps, NoSteps, MoreSteps, Bounds, NoBounds, MoreBounds, Fields, NoFields, MoreFields, Changes, NoChanges, MoreChanges, Arms, NoArms, MoreArms, Definitions, NoDefinitions, MoreDefinitions}
use Rattle.reading_trees.specs.Precedence.{prefix_kind, infix_symbol, quantifier_symbol, truth_kind, builtin_kind}

-- from the laid tokens at the beginning of a part to those behind it
abbrev pub Span : Type 1
Span = List Laid → List Laid → Type 0

infixr 60 ◌⨟◌
-- one part and then another
abbrev pub ◌⨟◌ : Span → Span → Span
◌⨟◌ R S xs zs = (ys : List Laid) × R xs ys × S ys zs

abbrev pub nothing : Span
nothing xs ys = xs ≡ ys

abbrev pub never : Span
never xs ys = ⊥

-- one of two
abbrev pub either : Span → Span → Span
either R S xs ys = R xs ys ⊎ S xs ys

-- a part that stands only where something is so
abbrev pub only : Type 0 → Span → Span
only P R xs ys = P × R xs ys

-- of a definition of one form or of the other; what an instance gives for a constant has no text
abbrev pub by_form : DefinitionForm → Span → Span → Span
by_form forms.Operator R S = R
by_form forms.Function R S = S
by_form forms.Constant R S = never

-- a token of this kind at this place
abbrev pub token : Place → Kind → Span
token at kind xs ys = xs ≡ Plain (record { kind = kind; place = at }) ∷ ys

-- a token of this kind, wherever it stands
abbrev pub some_token : Kind → Span
some_token kind xs ys = (at : Place) × (xs ≡ Plain (record { kind = kind; place = at }) ∷ ys)

abbrev pub word : Word → Span
word w = some_token (kinds.Word w)

abbrev pub sign : Symbol → Span
sign s = some_token (kinds.Symbol s)

abbrev pub sign_at : Place → Symbol → Span
sign_at at s = token at (kinds.Symbol s)

abbrev pub name : List ℕ → Span
name n = some_token (kinds.Name n)

abbrev pub list_open : Place → Bullet → Span
list_open at b xs ys = xs ≡ ListOpen b at ∷ ys

abbrev pub list_item : Bullet → Span
list_item b xs ys = (at : Place) × (xs ≡ ListItem b at ∷ ys)

abbrev pub list_close : Span
list_close xs ys = (at : Place) × (xs ≡ ListClose at ∷ ys)

-- ---- names

-- each with a comma behind it
abbrev pub NamesBefore : List (List ℕ) → Span
NamesBefore [] = nothing
NamesBefore (n ∷ ns) = name n ⨟ sign symbols.Comma ⨟ NamesBefore ns

-- one or more, with commas between them
abbrev pub NamesText : List (List ℕ) → Span
NamesText [] = never
NamesText (n ∷ []) = name n
NamesText (n ∷ m ∷ ns) = name n ⨟ sign symbols.Comma ⨟ NamesText (m ∷ ns)

-- the parameters of an operator, where it has any
abbrev pub ParametersText : List (List ℕ) → Span
ParametersText [] = nothing
ParametersText (n ∷ ns) = sign symbols.OpenParenthesis ⨟ NamesText (n ∷ ns) ⨟ sign symbols.CloseParenthesis

-- the code of `!`
abbrev pub mark : ℕ
mark = 33

-- the qualified name `I!N`
abbrev pub qualified : List ℕ → List ℕ → List ℕ
qualified i n = i ++ mark ∷ n

-- how a qualified name is spelled: the name of an instance, `!`, and a name of its module
abbrev pub QualifiedName : Place → List ℕ → Span
QualifiedName at q xs ys = (i : List ℕ) × (n : List ℕ) × (q ≡ qualified i n) × (token at (kinds.Name i) ⨟ sign symbols.Exclamation ⨟ name n) xs ys

-- ---- conditions of rows

-- A postfix step stands behind a primary: neither an operator with its operands nor a row that reaches as far right as it can.
abbrev pub IsPrimary : Tree → Type 0
IsPrimary (Prefix at o e) = ⊥
IsPrimary (Infix at o es e) = ⊥
IsPrimary (Postfix at e ss s) = ⊥
IsPrimary (Quantified at q bs e) = ⊥
IsPrimary (Choose at n s e) = ⊥
IsPrimary (If at p e f) = ⊥
IsPrimary (Case at arms) = ⊥
IsPrimary (CaseOther at arms e) = ⊥
IsPrimary (Let at ds e) = ⊥
IsPrimary _ = Unit {0}

-- the subscript of an action or of fairness is a name, a tuple or an expression in parentheses
abbrev pub IsSubscript : Tree → Type 0
IsSubscript (Name at n) = Unit {0}
IsSubscript (Tuple at es) = Unit {0}
IsSubscript (Parenthesized at e) = Unit {0}
IsSubscript _ = ⊥

abbrev pub IsKey : Step → Type 0
IsKey Prime = ⊥
IsKey (Index es) = Unit {0}
IsKey (Field h) = Unit {0}

-- the path of a change is one or more steps, none of them a prime
abbrev pub IsPath : Steps → Type 0
IsPath NoSteps = ⊥
IsPath (MoreSteps NoSteps at s) = IsKey s
IsPath (MoreSteps (MoreSteps ss p s) at t) = IsPath (MoreSteps ss p s) × IsKey t

-- the name stands in none of the fields
abbrev pub IsNew : List ℕ → Fields → Type 0
IsNew n NoFields = Unit {0}
IsNew n (MoreFields fs m e) = IsNew n fs × ¬ (n ≡ m)

-- no field name stands twice
abbrev pub AreOnce : Fields → Type 0
AreOnce NoFields = Unit {0}
AreOnce (MoreFields fs n e) = AreOnce fs × IsNew n fs

abbrev pub is_member : InfixOperator → Bool
is_member infixes.Member = true
is_member _ = false

abbrev pub is_name : Tree → Bool
is_name (Name at n) = true
is_name _ = false

-- whether the text of a tree begins with a name and `\in`: where braces hold it and a `:`, they hold a name, a set and a test
abbrev mutual
  pub begins_member : Tree → Bool
  begins_member (Infix at o es e) = first_begins o es
  begins_member _ = false

  pub first_begins : InfixOperator → Operands → Bool
  first_begins o (First e) = is_member o && is_name e || begins_member e
  first_begins o (Next es at e) = first_begins o es

-- ---- expressions

abbrev mutual
  pub Text : Tree → Span
  Text (Number at n) = token at (kinds.Number n)
  Text (Str at s) = token at (kinds.Str s)
  Text (Truth at b) = token at (truth_kind b)
  Text (Builtin at b) = token at (builtin_kind b)
  Text (Name at n) = token at (kinds.Name n)
  Text (Call at n es) = token at (kinds.Name n) ⨟ sign symbols.OpenParenthesis ⨟ Commas es ⨟ sign symbols.CloseParenthesis
  Text (Qualified at q es) = QualifiedName at q ⨟ ArgumentsText es
  Text (At at) = sign_at at symbols.At
  Text (Parenthesized at e) = sign_at at symbols.OpenParenthesis ⨟ Text e ⨟ sign symbols.CloseParenthesis
  Text (Junction at b es) = list_open at b ⨟ Items b es ⨟ list_close
  Text (Prefix at o e) = token at (prefix_kind o) ⨟ Text e
  Text (Infix at o es e) = Chain o es ⨟ sign_at at (infix_symbol o) ⨟ Text e
  Text (Postfix at e ss s) = only (IsPrimary e) (Text e ⨟ StepsText ss ⨟ StepText at s)
  Text (SetOf at es) = sign_at at symbols.OpenBrace ⨟ MaybeCommas es ⨟ sign symbols.CloseBrace
  Text (Filter at n s e) = sign_at at symbols.OpenBrace ⨟ name n ⨟ sign symbols.Member ⨟ Text s ⨟ sign symbols.Colon ⨟ Text e ⨟ sign symbols.CloseBrace
  Text (Map at e bs) = only (begins_member e ≡ false) (sign_at at symbols.OpenBrace ⨟ Text e ⨟ sign symbols.Colon ⨟ BoundsText bs ⨟ sign symbols.CloseBrace)
  Text (Tuple at es) = sign_at at symbols.OpenTuple ⨟ MaybeCommas es ⨟ sign symbols.CloseTuple
  Text (Function at bs e) = sign_at at symbols.OpenBracket ⨟ BoundsText bs ⨟ sign symbols.MapsTo ⨟ Text e ⨟ sign symbols.CloseBracket
  Text (FunctionSet at s e) = sign_at at symbols.OpenBracket ⨟ Text s ⨟ sign symbols.Arrow ⨟ Text e ⨟ sign symbols.CloseBracket
  Text (Record at fs) = only (AreOnce fs) (sign_at at symbols.OpenBracket ⨟ FieldsText symbols.MapsTo fs ⨟ sign symbols.CloseBracket)
  Text (RecordSet at fs) = only (AreOnce fs) (sign_at at symbols.OpenBracket ⨟ FieldsText symbols.Colon fs ⨟ sign symbols.CloseBracket)
  Text (Except at e cs) = sign_at at symbols.OpenBracket ⨟ Text e ⨟ word words.Except ⨟ ChangesText cs ⨟ sign symbols.CloseBracket
  Text (Quantified at q bs e) = sign_at at (quantifier_symbol q) ⨟ BoundsText bs ⨟ sign symbols.Colon ⨟ Text e
  Text (Choose at n s e) = token at (kinds.Word words.Choose) ⨟ name n ⨟ sign symbols.Member ⨟ Text s ⨟ sign symbols.Colon ⨟ Text e
  Text (If at p e f) = token at (kinds.Word words.If) ⨟ Text p ⨟ word words.Then ⨟ Text e ⨟ word words.Else ⨟ Text f
  Text (Case at arms) = token at (kinds.Word words.Case) ⨟ ArmsText arms
  Text (CaseOther at arms e) = token at (kinds.Word words.Case) ⨟ SomeArmsBefore arms ⨟ word words.Other ⨟ sign symbols.Arrow ⨟ Text e
  Text (Let at ds e) = token at (kinds.Word words.Let) ⨟ SomeDefinitions ds ⨟ word words.In ⨟ Text e
  Text (BoxAction at e v) = only (IsSubscript v) (sign_at at symbols.OpenBracket ⨟ Text e ⨟ sign symbols.CloseBracketSubscript ⨟ Text v)
  Text (AngleAction at e v) = only (IsSubscript v) (sign_at at symbols.OpenTuple ⨟ Text e ⨟ sign symbols.CloseTupleSubscript ⨟ Text v)
  Text (Fairness at v e) = only (IsSubscript v) (token at kinds.Fair ⨟ Text v ⨟ sign symbols.OpenParenthesis ⨟ Text e ⨟ sign symbols.CloseParenthesis)

  -- one or more arguments in parentheses, or nothing
  pub ArgumentsText : Trees → Span
  ArgumentsText NoTrees = nothing
  ArgumentsText (MoreTrees es e) = sign symbols.OpenParenthesis ⨟ (CommasBefore es ⨟ Text e) ⨟ sign symbols.CloseParenthesis

  -- expressions, each with a comma behind it
  pub CommasBefore : Trees → Span
  CommasBefore NoTrees = nothing
  CommasBefore (MoreTrees es e) = CommasBefore es ⨟ Text e ⨟ sign symbols.Comma

  -- one or more expressions with commas between them
  pub Commas : Trees → Span
  Commas NoTrees = never
  Commas (MoreTrees es e) = CommasBefore es ⨟ Text e

  -- the same, or nothing
  pub MaybeCommas : Trees → Span
  MaybeCommas NoTrees = nothing
  MaybeCommas (MoreTrees es e) = CommasBefore es ⨟ Text e

  -- one or more items of a junction list, each behind its bullet
  pub Items : Bullet → Trees → Span
  Items b NoTrees = never
  Items b (MoreTrees es e) = ItemsBefore b es ⨟ list_item b ⨟ Text e

  pub ItemsBefore : Bullet → Trees → Span
  ItemsBefore b NoTrees = nothing
  ItemsBefore b (MoreTrees es e) = ItemsBefore b es ⨟ list_item b ⨟ Text e

  -- the operands of a chain but its last
  pub Chain : InfixOperator → Operands → Span
  Chain o (First e) = Text e
  Chain o (Next es at e) = Chain o es ⨟ sign_at at (infix_symbol o) ⨟ Text e

  pub StepText : Place → Step → Span
  StepText at Prime = sign_at at symbols.Prime
  StepText at (Index es) = sign_at at symbols.OpenBracket ⨟ Commas es ⨟ sign symbols.CloseBracket
  StepText at (Field h) = sign_at at symbols.Dot ⨟ name h

  pub StepsText : Steps → Span
  StepsText NoSteps = nothing
  StepsText (MoreSteps ss at s) = StepsText ss ⨟ StepText at s

  -- bounds `x, y \in S`, each with a comma behind it
  pub BoundsBefore : Bounds → Span
  BoundsBefore NoBounds = nothing
  BoundsBefore (MoreBounds bs ns s) = BoundsBefore bs ⨟ NamesText ns ⨟ sign symbols.Member ⨟ Text s ⨟ sign symbols.Comma

  -- one or more, with commas between them
  pub BoundsText : Bounds → Span
  BoundsText NoBounds = never
  BoundsText (MoreBounds bs ns s) = BoundsBefore bs ⨟ NamesText ns ⨟ sign symbols.Member ⨟ Text s

  -- fields, with `|->` or `:` behind their names, each with a comma behind it
  pub FieldsBefore : Symbol → Fields → Span
  FieldsBefore m NoFields = nothing
  FieldsBefore m (MoreFields fs h e) = FieldsBefore m fs ⨟ name h ⨟ sign m ⨟ Text e ⨟ sign symbols.Comma

  pub FieldsText : Symbol → Fields → Span
  FieldsText m NoFields = never
  FieldsText m (MoreFields fs h e) = FieldsBefore m fs ⨟ name h ⨟ sign m ⨟ Text e

  pub ChangesBefore : Changes → Span
  ChangesBefore NoChanges = nothing
  ChangesBefore (MoreChanges cs ss e) = ChangesBefore cs ⨟ only (IsPath ss) (sign symbols.Exclamation ⨟ StepsText ss ⨟ sign symbols.Equal ⨟ Text e) ⨟ sign symbols.Comma

  pub ChangesText : Changes → Span
  ChangesText NoChanges = never
  ChangesText (MoreChanges cs ss e) = ChangesBefore cs ⨟ only (IsPath ss) (sign symbols.Exclamation ⨟ StepsText ss ⨟ sign symbols.Equal ⨟ Text e)

  -- arms of a CASE, each with a `[]` behind it
  pub ArmsBefore : Arms → Span
  ArmsBefore NoArms = nothing
  ArmsBefore (MoreArms arms p e) = ArmsBefore arms ⨟ Text p ⨟ sign symbols.Arrow ⨟ Text e ⨟ sign symbols.Always

  -- the same, at least one
  pub SomeArmsBefore : Arms → Span
  SomeArmsBefore NoArms = never
  SomeArmsBefore (MoreArms arms p e) = ArmsBefore arms ⨟ Text p ⨟ sign symbols.Arrow ⨟ Text e ⨟ sign symbols.Always

  -- one or more, with `[]` between them
  pub ArmsText : Arms → Span
  ArmsText NoArms = never
  ArmsText (MoreArms arms p e) = ArmsBefore arms ⨟ Text p ⨟ sign symbols.Arrow ⨟ Text e

  -- the bounds of a function that is defined and its body, behind the name of its definition
  pub FunctionRest : Tree → Span
  FunctionRest (Function at bs e) = sign_at at symbols.OpenBracket ⨟ BoundsText bs ⨟ sign symbols.CloseBracket ⨟ sign symbols.Defined ⨟ Text e
  FunctionRest _ = never

  pub DefinitionsText : Definitions → Span
  DefinitionsText NoDefinitions = nothing
  DefinitionsText (MoreDefinitions ds n at ns form e) = DefinitionsText ds ⨟ token at (kinds.Name n) ⨟ by_form form (ParametersText ns ⨟ sign symbols.Defined ⨟ Text e) (only (ns ≡ []) (FunctionRest e))

  -- at least one
  pub SomeDefinitions : Definitions → Span
  SomeDefinitions NoDefinitions = never
  SomeDefinitions (MoreDefinitions ds n at ns form e) = DefinitionsText ds ⨟ token at (kinds.Name n) ⨟ by_form form (ParametersText ns ⨟ sign symbols.Defined ⨟ Text e) (only (ns ≡ []) (FunctionRest e))

-- what stands behind the name of a definition: of an operator its parameters and its body, of a function its bounds and its body
abbrev pub DefinitionRest : List (List ℕ) → DefinitionForm → Tree → Span
DefinitionRest ns form e = by_form form (ParametersText ns ⨟ sign symbols.Defined ⨟ Text e) (only (ns ≡ []) (FunctionRest e))
